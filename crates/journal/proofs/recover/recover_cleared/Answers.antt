use Rattle.std.proofs.Common.{sym, subst}
use Rattle.std.proofs.lemmas.Result.{err_from_is_err_and}
use Rattle.rules.specs.Rules.{ask, answered, Follows}
use Rattle.rules.specs.Open.{Opened, cleared}
use Rattle.journal.specs.Configs.{ruled}
use Rattle.journal.proofs.Recovering.{cleared_low, cleared_done, cleared_stops}
use Rattle.journal.proofs.recover.recover_cleared.Goals as goal

pub returns-in_err-complete_clear : goal.returns-in_err-complete_clear
returns-in_err-complete_clear g c =
    let v = g.S.Store.view c.args.store.now in
    let s = c.args.scope in
    let w = g.S.Store.view c.complete_clear.new.store in
    let p = err_from_is_err_and c.from_residual.result c.from_residual.ensures.1 in
    rw (p.1, p.2) (cleared_stops (ruled s.config) s.ceiling v w s.start c.in_err-complete_clear.field-0.0 c.in_err-complete_clear.ensures)

pub returns-in_err-reach : goal.returns-in_err-reach
returns-in_err-reach g c =
    let v = g.S.Store.view c.args.store.now in
    let s = c.args.scope in
    let w = g.S.Store.view c.complete_clear.new.store in
    let h = c.in_err-reach.ensures in
    let p = err_from_is_err_and c.from_residual-in_err-reach.result c.from_residual-in_err-reach.ensures.1 in
    rw (p.1, p.2, h.1) (cleared_low (ruled s.config) s.ceiling v w s.start c.in_ok-complete_clear.ensures h.0)

pub returns : goal.returns
returns g c =
    let v = g.S.Store.view c.args.store.now in
    let s = c.args.scope in
    let w = g.S.Store.view c.complete_clear.new.store in
    subst (λ (o : Opened). Follows (ask (cleared (ruled s.config) s.ceiling v.disk s.start)) v (answered o) w) (sym c.empty_at.ensures)
    (cleared_done (ruled s.config) s.ceiling v w s.start c.in_ok-complete_clear.ensures c.in_ok-reach.ensures)
