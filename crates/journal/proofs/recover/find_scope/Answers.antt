use Rattle.std.proofs.Common.{ℕ, Option, sym, ap, ◌∙◌, subst}
use Rattle.std.proofs.lemmas.Result.{err_from_is_err_and}
use Rattle.store.specs.declared.keys.Key.TheVariants.{Hint}
use Rattle.rules.specs.Rules.{Plan}
use Rattle.rules.specs.Open.{Opened, lowest, standing, start_at}
use Rattle.journal.specs.Configs.{ruled}
use Rattle.journal.specs.Recovery.{Tells, admitted, spanned}
use Rattle.journal.proofs.Taken.{answers}
use Rattle.journal.proofs.Recovering.{look_down, told_ends}
use Rattle.journal.proofs.recover.find_scope.Goals as goal

pub returns-in_err-hint : goal.returns-in_err-hint
returns-in_err-hint g c =
    let v = g.S.Store.view c.args.store.now in
    let h = c.in_err-hint.ensures in
    let p = err_from_is_err_and c.from_residual.result c.from_residual.ensures.1 in
    rw (p.1, p.2) (look_down (standing (ruled c.args.config) c.args.ceiling v.disk) v v.disk.present.hint c.in_err-hint.field-0.0 Hint h.0 h.1)

pub returns-in_err-start : goal.returns-in_err-start
returns-in_err-start g c =
    let v = g.S.Store.view c.args.store.now in
    let rule = ruled c.args.config in
    let f = c.in_err-start.field-0.0 in
    let q = answers v.up v.disk.present.hint c.in_ok-hint.hint c.in_ok-hint.ensures in
    let k : ℕ → Plan Opened = λ s. admitted rule s c.args.ceiling v.disk.blobs (spanned rule s c.args.ceiling v.disk) in
    let t = subst (λ (o : Option ℕ). Tells f (start_at rule o (lowest v.disk.blobs) k)) (sym q.1) (c.in_err-start.ensures k) in
    let p = err_from_is_err_and c.from_residual-in_err-start.result c.from_residual-in_err-start.ensures.1 in
    rw (p.1, p.2) (told_ends (standing rule c.args.ceiling v.disk) v f q.0 t)

pub returns-in_err-admit : goal.returns-in_err-admit
returns-in_err-admit g c =
    let v = g.S.Store.view c.args.store.now in
    let rule = ruled c.args.config in
    let f = c.in_err-admit.field-0.0 in
    let q = answers v.up v.disk.present.hint c.in_ok-hint.hint c.in_ok-hint.ensures in
    let k : ℕ → Plan Opened = λ s. admitted rule s c.args.ceiling v.disk.blobs (spanned rule s c.args.ceiling v.disk) in
    let e = ap (λ (o : Option ℕ). start_at rule o (lowest v.disk.blobs) k) q.1 ∙ c.in_ok-start.ensures k in
    let t = subst (λ (x : Plan Opened). Tells f x) (sym e) (c.in_err-admit.ensures (spanned rule c.in_ok-start.start c.args.ceiling v.disk)) in
    let p = err_from_is_err_and c.from_residual-in_err-admit.result c.from_residual-in_err-admit.ensures.1 in
    rw (p.1, p.2) (told_ends (standing rule c.args.ceiling v.disk) v f q.0 t)
