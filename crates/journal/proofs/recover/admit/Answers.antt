use Rattle.std.proofs.lemmas.Result.{err_from_is_err_and}
use Rattle.journal.specs.Configs.{ruled}
use Rattle.journal.proofs.Recovering.{admit_over}
use Rattle.journal.proofs.recover.admit.Goals as goal

pub returns-in_err-first_position : goal.returns-in_err-first_position
returns-in_err-first_position g c =
    let v = g.S.Store.view c.args.live.now.store.now in
    let s = c.args.scope in
    let laws = g.met.S.Store.lawful c.args.live.now.store.now in
    let p = err_from_is_err_and c.from_residual-in_err-first_position.result c.from_residual-in_err-first_position.ensures.1 in
    rw (p.1, p.2)
    (admit_over (ruled s.config) s.start s.ceiling v c.in_ok-highest_below.field-0 laws c.in_ok-highest_below.ensures c.in_ok-reach.ensures c.in_err-first_position.field-0.0 c.in_err-first_position.ensures)
