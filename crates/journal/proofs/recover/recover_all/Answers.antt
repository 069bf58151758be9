use Rattle.std.proofs.lemmas.Result.{err_from_is_err_and}
use Rattle.store.specs.declared.keys.Key.TheVariants.{Target}
use Rattle.rules.specs.Open.{if_staged, cleared, standing}
use Rattle.journal.specs.Configs.{ruled}
use Rattle.journal.proofs.Recovering.{look_down}
use Rattle.journal.proofs.recover.recover_all.Goals as goal

pub returns-in_err-start : goal.returns-in_err-start
returns-in_err-start g c =
    let v = g.S.Store.view c.args.store.now in
    let rule = ruled c.args.config in
    let t = v.disk.present.target in
    let h = c.in_err-start.ensures in
    let p = err_from_is_err_and c.from_residual.result c.from_residual.ensures.1 in
    rw (p.1, p.2) (look_down (if_staged t (cleared rule c.args.ceiling v.disk) (standing rule c.args.ceiling v.disk)) v t c.in_err-start.field-0.0 Target h.0 h.1)
