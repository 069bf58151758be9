use Rattle.std.proofs.Common.{refl, sym, subst}
use Rattle.store.specs.Disk.{numbers}
use Rattle.rules.specs.Rules.{answer, answered, clearing, Follows}
use Rattle.rules.specs.Open.{Opened}
use Rattle.rules.specs.Calls.{complete_rule}
use Rattle.journal.specs.Configs.{ruled}
use Rattle.journal.specs.Logs.{empty_at}
use Rattle.journal.proofs.Taken.{asks_done, asks_stopped, told_stops}
use Rattle.journal.proofs.staged.StagedClear.complete.Goals as goal

pub returns-in-Ok : goal.returns-in-Ok
returns-in-Ok g c =
    let v = g.S.Store.view c.args.store in
    let w = g.S.Store.view c.complete_clear.new.store in
    let rule = ruled c.args.self.config in
    let t = c.args.self.target in
    let o = empty_at t in
    let f = asks_done (answer o) (clearing rule t (numbers v.disk.blobs)) v w w (answered o) c.in-Ok.ensures (refl, refl) in
    (subst (λ (x : Opened). Follows (complete_rule rule v.disk t) v (answered x) w) (sym c.empty_at.ensures) f, refl)

pub returns-in-Err : goal.returns-in-Err
returns-in-Err g c =
    let v = g.S.Store.view c.args.store in
    let w = g.S.Store.view c.complete_clear.new.store in
    let t = c.args.self.target in
    told_stops (asks_stopped (answer (empty_at t)) (clearing (ruled c.args.self.config) t (numbers v.disk.blobs)) v w c.in-Err.e c.in-Err.ensures)
