use Rattle.std.proofs.Common.{leb, refl, arith}
use Rattle.std.proofs.lemmas.Bool.{le-leb, lt-leb}
use Rattle.rules.specs.Rules.{MAX, staging}
use Rattle.rules.specs.Rules as rules
use Rattle.journal.specs.declared.fault.Fault.TheVariants.{SizeOverflow}
use Rattle.journal.proofs.Taken.{guard_refused, guard_done, guard_stopped}
use Rattle.journal.proofs.log.Log.stage_clear.Goals as goal

pub returns-then-target-eq18446744073709551615 : goal.returns-then-target-eq18446744073709551615
returns-then-target-eq18446744073709551615 g c =
    let v = g.S.Store.view c.args.self.store in
    let t = c.args.target in
    (refl, guard_refused (leb MAX t) rules.SizeOverflow (staging v.disk.present t) (tt {0}) v SizeOverflow refl (le-leb MAX t (omega arith)))

pub returns-in-Ok : goal.returns-in-Ok
returns-in-Ok g c =
    let v = g.S.Store.view c.args.self.store in
    let t = c.args.target in
    let d = guard_done (leb MAX t) rules.SizeOverflow (staging v.disk.present t) (tt {0}) v (g.S.Store.view c.stage_clear.new.store) (lt-leb MAX t (omega arith)) c.in-Ok.ensures in
    (rw c.into_store.ensures d, (refl, refl))

pub returns-in-Err : goal.returns-in-Err
returns-in-Err g c =
    let v = g.S.Store.view c.args.self.store in
    let t = c.args.target in
    rw (c.into.ensures, c.ended_by.ensures)
    (guard_stopped (leb MAX t) rules.SizeOverflow (staging v.disk.present t) (tt {0}) v (g.S.Store.view c.stage_clear.new.store) c.in-Err.e (lt-leb MAX t (omega arith)) c.in-Err.ensures)
