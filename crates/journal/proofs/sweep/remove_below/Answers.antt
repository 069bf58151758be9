use Rattle.std.proofs.Common.{◌≡◌, ℕ, ◌∷◌, length, Some, Ok, Err, sym, ap, ◌∙◌, arith}
use Rattle.std.proofs.lemmas.Result.{err_from_is_err_and}
use Rattle.store.specs.Disk.{Disk, View, Remove, numbers, at_or_above, without}
use Rattle.rules.specs.Open.{below}
use Rattle.rules.specs.Calls.{up_to}
use Rattle.journal.specs.Logs.{edge_of}
use Rattle.journal.proofs.Taken.{turn_none, turn_done, turn_stop, answers}
use Rattle.journal.proofs.Walking.{up_all}
use Rattle.journal.proofs.Pruning.{up_to_none, up_to_next}
use Rattle.journal.proofs.sweep.remove_below.Goals as goal

pub returns : goal.returns
returns g c =
    let v = g.S.Store.view c.blobs.store in
    let e = edge_of c.args.edge in
    let ns = up_to e (numbers v.disk.blobs) in
    let q = answers v.up (at_or_above 0 (below e v.disk.blobs)) c.in_ok-b.field-0 c.in_ok-b.ensures in
    let z = up_to_none e v.disk.blobs (up_all v (g.met.S.Store.lawful c.blobs.store)) (q.1 ∙ c.in_default.is) in
    c.blobs.invariant (Ok tt) v (turn_none Remove ns v (tt {0}) z q.0)

pub returns-in_err-remove : goal.returns-in_err-remove
returns-in_err-remove g c =
    let v = g.S.Store.view c.blobs.store in
    let e = edge_of c.args.edge in
    let ns = up_to e (numbers v.disk.blobs) in
    let q = answers v.up (at_or_above 0 (below e v.disk.blobs)) c.in_ok-b.field-0 c.in_ok-b.ensures in
    let b = c.in-Some.b in
    let w = g.S.Store.view c.remove.new.store in
    let y = c.in_err-remove.field-0.0 in
    let n = up_to_next e b v.disk.blobs (q.1 ∙ c.in-Some.is) in
    let p = err_from_is_err_and c.from_residual-in_err-remove.result c.from_residual-in_err-remove.ensures.1 in
    rw (p.1, p.2) (c.blobs.invariant (Err y) w (turn_stop Remove ns (up_to e (numbers (without b v.disk.blobs))) b v w y n q.0 c.in_err-remove.ensures))

-- those that are left, once the first is removed
left : (v u : View) (e b : ℕ) → u.disk.blobs ≡ without b v.disk.blobs → at_or_above 0 (below e v.disk.blobs) ≡ Some b → up_to e (numbers v.disk.blobs) ≡ b ∷ up_to e (numbers u.disk.blobs)
left v u e b d q = up_to_next e b v.disk.blobs q ∙ ap (λ xs. b ∷ up_to e (numbers xs)) (sym d)

pub blobs-smaller : goal.blobs-smaller
blobs-smaller g c =
    let v = g.S.Store.view c.blobs.store in
    let e = edge_of c.args.edge in
    let ns = up_to e (numbers v.disk.blobs) in
    let q = answers v.up (at_or_above 0 (below e v.disk.blobs)) c.in_ok-b.field-0 c.in_ok-b.ensures in
    let u = g.S.Store.view c.remove.new.store in
    let n = left v u e c.in-Some.b (ap (λ (k : Disk). k.blobs) c.in_ok-remove.ensures.2) (q.1 ∙ c.in-Some.is) in
    omega (arith, ap length n)

pub blobs-preserved : goal.blobs-preserved
blobs-preserved g c r w a =
    let v = g.S.Store.view c.blobs.store in
    let e = edge_of c.args.edge in
    let ns = up_to e (numbers v.disk.blobs) in
    let q = answers v.up (at_or_above 0 (below e v.disk.blobs)) c.in_ok-b.field-0 c.in_ok-b.ensures in
    let u = g.S.Store.view c.remove.new.store in
    let d = c.in_ok-remove.ensures in
    let n = left v u e c.in-Some.b (ap (λ (k : Disk). k.blobs) d.2) (q.1 ∙ c.in-Some.is) in
    c.blobs.invariant r w (turn_done Remove ns (up_to e (numbers u.disk.blobs)) c.in-Some.b v u w r n q.0 d a)
