use Rattle.std.proofs.Common.{◌≡◌, ℕ, ◌+◌, List, ◌∷◌, map, Some, Ok, Err, sym, ap, ◌∙◌, subst, arith}
use Rattle.std.proofs.lemmas.Result.{err_from_is_err_and}
use Rattle.store.specs.Disk.{Disk, View, Sync, done, numbers, at_or_above, synced}
use Rattle.store.specs.Laws.{Lawful}
use Rattle.rules.specs.Calls.{from}
use Rattle.journal.specs.Steps.{Asks}
use Rattle.journal.proofs.Taken.{turn_none, turn_done, turn_stop, answers}
use Rattle.journal.proofs.Walking.{up_all, above_le}
use Rattle.journal.proofs.Listing.{from_zero, from_none, from_some, from_past, numbers_change}
use Rattle.journal.proofs.sweep.sync_all.Goals as goal

pub blobs-init : goal.blobs-init
blobs-init g c r w a =
    let v = g.S.Store.view c.args.store.now in
    subst (λ (ns : List ℕ). Asks (map Sync ns) v r w) (from_zero (numbers v.disk.blobs)) a

pub returns : goal.returns
returns g c =
    let v = g.S.Store.view c.blobs.store in
    let ns = from c.blobs.at (numbers v.disk.blobs) in
    let q = answers v.up (at_or_above c.blobs.at v.disk.blobs) c.in_ok-b.field-0 c.in_ok-b.ensures in
    c.blobs.invariant (Ok tt) v (turn_none Sync ns v (tt {0}) (from_none c.blobs.at v.disk.blobs (q.1 ∙ c.in_default.is)) q.0)

pub returns-in_err-sync : goal.returns-in_err-sync
returns-in_err-sync g c =
    let v = g.S.Store.view c.blobs.store in
    let ns = from c.blobs.at (numbers v.disk.blobs) in
    let q = answers v.up (at_or_above c.blobs.at v.disk.blobs) c.in_ok-b.field-0 c.in_ok-b.ensures in
    let b = c.in-Some.b in
    let w = g.S.Store.view c.sync.new.store in
    let y = c.in_err-sync.field-0.0 in
    let n = from_some 0 c.blobs.at b v.disk.blobs (up_all v (g.met.S.Store.lawful c.blobs.store)) (q.1 ∙ c.in-Some.is) in
    let p = err_from_is_err_and c.from_residual-in_err-sync.result c.from_residual-in_err-sync.ensures.1 in
    rw (p.1, p.2) (c.blobs.invariant (Err y) w (turn_stop Sync ns (from (b + 1) (numbers v.disk.blobs)) b v w y n q.0 c.in_err-sync.ensures))

pub blobs-smaller : goal.blobs-smaller
blobs-smaller g c =
    let v = g.S.Store.view c.blobs.store in
    let ns = from c.blobs.at (numbers v.disk.blobs) in
    let q = answers v.up (at_or_above c.blobs.at v.disk.blobs) c.in_ok-b.field-0 c.in_ok-b.ensures in
    let l = above_le c.blobs.at c.in-Some.b v.disk.blobs (q.1 ∙ c.in-Some.is) in
    omega (arith, c.in-Some-checked_add.ensures)

-- those that are left, once the first is synced
left : (v u : View) (at b : ℕ) → Lawful v → u.disk ≡ done (Sync b) v.disk → at_or_above at v.disk.blobs ≡ Some b → from at (numbers v.disk.blobs) ≡ b ∷ from (b + 1) (numbers u.disk.blobs)
left v u at b laws d q =
    let same : numbers u.disk.blobs ≡ numbers v.disk.blobs = ap (λ (k : Disk). numbers k.blobs) d ∙ numbers_change synced b v.disk.blobs in
    from_some 0 at b v.disk.blobs (up_all v laws) q ∙ ap (λ (ms : List ℕ). b ∷ from (b + 1) ms) (sym same)

pub blobs-preserved : goal.blobs-preserved
blobs-preserved g c r w a =
    let v = g.S.Store.view c.blobs.store in
    let ns = from c.blobs.at (numbers v.disk.blobs) in
    let q = answers v.up (at_or_above c.blobs.at v.disk.blobs) c.in_ok-b.field-0 c.in_ok-b.ensures in
    let b = c.in-Some.b in
    let u = g.S.Store.view c.sync.new.store in
    let d = c.in_ok-sync.ensures in
    let n = left v u c.blobs.at b (g.met.S.Store.lawful c.blobs.store) d.2 (q.1 ∙ c.in-Some.is) in
    let rest = subst (λ (k : ℕ). Asks (map Sync (from k (numbers u.disk.blobs))) u r w) c.in-Some-checked_add.ensures.1 a in
    c.blobs.invariant r w (turn_done Sync ns (from (b + 1) (numbers u.disk.blobs)) b v u w r n q.0 d rest)

pub returns-in_default-checked_add : goal.returns-in_default-checked_add
returns-in_default-checked_add g c =
    let v = g.S.Store.view c.blobs.store in
    let ns = from c.blobs.at (numbers v.disk.blobs) in
    let q = answers v.up (at_or_above c.blobs.at v.disk.blobs) c.in_ok-b.field-0 c.in_ok-b.ensures in
    let b = c.in-Some.b in
    let u = g.S.Store.view c.sync.new.store in
    let d = c.in_ok-sync.ensures in
    let n = left v u c.blobs.at b (g.met.S.Store.lawful c.blobs.store) d.2 (q.1 ∙ c.in-Some.is) in
    let ms = from (b + 1) (numbers u.disk.blobs) in
    let z = from_past u b (g.met.S.Store.lawful c.sync.new.store) c.in_default-checked_add.ensures in
    c.blobs.invariant (Ok tt) u (turn_done Sync ns ms b v u u (Ok (tt {0})) n q.0 d (turn_none Sync ms u (tt {0}) z d.1))
