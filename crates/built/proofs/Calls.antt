-- A writing call from its beginning to its answer.
use Rattle.std.specs.Option.{unwrap_or}
use Rattle.std.proofs.Common.{is_some, Option, ℕ, ◌≡◌, ◌<◌, Bool, true, cond, Some, None, Ok, Err, Result, sym, refl, ap, ◌∙◌, subst, inl, arith}
use Rattle.store.specs.declared.cause.Cause.{Cause}
use Rattle.store.specs.declared.keys.Keys.{Keys}
use Rattle.store.specs.Disk.{View, Op, Does, Rooms, refuses, refuses_up, done}
use Rattle.store.specs.declared.cause.Cause.TheVariants.{Power}
use Rattle.catalog.specs.declared.catalog.Catalog.{Catalog}
use Rattle.catalog.specs.declared.table.Table.{Table}
use Rattle.catalog.specs.Blobs.{blobs_by}
use Rattle.catalog.specs.Seen as table
use Rattle.catalog.specs.Seen.{OneFewer, is_up, calls_left}
use Rattle.built.specs.declared.medium.Medium.{Ghosts}
use Rattle.built.specs.declared.built.Built.{Built}
use Rattle.built.specs.Laws.{Laws}
use Rattle.built.specs.Seen.{content_of, room_in, blob_in, seen}
use Rattle.built.specs.Calls.{Called, Begun, Kept}
use Rattle.built.proofs.Facts.{stands}

abbrev pub store_of : {S : Type 0} {M : Ghosts S} (m : S) (c : Catalog) → M.layout.Holds m c.table → Built S M
store_of m c h = record { medium = m; catalog = c; held = h }

module _ {S : Type 0} {M : Ghosts S} where
  -- a store is its medium and its catalog
  same_store : (m : S) (c d : Catalog) (h : M.layout.Holds m d.table) (k : M.layout.Holds m c.table) → d ≡ c → store_of {M = M} m d h ≡ store_of m c k
  same_store m c d h k e =
      subst (λ (x : Catalog). (z : M.layout.Holds m x.table) → store_of {M = M} m x z ≡ store_of m c k) (sym e) (λ z. ap (store_of {M = M} m c) (M.layout.one m c.table z k)) h

module _ {S : Type 0} {M : Ghosts S} (w : Laws M.layout) (s : Built S M) where
  pub begun : {A : Type 0} (r : Result A Cause) (d : Catalog) (h : M.layout.Holds s.medium d.table) → table.Begun s.catalog r d → Begun s r (store_of s.medium d h)
  begun (Ok x) d h e = (same_store s.medium s.catalog d h s.held e.0, e.1, e.2)
  begun (Err x) d h e = (refl, λ o. let k = e.1 o (content_of s) (room_in s) (stands w s) in record { wrote = k.0; counts = k.1 })

-- counting a call changes nothing that is seen
seen_finished : {S : Type 0} {M : Ghosts S} (x : Built S M) (y : Catalog) (h : M.layout.Holds x.medium y.table) → OneFewer x.catalog y
    → seen (store_of {M = M} x.medium y h) ≡ seen x
seen_finished x y h e =
    let v = λ (t : Table) (p q : Keys) (u : Bool). let z : View = record { disk = record { blobs = blobs_by (blob_in x) t; present = p; saved = q }; up = u; room = room_in x (blobs_by (blob_in x) t); most = 64 } in z in
    ap (λ (t : Table). v t y.present y.saved (is_up y)) e.table
    ∙ ap (λ (p : Keys). v x.catalog.table p y.saved (is_up y)) e.present
    ∙ ap (λ (q : Keys). v x.catalog.table x.catalog.present q (is_up y)) e.saved
    ∙ ap (λ (u : Bool). v x.catalog.table x.catalog.present x.catalog.saved u) e.up

module _ {S : Type 0} {M : Ghosts S} (o : Op) (s d : Built S M) (is : d ≡ s) (up : is_up s.catalog ≡ true) (calls : 0 < calls_left s.catalog) where
  still_up : is_up d.catalog ≡ true
  still_up = ap (λ (z : Built S M). is_up z.catalog) is ∙ up

  asked : refuses o (seen d) ≡ refuses_up o (seen d)
  asked = ap (λ (b : Bool). cond b (refuses_up o (seen d)) (Some Power)) still_up

  -- it is done
  pub called : (x : Built S M) (y : Catalog) (h : M.layout.Holds x.medium y.table) (r : Result (Unit {0}) Cause) → r ≡ Ok tt → OneFewer x.catalog y → Kept d x
      → refuses_up o (seen d) ≡ None → (seen x).disk ≡ done o (seen d).disk → Rooms o (seen d) (seen x) → Called o s r (store_of x.medium y h)
  called x y h r ok fewer kept allowed disk rooms =
      let f = store_of {M = M} x.medium y h in
      let u = still_up in
      let does : Does o (seen d) (seen x) = (asked ∙ allowed, ap is_some kept.power ∙ u, disk, refl, rooms) in
      subst (λ (z : Built S M). Called o z r f) is
      (subst (λ (q : Result (Unit {0}) Cause). Called o d q f) (sym ok)
      (record { wrote = subst (λ (v : View). Does o (seen d) v) (sym (seen_finished x y h fewer)) does; counts = omega (arith, fewer.calls, ap (λ (p : Option ℕ). unwrap_or p 0) kept.power) }))

  -- it is refused, and nothing has changed
  pub refused : {A : Type 0} (c : Cause) → refuses_up o (seen d) ≡ Some c → Called {A = A} o s (Err c) d
  refused {A} c e =
      let u = still_up in
      subst (λ (z : Built S M). Called {A = A} o z (Err c) d) is
      (record { wrote = inl (asked ∙ e, refl); counts = (refl, λ z. absurd (omega (arith, calls, ap (λ (y : Built S M). calls_left y.catalog) is, z)), λ l. refl) })
