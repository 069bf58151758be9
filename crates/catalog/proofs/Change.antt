-- One row is changed, and with it what rows stand for (g before, h after): what the blobs are then.
use Rattle.std.proofs.Common.{◌≡◌, ℕ, zero, suc, ◌<◌, List, [], ◌∷◌, map, length, get_or, take, set, sym, refl, ap, ◌∙◌, subst, arith}
use Rattle.std.proofs.lemmas.List.{map-set}
use Rattle.store.specs.Disk.{Blob, change, numbers}
use Rattle.store.specs.Laws.{Whole, AllWhole}
use Rattle.store.proofs.Places.{change_here}
use Rattle.catalog.specs.declared.row.Row.{Row}
use Rattle.catalog.specs.declared.table.Table.{Table}
use Rattle.catalog.specs.Rows.{none, Each}
use Rattle.catalog.specs.Blobs.{live, row_at, entry_by, blobs_by}
use Rattle.catalog.specs.Found.{Here}
use Rattle.catalog.proofs.Live.{take_set_in, each_set, map_same}
use Rattle.catalog.proofs.Lookup.{numbers_blobs, length_rows, length_blobs, row_live, blob_at_lem, number_at}

-- every blob of a store is whole if every row's is
whole_rows : (g : Row → Blob) (rs : List Row) → ((k : ℕ) → k < length rs → Whole (g (get_or rs k none))) → AllWhole (map (entry_by g) rs)
whole_rows g [] h = tt
whole_rows g (r ∷ rs) h = (h 0 (omega arith), whole_rows g rs (λ k l. h (suc k) (omega arith)))

pub whole_blobs : (g : Row → Blob) (t : Table) → ((i : ℕ) → i < t.count → Whole (g (row_at t i))) → AllWhole (blobs_by g t)
whole_blobs g t h =
    whole_rows g (live t)
    (λ k l. let i : k < t.count = omega (arith, length_rows t) in subst (λ (r : Row). Whole (g r)) (sym (row_live t k i)) (h k i))

-- lists that agree but at one place
map_agree : {B : Type 0} (g h : Row → B) (rs : List Row) → ((k : ℕ) → k < length rs → g (get_or rs k none) ≡ h (get_or rs k none)) → map g rs ≡ map h rs
map_agree g h [] a = refl
map_agree g h (r ∷ rs) a =
    ap (λ x. x ∷ map g rs) (a 0 (omega arith)) ∙ ap (λ xs. h r ∷ xs) (map_agree g h rs (λ k l. a (suc k) (omega arith)))

set_agree : {B : Type 0} (g h : Row → B) (rs : List Row) (i : ℕ) (x : B) → ((k : ℕ) → k < length rs → (k ≡ i → ⊥) → g (get_or rs k none) ≡ h (get_or rs k none))
    → set (map g rs) i x ≡ set (map h rs) i x
set_agree g h [] i x a = refl
set_agree g h (r ∷ rs) zero x a = ap (λ xs. x ∷ xs) (map_agree g h rs (λ k l. a (suc k) (omega arith) (λ e. omega arith)))
set_agree g h (r ∷ rs) (suc i) x a =
    ap (λ y. y ∷ set (map g rs) i x) (a 0 (omega arith) (λ e. omega arith))
    ∙ ap (λ xs. h r ∷ xs) (set_agree g h rs i x (λ k l n. a (suc k) (omega arith) (λ e. n (omega arith))))

-- row i of t becomes r in u
module _ (t : Table) (i : ℕ) (r : Row) (u : Table) (rows : u.rows ≡ set t.rows i r) (count : u.count ≡ t.count) where
  live_changed : i < t.count → live u ≡ set (live t) i r
  live_changed l = ap (λ k. take k u.rows) count ∙ ap (take t.count) rows ∙ take_set_in t.count t.rows i r l

  -- the other blobs are as they were
  pub set_blob : (g h : Row → Blob) → i < t.count → ((k : ℕ) → k < t.count → (k ≡ i → ⊥) → h (row_at t k) ≡ g (row_at t k))
      → blobs_by h u ≡ set (blobs_by g t) i (entry_by h r)
  set_blob g h l others =
      ap (map (entry_by h)) (live_changed l)
      ∙ map-set (entry_by h) (live t) i r
      ∙ set_agree (entry_by h) (entry_by g) (live t) i (entry_by h r)
      (λ k m d.
      let q : k < t.count = omega (arith, length_rows t) in
      rw (row_live t k q) (ap (λ (x : Blob). let y : ℕ × Blob = ((row_at t k).number, x) in y) (others k q d)))

  -- the same by the blob's number: its blob is f of what it was
  pub changed : (g h : Row → Blob) (b : ℕ) (f : Blob → Blob) → Here b t i → r.number ≡ b → h r ≡ f (g (row_at t i))
      → ((k : ℕ) → k < t.count → (k ≡ i → ⊥) → h (row_at t k) ≡ g (row_at t k)) → blobs_by h u ≡ change f b (blobs_by g t)
  changed g h b f at e new others =
      let before : (k : ℕ) → k < i → get_or (numbers (blobs_by g t)) k 0 < b = rw (numbers_blobs g t) at.before in
      let l : i < length (blobs_by g t) = omega (arith, length_blobs g t, at.within) in
      set_blob g h at.within others
      ∙ ap (λ (x : ℕ × Blob). set (blobs_by g t) i x)
      (ap (λ (m : ℕ). let y : ℕ × Blob = (m, h r) in y) e
      ∙ ap (λ (x : Blob). let y : ℕ × Blob = (b, x) in y) (new ∙ ap (λ (x : ℕ × Blob). f x.1) (sym (blob_at_lem g t i at.within))))
      ∙ sym (change_here b f (blobs_by g t) i l before (number_at g t i at.within ∙ at.number))

  -- a fact of each row in use
  pub each_changed : (P : Row → Type 0) → i < t.count → P r → Each P (live t) → Each P (live u)
  each_changed P l p h = subst (Each P) (sym (live_changed l)) (each_set P (live t) i r p h)

  -- what r has as the old row had it
  pub map_changed : (f : Row → ℕ) → f r ≡ f (row_at t i) → map f u.rows ≡ map f t.rows
  map_changed f e = ap (map f) rows ∙ map_same f t.rows i r e
