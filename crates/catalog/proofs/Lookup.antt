-- The blobs of a table by place, and the lookup by number, for any g from rows to blobs.
use Rattle.std.proofs.Common.{◌≡◌, ℕ, Bool, true, false, eqb, suc, ◌<◌, ◌≤◌, List, [], ◌∷◌, map, length, get_or, Some, None, sym, refl, ap, ◌∙◌, subst, inl, inr, arith}
use lib.ListN.{length-map}
use Rattle.std.specs.List.Sorted.{IsNonDecreasingBy}
use Rattle.std.proofs.lemmas.List.{get_or-map, get_or-take, length-take-le}
use Rattle.std.proofs.lemmas.Bool.{cases_lt, eqb-true, eqb-false}
use Rattle.std.specs.Bool.{then_some}
use Rattle.store.specs.Disk.{Blob, blank, find, numbers, at_or_above, at_or_below}
use Rattle.store.specs.Laws.{Rising}
use Rattle.store.specs.Place.{Sought}
use Rattle.store.proofs.Places.{find_here, find_missing, length_numbers, above_here, above_none, below_here}
use Rattle.catalog.specs.declared.row.Row.{Row}
use Rattle.catalog.specs.declared.table.Table.{Table}
use Rattle.catalog.specs.Rows.{none, numbers_of, Ordered}
use Rattle.catalog.specs.Blobs.{live, row_at, entry_by, blobs_by}
use Rattle.catalog.specs.Found.{Here, FoundAt}
use Rattle.catalog.proofs.Live.{number_live, sought}

numbers_map : (g : Row → Blob) (rs : List Row) → numbers (map (entry_by g) rs) ≡ numbers_of rs
numbers_map g [] = refl
numbers_map g (r ∷ rs) = ap (λ ns. r.number ∷ ns) (numbers_map g rs)

module _ (t : Table) where
  pub many : t.count ≤ length t.rows
  many = omega (arith, t.long, t.few)

  pub length_rows : length (live t) ≡ t.count
  length_rows = length-take-le t.count t.rows many

  pub row_live : (i : ℕ) → i < t.count → get_or (live t) i none ≡ row_at t i
  row_live i l = get_or-take t.count t.rows i none l

  -- what `get` has read of the rows in use
  pub row_got : (rs : List Row) (i : ℕ) (r : Row) → rs ≡ live t → (i < length rs) × ((d : Row) → r ≡ get_or rs i d) → (i < t.count) × (r ≡ row_at t i)
  row_got rs i r e a =
      let l : i < t.count = omega (arith, a.0, ap length e, length_rows) in
      (l, a.1 none ∙ ap (λ qs. get_or qs i none) e ∙ row_live i l)

  -- what a search of the rows in use has shown
  pub sought_live : (b i : ℕ) → i ≤ t.count → ((k : ℕ) → k < i → (get_or (live t) k none).number < b) → (i < t.count → b ≤ (get_or (live t) i none).number)
      → Sought b (numbers_of (live t)) i
  sought_live b i l f a =
      sought t.rows t.count many b i l
      (λ k m. omega (arith, f k m, ap (λ (r : Row). r.number) (row_live k (omega arith))))
      (λ m. omega (arith, a m, ap (λ (r : Row). r.number) (row_live i m)))

  -- by rising number
  pub rows_rise : IsNonDecreasingBy (λ (r : Row). r.number) (live t)
  rows_rise i j d l m =
      let f = λ (r : Row). r.number in
      let x = get_or-map f (live t) i d 0 (omega arith) in
      let y = get_or-map f (live t) j d 0 m in
      let n = length-map (live t) f in
      elim (cases_lt i j) [
        | inl a ↦ omega (arith, x, y, t.rising i j a (omega arith))
        | inr a ↦ let e : i ≡ j = omega arith in omega (arith, ap (λ k. (get_or (live t) k d).number) e)
      ]

  -- a fact of each row in use
  pub at_row : (P : Row → Type 0) → ((k : ℕ) → k < length (live t) → P (get_or (live t) k none)) → (i : ℕ) → i < t.count → P (row_at t i)
  at_row P h i l = subst P (row_live i l) (h i (omega (arith, length_rows)))

module _ (g : Row → Blob) (t : Table) where
  pub numbers_blobs : numbers (blobs_by g t) ≡ numbers_of (live t)
  numbers_blobs = numbers_map g (live t)

  pub length_blobs : length (blobs_by g t) ≡ t.count
  length_blobs = length-map (live t) (entry_by g) ∙ length_rows t

  pub blob_at_lem : (i : ℕ) → i < t.count → get_or (blobs_by g t) i (0, blank) ≡ entry_by g (row_at t i)
  blob_at_lem i l =
      let m : i < length (live t) = rw (length_rows t) l in
      get_or-map (entry_by g) (live t) i none (0, blank) m ∙ ap (entry_by g) (row_live t i l)

  pub number_at : (i : ℕ) → i < t.count → get_or (numbers (blobs_by g t)) i 0 ≡ (row_at t i).number
  number_at i l = ap (λ ns. get_or ns i 0) numbers_blobs ∙ number_live t.rows t.count (many t) i l

  pub rising_blobs : Rising (numbers (blobs_by g t))
  rising_blobs = rw numbers_blobs t.rising

  -- what a search by place knows of the numbers of the blobs
  module _ (b i : ℕ) (f : Sought b (numbers_of (live t)) i) where
    pub sought_blobs : Sought b (numbers (blobs_by g t)) i
    sought_blobs = rw numbers_blobs f

    -- b is at its place
    pub found_at : i < t.count → (row_at t i).number ≡ b → find (blobs_by g t) b ≡ Some (g (row_at t i))
    found_at l e =
        find_here b (blobs_by g t) i (omega (arith, length_blobs)) sought_blobs.1 (number_at i l ∙ e)
        ∙ ap (λ (x : ℕ × Blob). Some x.1) (blob_at_lem i l)

    pub above_at : i < t.count → Some (row_at t i).number ≡ at_or_above b (blobs_by g t)
    above_at l =
        let n = length_numbers (blobs_by g t) in
        sym (above_here b (blobs_by g t) i (omega (arith, length_blobs)) sought_blobs.1 (sought_blobs.2 (omega (arith, length_blobs))) ∙ ap Some (number_at i l))

    pub above_past : t.count ≤ i → None ≡ at_or_above b (blobs_by g t)
    above_past l = sym (above_none b (blobs_by g t) (λ k m. sought_blobs.1 k (omega (arith, length_blobs))))

    pub below_same : i < t.count → (row_at t i).number ≡ b → Some b ≡ at_or_below b (blobs_by g t)
    below_same l e =
        let n = length_numbers (blobs_by g t) in
        let h : get_or (numbers (blobs_by g t)) i 0 ≡ b = number_at i l ∙ e in
        sym
        (below_here b None (blobs_by g t) i (omega (arith, length_blobs))
        (λ k m. elim (cases_lt k i) [ inl q ↦ omega (arith, sought_blobs.1 k q) | inr q ↦ let z : k ≡ i = omega arith in omega (arith, ap (λ j. get_or (numbers (blobs_by g t)) j 0) z) ])
        (λ m. omega (arith, rising_blobs i (suc i) (omega arith) (omega arith)))
        ∙ ap Some h)

  -- b is not there
  module _ (b i : ℕ) (f : Sought b (numbers_of (live t)) i) (e : i < t.count → (row_at t i).number ≡ b → ⊥) where
    pub above_b : i < length (blobs_by g t) → b < get_or (numbers (blobs_by g t)) i 0
    above_b l =
        let m : i < t.count = omega (arith, length_blobs) in
        let n = length_numbers (blobs_by g t) in
        let q = (sought_blobs b i f).2 (omega arith) in
        let v = number_at i m in
        let u : b ≡ (row_at t i).number → ⊥ = λ x. e m (sym x) in
        omega arith

    pub missing : find (blobs_by g t) b ≡ None
    missing = find_missing b (blobs_by g t) i rising_blobs (sought_blobs b i f).1 above_b

    pub below_prior : (j : ℕ) → suc j ≡ i → Some (row_at t j).number ≡ at_or_below b (blobs_by g t)
    below_prior j z =
        let s = sought_blobs b i f in
        let n = length_numbers (blobs_by g t) in
        let l : j < t.count = omega (arith, s.0, length_blobs) in
        sym
        (below_here b None (blobs_by g t) j (omega (arith, length_blobs)) (λ k m. omega (arith, s.1 k (omega arith))) (rw z above_b)
        ∙ ap Some (number_at j l))

pub here : (t : Table) (b i : ℕ) → Sought b (numbers_of (live t)) i → i < t.count → (row_at t i).number ≡ b → Here b t i
here t b i f l e =
    let o = at_row t Ordered t.ordered i l in
    record { within = l; before = f.1; number = e; safe_within = o.0; sound_within = o.1; fits = o.2; found = λ g. found_at g t b i f l e }

-- the row at the place of b is that of b, or b has none
pub found_by : (t : Table) (b i : ℕ) (q : Bool) → Sought b (numbers_of (live t)) i → i < t.count → eqb (row_at t i).number b ≡ q → FoundAt b t (then_some q i)
found_by t b i true f l e = here t b i f l (eqb-true (row_at t i).number b e)
found_by t b i false f l e = λ g. missing g t b i f (λ m. eqb-false (row_at t i).number b e)

pub found_past : (t : Table) (b i : ℕ) → Sought b (numbers_of (live t)) i → t.count ≤ i → FoundAt b t None
found_past t b i f l = λ g. missing g t b i f (λ m. absurd (omega arith))
