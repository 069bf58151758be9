-- The rows in use: the first n of the table's.
use Rattle.std.proofs.Common.{◌≡◌, ℕ, zero, suc, ◌<◌, ◌≤◌, List, [], ◌∷◌, map, length, get_or, take, set, sym, refl, ap, ◌∙◌, subst, inl, inr, arith}
use lib.ListN.{length-map}
use Rattle.std.proofs.lemmas.List.{get_or-map, get_or-take, length-take-le, get_or-set_same, get_or-set_other, length-set}
use Rattle.std.proofs.lemmas.Bool.{cases_eq}
use Rattle.store.specs.Place.{Sought}
use Rattle.catalog.specs.declared.row.Row.{Row}
use Rattle.catalog.specs.Rows.{none, numbers_of, Each}

module _ (rs : List Row) (n : ℕ) (h : n ≤ length rs) where
  pub length_live : length (numbers_of (take n rs)) ≡ n
  length_live = length-map (take n rs) (λ (r : Row). r.number) ∙ length-take-le n rs h

  pub number_live : (k : ℕ) → k < n → get_or (numbers_of (take n rs)) k 0 ≡ (get_or rs k none).number
  number_live k l =
      let m : k < length (take n rs) = rw (length-take-le n rs h) l in
      get_or-map (λ (r : Row). r.number) (take n rs) k none 0 m ∙ ap (λ (r : Row). r.number) (get_or-take n rs k none l)

  -- what a search by place has shown
  pub sought : (b i : ℕ) → i ≤ n → ((k : ℕ) → k < i → (get_or rs k none).number < b) → (i < n → b ≤ (get_or rs i none).number)
      → Sought b (numbers_of (take n rs)) i
  sought b i l f a = (
    omega (arith, length_live),
    λ k m. omega (arith, number_live k (omega arith), f k m),
    λ m. let p : i < n = omega (arith, length_live) in omega (arith, number_live i p, a p),
  )

-- one row is changed ---------------------------------------------------------------------------------

-- what the new row has as the old one had it
pub map_same : {B : Type 0} (f : Row → B) (rs : List Row) (i : ℕ) (r : Row) → f r ≡ f (get_or rs i none) → map f (set rs i r) ≡ map f rs
map_same f [] i r e = refl
map_same f (x ∷ rs) zero r e = ap (λ n. n ∷ map f rs) e
map_same f (x ∷ rs) (suc i) r e = ap (λ ns. f x ∷ ns) (map_same f rs i r e)

pub take_set_in : {A : Type 0} (n : ℕ) (xs : List A) (i : ℕ) (x : A) → i < n → take n (set xs i x) ≡ set (take n xs) i x
take_set_in zero xs i x l = absurd (omega arith)
take_set_in (suc n) [] i x l = refl
take_set_in (suc n) (y ∷ xs) zero x l = refl
take_set_in (suc n) (y ∷ xs) (suc i) x l = ap (λ r. y ∷ r) (take_set_in n xs i x (omega arith))

pub each_set : (P : Row → Type 0) (rs : List Row) (i : ℕ) (r : Row) → P r → Each P rs → Each P (set rs i r)
each_set P rs i r p h k l =
    let m : k < length rs = omega (arith, length-set rs i r) in
    elim (cases_eq k i) [
      | inl e ↦ let q : i < length rs = omega arith in subst P (sym (ap (λ j. get_or (set rs i r) j none) e ∙ get_or-set_same rs i r none q)) p
      | inr n ↦ subst P (sym (get_or-set_other rs i k r none n)) (h k m)
    ]
