-- Which blobs are listed, and what is left of the list after each call.
use Rattle.std.proofs.Common.{◌≡◌, ℕ, ◌+◌, ◌<◌, ◌≤◌, false, eqb, List, [], ◌∷◌, Some, None, Option, sym, refl, ap, ◌∙◌, inl, inr, arith}
use Rattle.std.proofs.lemmas.Bool.{lt-ltb, le-ltb, le-leb, lt-leb, ne_eqb, eqb-false, cases_lt, cases_Bool}
use Rattle.std.specs.Option.{option_eq}
use Rattle.store.specs.Disk.{Blob, Blobs, View, numbers, at_or_above, change}
use Rattle.store.specs.Laws.{Lawful}
use Rattle.store.proofs.Places.{above_none}
use Rattle.store.proofs.Places.{length_numbers as count_numbers}
use Rattle.rules.specs.Calls.{from, has}
use Rattle.journal.proofs.Taken.{impossible}
use Rattle.journal.proofs.Walking.{Up, above_le}

up_less : (a b : ℕ) (xs : Blobs) → a ≤ b → Up b xs → Up a xs
up_less a b [] l u = tt
up_less a b (x ∷ xs) l u = (let q = u.0 in omega arith, u.1)

-- the numbers from b on
pub from_zero : (ns : List ℕ) → from 0 ns ≡ ns
from_zero [] = refl
from_zero (n ∷ ns) = let t = le-leb 0 n (omega arith) in simp t (ap (λ (ms : List ℕ). n ∷ ms) (from_zero ns))

pub from_none : (b : ℕ) (xs : Blobs) → at_or_above b xs ≡ None → from b (numbers xs) ≡ []
from_none b [] e = refl
from_none b (x ∷ xs) e = elim (cases_lt x.0 b) [
  | inl l ↦ let t = lt-ltb x.0 b l in let u = lt-leb b x.0 l in simp u (from_none b xs (simp t at e))
  | inr l ↦ let t = le-ltb x.0 b l in let q : Some x.0 ≡ None = simp t at e in impossible (let z : ◌≡◌ {A = ℕ} 0 1 = cc in z)
]

pub from_all : (b : ℕ) (xs : Blobs) → Up b xs → from b (numbers xs) ≡ numbers xs
from_all b [] u = refl
from_all b (x ∷ xs) u =
    let t = le-leb b x.0 u.0 in
    simp t (ap (λ (ms : List ℕ). x.0 ∷ ms) (from_all b xs (up_less b (x.0 + 1) xs (let l = u.0 in omega arith) u.1)))

pub from_some : (lo b n : ℕ) (xs : Blobs) → Up lo xs → at_or_above b xs ≡ Some n → from b (numbers xs) ≡ n ∷ from (n + 1) (numbers xs)
from_some lo b n [] u e = impossible (let z : ◌≡◌ {A = ℕ} 0 1 = cc in z)
from_some lo b n (x ∷ xs) u e = elim (cases_lt x.0 b) [
  | inl l ↦ let t = lt-ltb x.0 b l in
      let e' : at_or_above b xs ≡ Some n = simp t at e in
      let m = above_le b n xs e' in
      let p = lt-leb b x.0 l in
      let q = lt-leb (n + 1) x.0 (omega arith) in
      simp (p, q) (from_some (x.0 + 1) b n xs u.1 e')
  | inr l ↦ let t = le-ltb x.0 b l in
      let r : Some x.0 ≡ Some n = simp t at e in
      let s : x.0 ≡ n = cc in
      let p = le-leb b x.0 l in
      let q = lt-leb (n + 1) x.0 (omega arith) in
      let a = from_all b xs (up_less b (x.0 + 1) xs (omega arith) u.1) in
      let d = from_all (n + 1) xs (up_less (n + 1) (x.0 + 1) xs (omega arith) u.1) in
      simp (p, q) (ap (λ (k : ℕ). k ∷ from b (numbers xs)) s ∙ ap (λ (ms : List ℕ). n ∷ ms) (a ∙ sym d))
]

pub numbers_change : (f : Blob → Blob) (b : ℕ) (xs : Blobs) → numbers (change f b xs) ≡ numbers xs
numbers_change f b [] = refl
numbers_change f b (x ∷ xs) = elim (cases_Bool (eqb x.0 b)) [ inl t ↦ simp t | inr t ↦ simp t (ap (λ (ms : List ℕ). x.0 ∷ ms) (numbers_change f b xs)) ]

pub from_past : (v : View) (b : ℕ) → Lawful v → (b + 1 < 18446744073709551616 → ⊥) → from (b + 1) (numbers v.disk.blobs) ≡ []
from_past v b laws h =
    let n = count_numbers v.disk.blobs in
    from_none (b + 1) v.disk.blobs (above_none (b + 1) v.disk.blobs (λ k l. let q = laws.fits k (omega arith) in omega (arith, h)))

-- whether a number is listed
pub has_above : (b : ℕ) (xs : Blobs) → Up (b + 1) xs → has b (numbers xs) ≡ false
has_above b [] u = refl
has_above b (x ∷ xs) u =
    let l = u.0 in
    let t = ne_eqb x.0 b (λ e. omega arith) in
    simp t (has_above b xs (up_less (b + 1) (x.0 + 1) xs (omega arith) u.1))

pub has_none : (b : ℕ) (xs : Blobs) → at_or_above b xs ≡ None → has b (numbers xs) ≡ false
has_none b [] e = refl
has_none b (x ∷ xs) e = elim (cases_lt x.0 b) [
  | inl l ↦ let t = lt-ltb x.0 b l in let u = ne_eqb x.0 b (λ q. omega arith) in simp u (has_none b xs (simp t at e))
  | inr l ↦ let t = le-ltb x.0 b l in let q : Some x.0 ≡ None = simp t at e in impossible (let z : ◌≡◌ {A = ℕ} 0 1 = cc in z)
]

pub has_some : (lo b n : ℕ) (xs : Blobs) → Up lo xs → at_or_above b xs ≡ Some n → has b (numbers xs) ≡ eqb n b
has_some lo b n [] u e = impossible (let z : ◌≡◌ {A = ℕ} 0 1 = cc in z)
has_some lo b n (x ∷ xs) u e = elim (cases_lt x.0 b) [
  | inl l ↦ let t = lt-ltb x.0 b l in let d = ne_eqb x.0 b (λ q. omega arith) in simp d (has_some (x.0 + 1) b n xs u.1 (simp t at e))
  | inr l ↦ let t = le-ltb x.0 b l in
      let r : Some x.0 ≡ Some n = simp t at e in
      let s : x.0 ≡ n = cc in
      let k : eqb x.0 b ≡ eqb n b = ap (λ (m : ℕ). eqb m b) s in
      elim (cases_Bool (eqb x.0 b)) [
        | inl d ↦ simp d (sym d ∙ k)
        | inr d ↦ let h = eqb-false x.0 b d in
            let m : b < x.0 = (elim (cases_lt b x.0) [ inl p ↦ p | inr p ↦ absurd (h (omega arith)) ]) in
            simp d (has_above b xs (up_less (b + 1) (x.0 + 1) xs (omega arith) u.1) ∙ (sym d ∙ k))
      ]
]

pub has_is : (b : ℕ) (xs : Blobs) (o : Option ℕ) → Up 0 xs → at_or_above b xs ≡ o → has b (numbers xs) ≡ option_eq eqb o (Some b)
has_is b xs None u e = has_none b xs e
has_is b xs (Some n) u e = has_some 0 b n xs u e
