-- The highest blobs below an edge, and what a change of them leaves.
use Rattle.std.proofs.Common.{◌≡◌, ℕ, suc, ◌+◌, ◌*◌, ◌<◌, ◌≤◌, eqb, ltb, [], ◌∷◌, ◌++◌, reverse, Some, None, Option, sym, refl, ap, ◌∙◌, inl, inr, append_assoc, mul-le-mul_right, arith}
use mathlib.Core.List.{reverse-append, reverse-cons, reverse-reverse}
use Rattle.std.proofs.lemmas.Bool.{lt-ltb, le-ltb, eq-eqb, ne_eqb, cases_lt, cases_Bool}
use Rattle.store.specs.Disk.{Blob, Blobs, find, numbers, at_or_below_or, change}
use Rattle.store.specs.Laws.{Below}
use Rattle.rules.specs.Rules.{Config, MAX}
use Rattle.rules.specs.Open.{below, any_over}
use Rattle.journal.specs.Recovery.{last_or, highest}
use Rattle.journal.proofs.Taken.{impossible}
use Rattle.journal.proofs.Walking.{Up}

pub below_last : (d : Option ℕ) (m : ℕ) (xs : Blobs) → at_or_below_or d m xs ≡ last_or d (below (m + 1) xs)
below_last d m [] = refl
below_last d m (x ∷ xs) = elim (cases_lt m x.0) [
  | inl l ↦ let t = lt-ltb m x.0 l in let u = le-ltb x.0 (m + 1) (omega arith) in simp (t, u)
  | inr l ↦ let t = le-ltb m x.0 l in let u = lt-ltb x.0 (m + 1) (omega arith) in simp (t, u) (below_last (Some x.0) m xs)
]

pub below_zero : (xs : Blobs) → below 0 xs ≡ []
below_zero [] = refl
below_zero (x ∷ xs) = let u = le-ltb x.0 0 (omega arith) in simp u

pub below_none : (e : ℕ) (xs : Blobs) → (1 ≤ e → ⊥) → highest (below e xs) ≡ None
below_none e xs n = let z : e ≡ 0 = omega (arith, n) in ap (λ (k : ℕ). highest (below k xs)) z ∙ ap highest (below_zero xs)

pub below_all : (e : ℕ) (xs : Blobs) → Below e (numbers xs) → below e xs ≡ xs
below_all e [] h = refl
below_all e (x ∷ xs) h = let t = lt-ltb x.0 e (h 0 (omega arith)) in simp t (ap (λ (zs : Blobs). x ∷ zs) (below_all e xs (λ k l. h (suc k) (omega arith))))

pub below_below : (b e : ℕ) (xs : Blobs) → b ≤ e → below b (below e xs) ≡ below b xs
below_below b e [] l = refl
below_below b e (x ∷ xs) l = elim (cases_lt x.0 e) [
  | inl m ↦ let t = lt-ltb x.0 e m in
      elim (cases_lt x.0 b) [
        | inl n ↦ let u = lt-ltb x.0 b n in simp (t, u) (ap (λ (zs : Blobs). x ∷ zs) (below_below b e xs l))
        | inr n ↦ let u = le-ltb x.0 b n in simp (t, u)
      ]
  | inr m ↦ let t = le-ltb x.0 e m in let u = le-ltb x.0 b (omega arith) in simp (t, u)
]

pub last_below : (e b : ℕ) (d : Option ℕ) (xs : Blobs) → ((k : ℕ) → d ≡ Some k → k < e) → last_or d (below e xs) ≡ Some b → b < e
last_below e b d [] h q = h b q
last_below e b d (x ∷ xs) h q = elim (cases_lt x.0 e) [
  | inl l ↦ let t = lt-ltb x.0 e l in last_below e b (Some x.0) xs (λ k r. let p : x.0 ≡ k = cc in omega arith) (simp t at q)
  | inr l ↦ let t = le-ltb x.0 e l in h b (simp t at q)
]

pub last_none : (xs : Blobs) → highest xs ≡ None → xs ≡ []
last_none [] e = refl
last_none (x ∷ xs) e = some x.0 xs e
  where
    some : {P : Type 0} (n : ℕ) (ys : Blobs) → last_or (Some n) ys ≡ None → P
    some n [] q = impossible (let z : ◌≡◌ {A = ℕ} 0 1 = cc in z)
    some n (y ∷ ys) q = some y.0 ys q

pub last_low : (lo b : ℕ) (xs : Blobs) → Up lo xs → highest xs ≡ Some b → lo ≤ b
last_low lo b [] u e = impossible (let z : ◌≡◌ {A = ℕ} 0 1 = cc in z)
last_low lo b (x ∷ []) u e = let p : x.0 ≡ b = cc in let q = u.0 in omega arith
last_low lo b (x ∷ (y ∷ ys)) u e = let q = last_low (x.0 + 1) b (y ∷ ys) u.1 e in let r = u.0 in omega arith

-- the highest is the last
pub record Last (b : ℕ) (xs : Blobs) : Type 0 where
  pub blob : Blob
  pub found : find xs b ≡ Some blob
  pub is : xs ≡ below b xs ++ ((b, blob) ∷ [])

pub last_split : (lo b : ℕ) (xs : Blobs) → Up lo xs → highest xs ≡ Some b → Last b xs
last_split lo b [] u e = impossible (let z : ◌≡◌ {A = ℕ} 0 1 = cc in z)
last_split lo b (x ∷ []) u e =
    let p : x.0 ≡ b = cc in
    let t = le-ltb x.0 b (omega arith) in
    let d = eq-eqb x.0 b p in
    record { blob = x.1; found = simp d; is = simp t (ap (λ (k : ℕ). (k, x.1) ∷ []) p) }
last_split lo b (x ∷ (y ∷ ys)) u e =
    let h = last_split (x.0 + 1) b (y ∷ ys) u.1 e in
    let q = last_low (x.0 + 1) b (y ∷ ys) u.1 e in
    let t = lt-ltb x.0 b (omega arith) in
    let d = ne_eqb x.0 b (λ r. omega arith) in
    record { blob = h.blob; found = simp d h.found; is = simp t (ap (λ (zs : Blobs). x ∷ zs) h.is) }

-- changes
pub below_change : (f : Blob → Blob) (b e : ℕ) (xs : Blobs) → below e (change f b xs) ≡ change f b (below e xs)
below_change f b e [] = refl
below_change f b e (x ∷ xs) = elim (cases_Bool (eqb x.0 b)) [
  | inl t ↦ elim (cases_Bool (ltb x.0 e)) [ inl u ↦ simp (t, u) | inr u ↦ simp (t, u) ]
  | inr t ↦ elim (cases_Bool (ltb x.0 e)) [ inl u ↦ simp (t, u) (ap (λ (zs : Blobs). x ∷ zs) (below_change f b e xs)) | inr u ↦ simp (t, u) ]
]

pub change_above : (f : Blob → Blob) (b : ℕ) (xs : Blobs) → change f b (below b xs) ≡ below b xs
change_above f b [] = refl
change_above f b (x ∷ xs) = elim (cases_lt x.0 b) [
  | inl l ↦ let t = lt-ltb x.0 b l in let d = ne_eqb x.0 b (λ r. omega arith) in simp (t, d) (ap (λ (zs : Blobs). x ∷ zs) (change_above f b xs))
  | inr l ↦ let t = le-ltb x.0 b l in simp t
]

pub change_at : (f : Blob → Blob) (b : ℕ) (y : Blob) (zs xs : Blobs) → change f b (below b xs ++ ((b, y) ∷ zs)) ≡ below b xs ++ ((b, f y) ∷ zs)
change_at f b y zs [] = let t = eq-eqb b b refl in simp t
change_at f b y zs (x ∷ xs) = elim (cases_lt x.0 b) [
  | inl l ↦ let t = lt-ltb x.0 b l in let d = ne_eqb x.0 b (λ r. omega arith) in simp (t, d) (ap (λ (us : Blobs). x ∷ us) (change_at f b y zs xs))
  | inr l ↦ let t = le-ltb x.0 b l in let d = eq-eqb b b refl in simp (t, d)
]

pub turned : (zs : Blobs) (p : ℕ × Blob) → reverse (zs ++ (p ∷ [])) ≡ p ∷ reverse zs
turned zs p = reverse-append zs (p ∷ [])

pub turned_two : (zs : Blobs) (p q : ℕ × Blob) → reverse (p ∷ (q ∷ reverse zs)) ≡ zs ++ (q ∷ (p ∷ []))
turned_two zs p q =
    reverse-cons p (q ∷ reverse zs)
    ∙ (ap (λ (us : Blobs). us ++ (p ∷ [])) (reverse-cons q (reverse zs) ∙ ap (λ (us : Blobs). us ++ (q ∷ [])) (reverse-reverse zs))
    ∙ append_assoc zs (q ∷ []) (p ∷ []))

-- some blob's first position is too large exactly if the highest's is
pub any_over_lem : (c : Config) (lo b : ℕ) (xs : Blobs) → Up lo xs → highest xs ≡ Some b → any_over c xs ≡ ltb MAX (b * c.n)
any_over_lem c lo b [] u e = impossible (let z : ◌≡◌ {A = ℕ} 0 1 = cc in z)
any_over_lem c lo b (x ∷ []) u e =
    let p : x.0 ≡ b = cc in
    elim (cases_Bool (ltb MAX (x.0 * c.n))) [ inl t ↦ simp t (sym t ∙ ap (λ (k : ℕ). ltb MAX (k * c.n)) p) | inr t ↦ simp t (sym t ∙ ap (λ (k : ℕ). ltb MAX (k * c.n)) p) ]
any_over_lem c lo b (x ∷ (y ∷ ys)) u e =
    let q = last_low (x.0 + 1) b (y ∷ ys) u.1 e in
    let m : x.0 * c.n ≤ b * c.n = mul-le-mul_right c.n (let l : x.0 ≤ b = omega arith in l) in
    let h = any_over_lem c (x.0 + 1) b (y ∷ ys) u.1 e in
    elim (cases_lt MAX (x.0 * c.n)) [
      | inl l ↦ let t = lt-ltb MAX (x.0 * c.n) l in let w = lt-ltb MAX (b * c.n) (omega arith) in simp t (sym w)
      | inr l ↦ let t = le-ltb MAX (x.0 * c.n) l in simp t h
    ]
