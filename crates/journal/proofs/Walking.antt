-- The blobs that a walk goes over.
use Rattle.std.proofs.Common.{◌≡◌, ℕ, suc, ◌+◌, ◌/◌, ◌<◌, ◌≤◌, Bool, true, false, cond, not, eqb, ltb, ◌⊎◌, [], ◌∷◌, length, get_or, is_some, Some, None, Ok, Err, Option, Result, sym, refl, ap, ◌∙◌, inl, inr, arith}
use Rattle.std.proofs.lemmas.Bool.{lt-ltb, le-ltb, eq-eqb, ne_eqb, cases_lt}
use Rattle.std.specs.Bool.{then_some}
use Rattle.std.specs.Option.{MatchOption}
use Rattle.store.specs.declared.cause.Cause.{Cause}
use Rattle.store.specs.declared.cause.Cause.TheVariants.{Power}
use Rattle.store.specs.Disk.{Blob, Blobs, View, find, numbers, at_or_above}
use Rattle.store.specs.Laws.{Rising, Lawful}
use Rattle.store.proofs.Places.{length_numbers, above_none}
use Rattle.rules.specs.Rules.{Config, MAX}
use Rattle.rules.specs.Open.{below, capacity, walk, stands}
use Rattle.journal.specs.declared.fault.Fault.{Fault}
use Rattle.journal.specs.declared.walk.Filled.TheVariants.{Full, Short}
use Rattle.journal.specs.declared.fault.Step.{Step}
use Rattle.journal.specs.declared.fault.StoreFault.{StoreFault}
use Rattle.journal.specs.Steps.{Asked}
use Rattle.journal.specs.Recovery.{rest, is_more, Fills, Gives, Walks}
use Rattle.journal.proofs.Taken.{answers, impossible}

-- rising from lo on
abbrev pub Up : ℕ → Blobs → Type 0
Up lo [] = Unit {0}
Up lo (x ∷ xs) = (lo ≤ x.0) × Up (x.0 + 1) xs

pub up_rising : (lo : ℕ) (xs : Blobs) → Rising (numbers xs) → (0 < length (numbers xs) → lo ≤ get_or (numbers xs) 0 0) → Up lo xs
up_rising lo [] r h = tt
up_rising lo (x ∷ xs) r h =
    (h (omega arith), up_rising (x.0 + 1) xs (λ j k l m. r (suc j) (suc k) (omega arith) (omega arith)) (λ l. let q = r 0 1 (omega arith) (omega arith) in omega arith))

pub up_below : (lo e : ℕ) (xs : Blobs) → Up lo xs → Up lo (below e xs)
up_below lo e [] u = tt
up_below lo e (x ∷ xs) u = elim (cases_lt x.0 e) [
  | inl l ↦ let t = lt-ltb x.0 e l in simp t (u.0, up_below (x.0 + 1) e xs u.1)
  | inr l ↦ let t = le-ltb x.0 e l in simp t tt
]

-- none is listed, or one: at or above b, and below the edge
pub above_le : (b n : ℕ) (xs : Blobs) → at_or_above b xs ≡ Some n → b ≤ n
above_le b n [] e = impossible (let z : ◌≡◌ {A = ℕ} 0 1 = cc in z)
above_le b n (x ∷ xs) e = elim (cases_lt x.0 b) [
  | inl l ↦ let t = lt-ltb x.0 b l in above_le b n xs (simp t at e)
  | inr l ↦ let t = le-ltb x.0 b l in let q : Some x.0 ≡ Some n = simp t at e in let p : x.0 ≡ n = cc in omega arith
]

pub next_none : (b e : ℕ) (xs : Blobs) → at_or_above b xs ≡ None → at_or_above b (below e xs) ≡ None
next_none b e [] q = refl
next_none b e (x ∷ xs) q = elim (cases_lt x.0 b) [
  | inl l ↦ let t = lt-ltb x.0 b l in
      elim (cases_lt x.0 e) [
        | inl m ↦ let u = lt-ltb x.0 e m in simp (u, t) (next_none b e xs (simp t at q))
        | inr m ↦ let u = le-ltb x.0 e m in simp u
      ]
  | inr l ↦ let t = le-ltb x.0 b l in let p : Some x.0 ≡ None = simp t at q in impossible (let z : ◌≡◌ {A = ℕ} 0 1 = cc in z)
]

pub next_some : (b e n : ℕ) (xs : Blobs) → n < e → at_or_above b xs ≡ Some n → at_or_above b (below e xs) ≡ Some n
next_some b e n [] h q = q
next_some b e n (x ∷ xs) h q = elim (cases_lt x.0 b) [
  | inl l ↦ let t = lt-ltb x.0 b l in
      let r = above_le b n (x ∷ xs) q in
      let u = lt-ltb x.0 e (omega arith) in
      simp (u, t) (next_some b e n xs h (simp t at q))
  | inr l ↦ let t = le-ltb x.0 b l in
      let p : Some x.0 ≡ Some n = simp t at q in
      let s : x.0 ≡ n = cc in
      let u = lt-ltb x.0 e (omega arith) in
      simp (u, t) p
]

pub next_aside : (b e n : ℕ) (xs : Blobs) → e ≤ n → at_or_above b xs ≡ Some n → at_or_above b (below e xs) ≡ None
next_aside b e n [] h q = impossible (let z : ◌≡◌ {A = ℕ} 0 1 = cc in z)
next_aside b e n (x ∷ xs) h q = elim (cases_lt x.0 b) [
  | inl l ↦ let t = lt-ltb x.0 b l in
      elim (cases_lt x.0 e) [
        | inl m ↦ let u = lt-ltb x.0 e m in simp (u, t) (next_aside b e n xs h (simp t at q))
        | inr m ↦ let u = le-ltb x.0 e m in simp u
      ]
  | inr l ↦ let t = le-ltb x.0 b l in
      let p : Some x.0 ≡ Some n = simp t at q in
      let s : x.0 ≡ n = cc in
      let u = le-ltb x.0 e (omega arith) in
      simp u
]

-- what is listed, if it is below the edge
pub next_is : {R : ℕ → Bool → Type 0} (b e : ℕ) (xs : Blobs) (o r : Option ℕ) → at_or_above b xs ≡ o → ((n : ℕ) (t : Bool) → R n t → t ≡ ltb n e)
    → MatchOption o (r ≡ None) (λ n. (t : Bool) × R n t × (r ≡ then_some t n)) → r ≡ at_or_above b (below e xs)
next_is b e xs None r q k m = m ∙ sym (next_none b e xs q)
next_is b e xs (Some n) r q k m = elim (cases_lt n e) [
  | inl l ↦ m.2 ∙ (ap (λ (t : Bool). then_some t n) (k n m.0 m.1 ∙ lt-ltb n e l) ∙ sym (next_some b e n xs l q))
  | inr l ↦ m.2 ∙ (ap (λ (t : Bool). then_some t n) (k n m.0 m.1 ∙ le-ltb n e l) ∙ sym (next_aside b e n xs l q))
]

pub find_below : (e n : ℕ) (xs : Blobs) (x : Blob) → find (below e xs) n ≡ Some x → find xs n ≡ Some x
find_below e n [] x q = q
find_below e n (y ∷ ys) x q = elim (cases_lt y.0 e) [
  | inl l ↦ let t = lt-ltb y.0 e l in
      elim (by_eq y.0 n) [
        | inl p ↦ let u = eq-eqb y.0 n p in let r : Some y.1 ≡ Some x = simp (t, u) at q in simp u r
        | inr p ↦ let u = ne_eqb y.0 n p in simp u (find_below e n ys x (simp (t, u) at q))
      ]
  | inr l ↦ let t = le-ltb y.0 e l in let r : None ≡ Some x = simp t at q in impossible (let z : ◌≡◌ {A = ℕ} 0 1 = cc in z)
]
  where
    by_eq : (a b : ℕ) → (a ≡ b) ⊎ (a ≡ b → ⊥)
    by_eq a b = elim (cases_lt a b) [ inl l ↦ inr (λ e. omega arith) | inr l ↦ elim (cases_lt b a) [ inl m ↦ inr (λ e. omega arith) | inr m ↦ inl (omega arith) ] ]

-- the rest from b on
pub rest_none : (b : ℕ) (xs : Blobs) → at_or_above b xs ≡ None → rest b xs ≡ []
rest_none b [] e = refl
rest_none b (x ∷ xs) e = elim (cases_lt x.0 b) [
  | inl l ↦ let t = lt-ltb x.0 b l in simp t (rest_none b xs (simp t at e))
  | inr l ↦ let t = le-ltb x.0 b l in let p : Some x.0 ≡ None = simp t at e in impossible (let z : ◌≡◌ {A = ℕ} 0 1 = cc in z)
]

pub rest_all : (b : ℕ) (xs : Blobs) → Up b xs → rest b xs ≡ xs
rest_all b [] u = refl
rest_all b (x ∷ xs) u = let t = le-ltb x.0 b u.0 in simp t

pub record Head (b n : ℕ) (xs : Blobs) : Type 0 where
  pub blob : Blob
  pub found : find xs n ≡ Some blob
  pub is : rest b xs ≡ (n, blob) ∷ rest (n + 1) xs

pub rest_some : (lo b n : ℕ) (xs : Blobs) → Up lo xs → at_or_above b xs ≡ Some n → Head b n xs
rest_some lo b n [] u e = impossible (let z : ◌≡◌ {A = ℕ} 0 1 = cc in z)
rest_some lo b n (x ∷ xs) u e = elim (cases_lt x.0 b) [
  | inl l ↦ let t = lt-ltb x.0 b l in
      let e' : at_or_above b xs ≡ Some n = simp t at e in
      let m = above_le b n xs e' in
      let h = rest_some (x.0 + 1) b n xs u.1 e' in
      let s = lt-ltb x.0 (n + 1) (omega arith) in
      let d = ne_eqb x.0 n (λ q. omega arith) in
      record { blob = h.blob; found = simp d h.found; is = simp (t, s) h.is }
  | inr l ↦ let t = le-ltb x.0 b l in
      let q : Some x.0 ≡ Some n = simp t at e in
      let p : x.0 ≡ n = cc in
      let s = lt-ltb x.0 (n + 1) (omega arith) in
      let d = eq-eqb x.0 n p in
      let r : rest (n + 1) xs ≡ xs = ap (λ (k : ℕ). rest (k + 1) xs) (sym p) ∙ rest_all (x.0 + 1) xs u.1 in
      record { blob = x.1; found = simp d; is = simp (t, s) (ap (λ (k : ℕ). (k, x.1) ∷ xs) p ∙ ap (λ (ys : Blobs). (n, x.1) ∷ ys) (sym r)) }
]

-- a store that is up answers
pub never_down : {X P : Type 0} (t : Bool) (y : X) (c : Cause) → t ≡ true → ◌≡◌ {A = Result X Cause} (cond t (Ok y) (Err Power)) (Err c) → P
never_down true y c u e = impossible (let z : ◌≡◌ {A = ℕ} 0 1 = cc in z)
never_down false y c u e = impossible (let z : ◌≡◌ {A = ℕ} 0 1 = cc in z)

pub gives : {A : Type 0} (s : Step) (up : Bool) (y : A) (r : Result A StoreFault) → up ≡ true → Asked s (cond up (Ok y) (Err Power)) r → Gives y r
gives s up y (Ok x) u q = sym (answers up y x q).1
gives s up y (Err e) u q = never_down up y e.cause u q.1

pub more_is : (b : ℕ) (xs : Blobs) → is_some (at_or_above b xs) ≡ not (eqb (length (rest b xs)) 0)
more_is b [] = refl
more_is b (x ∷ xs) = elim (cases_lt x.0 b) [
  | inl l ↦ let t = lt-ltb x.0 b l in simp t (more_is b xs)
  | inr l ↦ let t = le-ltb x.0 b l in let u = ne_eqb (length (x ∷ xs)) 0 (λ e. omega arith) in simp (t, u)
]

-- no number is above the largest
pub nothing_past : (v : View) (b e : ℕ) → Lawful v → (b + 1 < 18446744073709551616 → ⊥) → at_or_above (b + 1) (below e v.disk.blobs) ≡ None
nothing_past v b e laws h =
    let n = length_numbers v.disk.blobs in
    next_none (b + 1) e v.disk.blobs (above_none (b + 1) v.disk.blobs (λ k l. let q = laws.fits k (omega arith) in omega (arith, h)))

pub none_more : (v : View) (b e : ℕ) → Lawful v → (b + 1 < 18446744073709551616 → ⊥) → is_more b (below e v.disk.blobs) ≡ false
none_more v b e laws n = sym (more_is (b + 1) (below e v.disk.blobs)) ∙ ap (is_some {T = ℕ}) (nothing_past v b e laws n)

-- what the walk makes of the next blob
module _ (c : Config) (s size b : ℕ) where
  pub walk_none : (xs : Blobs) → xs ≡ [] → walk c s size b xs ≡ stands size false
  walk_none xs e = ap (walk c s size b) e

  pub walk_gap : (xs ys : Blobs) (n : ℕ) (x : Blob) → xs ≡ (n, x) ∷ ys → (n ≡ b → ⊥) → walk c s size b xs ≡ stands size true
  walk_gap xs ys n x e d = let t = ne_eqb n b d in ap (walk c s size b) e ∙ simp t

  module _ (xs ys : Blobs) (n : ℕ) (x : Blob) (is : xs ≡ (n, x) ∷ ys) (here : n ≡ b) where
    pub walk_on : (g : ℕ) → ltb (capacity c s b) (length x.bytes / c.z) ≡ false → ltb MAX (size + length x.bytes / c.z) ≡ false → g ≡ size + length x.bytes / c.z
        → eqb (length x.bytes / c.z) (capacity c s b) ≡ true → walk c s size b xs ≡ walk c s g (b + 1) ys
    walk_on g p q e r = let t = eq-eqb n b here in ap (walk c s size b) is ∙ simp (t, p, q, r) (ap (λ (k : ℕ). walk c s k (b + 1) ys) (sym e))

    pub walk_short : (g : ℕ) → ltb (capacity c s b) (length x.bytes / c.z) ≡ false → ltb MAX (size + length x.bytes / c.z) ≡ false → g ≡ size + length x.bytes / c.z
        → eqb (length x.bytes / c.z) (capacity c s b) ≡ false → walk c s size b xs ≡ stands g (not (eqb (length ys) 0))
    walk_short g p q e r = let t = eq-eqb n b here in ap (walk c s size b) is ∙ simp (t, p, q, r) (ap (λ (k : ℕ). stands k (not (eqb (length ys) 0))) (sym e))

    pub walk_wrong : (f : Fault) → Fills c s size b (length x.bytes / c.z) (Err f) → Walks (walk c s size b xs) (Err f)
    walk_wrong f (inl w) = let t = eq-eqb n b here in let p = w.0 in inl (ap (walk c s size b) is ∙ simp (t, p), w.1)
    walk_wrong f (inr w) = let t = eq-eqb n b here in let p = w.0 in let q = w.1 in inr (ap (walk c s size b) is ∙ simp (t, p, q), w.2)

pub up_all : (v : View) → Lawful v → Up 0 v.disk.blobs
up_all v laws = up_rising 0 v.disk.blobs laws.rising (λ h. omega arith)

pub up_store : (v : View) (e : ℕ) → Lawful v → Up 0 (below e v.disk.blobs)
up_store v e laws = up_below 0 e v.disk.blobs (up_rising 0 v.disk.blobs laws.rising (λ h. omega arith))

-- one turn of the walk, at a blob that is there
module _ (c : Config) (s size b e : ℕ) (v : View) (laws : Lawful v) (q : at_or_above b (below e v.disk.blobs) ≡ Some b) where
  here : Head b b (below e v.disk.blobs)
  here = rest_some 0 b b (below e v.disk.blobs) (up_store v e laws) q

  found : find v.disk.blobs b ≡ Some here.blob
  found = find_below e b v.disk.blobs here.blob here.found

  pub turn_full : (g : ℕ) → ((x : Blob) → find v.disk.blobs b ≡ Some x → Fills c s size b (length x.bytes / c.z) (Ok (Full g)))
      → walk c s size b (rest b (below e v.disk.blobs)) ≡ walk c s g (b + 1) (rest (b + 1) (below e v.disk.blobs))
  turn_full g f =
      let w = f here.blob found in
      walk_on c s size b (rest b (below e v.disk.blobs)) (rest (b + 1) (below e v.disk.blobs)) b here.blob here.is refl g w.0 w.1 w.2 w.3

  pub turn_short : (g : ℕ) → ((x : Blob) → find v.disk.blobs b ≡ Some x → Fills c s size b (length x.bytes / c.z) (Ok (Short g)))
      → walk c s size b (rest b (below e v.disk.blobs)) ≡ stands g (not (eqb (length (rest (b + 1) (below e v.disk.blobs))) 0))
  turn_short g f =
      let w = f here.blob found in
      walk_short c s size b (rest b (below e v.disk.blobs)) (rest (b + 1) (below e v.disk.blobs)) b here.blob here.is refl g w.0 w.1 w.2 w.3

  pub turn_wrong : (y : Fault) → ((x : Blob) → find v.disk.blobs b ≡ Some x → Fills c s size b (length x.bytes / c.z) (Err y))
      → Walks (walk c s size b (rest b (below e v.disk.blobs))) (Err y)
  turn_wrong y f = walk_wrong c s size b (rest b (below e v.disk.blobs)) (rest (b + 1) (below e v.disk.blobs)) b here.blob here.is refl y (f here.blob found)
