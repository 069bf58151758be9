-- Laws of the blobs of a disk: what is found, and under which numbers, after each change.
use Rattle.std.proofs.Common.{◌≡◌, ℕ, zero, suc, ◌+◌, ◌<◌, ◌≤◌, ◌⊎◌, List, [], ◌∷◌, length, Some, None, Option, sym, refl, ap, ◌∙◌, subst, inl, inr, arith}
use Rattle.std.proofs.lemmas.Bool.{cases_eq}
use Rattle.std.proofs.lemmas.Bool.Decides.{nat_tests}
use Rattle.store.specs.Disk.{Blob, Blobs, find, numbers, change, insert, without, blank, synced, settled, Weaker, Weakened}
use Rattle.rules.specs.Calls.{count}

-- from an equation between two constructors
pub impossible : {A : Type 0} → ◌≡◌ {A = ℕ} 0 1 → A
impossible e = absurd (omega arith)

-- change ----------------------------------------------------------------------------------------

pub find_change_other : (f : Blob → Blob) (b k : ℕ) (xs : Blobs) → (b ≡ k → ⊥) → find (change f b xs) k ≡ find xs k
find_change_other f b k [] h = refl
find_change_other f b k (x ∷ xs) h = let ih = find_change_other f b k xs h in grind (arith, nat_tests)

pub find_change_same : (f : Blob → Blob) (b : ℕ) (xs : Blobs) (x : Blob) → find xs b ≡ Some x → find (change f b xs) b ≡ Some (f x)
find_change_same f b [] x e = impossible cc
find_change_same f b (y ∷ ys) x e = let ih = find_change_same f b ys x in grind (arith, nat_tests)

pub numbers_change : (f : Blob → Blob) (b : ℕ) (xs : Blobs) → numbers (change f b xs) ≡ numbers xs
numbers_change f b [] = refl
numbers_change f b (x ∷ xs) = let ih = numbers_change f b xs in grind (arith, nat_tests)

pub looked : {A : Type 0} (o : Option A) → (o ≡ None) ⊎ ((x : A) × (o ≡ Some x))
looked None = inl refl
looked (Some x) = inr (x, refl)

pub never : {A B : Type 0} (o : Option A) (x : A) → o ≡ None → o ≡ Some x → B
never o x e f = impossible cc

pub find_change_none : (f : Blob → Blob) (b : ℕ) (xs : Blobs) → find xs b ≡ None → find (change f b xs) b ≡ None
find_change_none f b [] e = refl
find_change_none f b (y ∷ ys) e = let ih = find_change_none f b ys in grind (arith, nat_tests)

-- what is found in a changed list was found before
pub find_change : (f : Blob → Blob) (b k : ℕ) (xs : Blobs) (y : Blob) → find (change f b xs) k ≡ Some y
    → ((b ≡ k) × ((x : Blob) × (find xs k ≡ Some x) × (y ≡ f x))) ⊎ ((b ≡ k → ⊥) × (find xs k ≡ Some y))
find_change f b k xs y e = go (cases_eq b k)
  where
    here : b ≡ k → (find xs k ≡ None) ⊎ ((x : Blob) × (find xs k ≡ Some x)) → (x : Blob) × (find xs k ≡ Some x) × (y ≡ f x)
    here h (inl n) = never (find (change f b xs) k) y (subst (λ (j : ℕ). find (change f b xs) j ≡ None) h (find_change_none f b xs (rw h n))) e
    here h (inr r) =
        let g : find (change f b xs) k ≡ Some (f r.0) = subst (λ (j : ℕ). find (change f b xs) j ≡ Some (f r.0)) h (find_change_same f b xs r.0 (rw h r.1)) in
        (r.0, r.1, cc)

    go : (b ≡ k) ⊎ (b ≡ k → ⊥) → ((b ≡ k) × ((x : Blob) × (find xs k ≡ Some x) × (y ≡ f x))) ⊎ ((b ≡ k → ⊥) × (find xs k ≡ Some y))
    go (inl h) = inl (h, here h (looked (find xs k)))
    go (inr h) = inr (h, sym (find_change_other f b k xs h) ∙ e)

-- numbers in a row ------------------------------------------------------------------------------

pub listed_find : (xs : Blobs) (lo k b : ℕ) → numbers xs ≡ count lo k → lo ≤ b → b < lo + k → (x : Blob) × (find xs b ≡ Some x)
listed_find [] lo zero b e h g = absurd (omega arith)
listed_find [] lo (suc k) b e h g = impossible cc
listed_find (x ∷ xs) lo zero b e h g = absurd (omega arith)
listed_find (x ∷ xs) lo (suc k) b e h g =
    let first : x.0 ≡ lo = cc in
    let rest : numbers xs ≡ count (lo + 1) k = cc in
    elim (cases_eq x.0 b) [
      | inl i ↦ (x.1, grind (arith, nat_tests))
      | inr i ↦ let r = listed_find xs (lo + 1) k b rest (omega arith) (omega arith) in (r.0, let q = r.1 in grind (arith, nat_tests))
    ]

pub found_listed : (xs : Blobs) (lo k b : ℕ) (x : Blob) → numbers xs ≡ count lo k → find xs b ≡ Some x → (lo ≤ b) × (b < lo + k)
found_listed [] lo k b x e f = impossible cc
found_listed (y ∷ ys) lo zero b x e f = impossible cc
found_listed (y ∷ ys) lo (suc k) b x e f =
    let first : y.0 ≡ lo = cc in
    let rest : numbers ys ≡ count (lo + 1) k = cc in
    elim (cases_eq y.0 b) [
      | inl i ↦ omega arith
      | inr i ↦ let q : find ys b ≡ Some x = (grind (arith, nat_tests)) in let r = found_listed ys (lo + 1) k b x rest q in omega arith
    ]

pub not_listed : (xs : Blobs) (lo k b : ℕ) → numbers xs ≡ count lo k → ((lo ≤ b) × (b < lo + k) → ⊥) → find xs b ≡ None
not_listed xs lo k b e h = go (looked (find xs b))
  where
    go : (find xs b ≡ None) ⊎ ((x : Blob) × (find xs b ≡ Some x)) → find xs b ≡ None
    go (inl n) = n
    go (inr r) = absurd (h (found_listed xs lo k b r.0 e r.1))

-- insert ----------------------------------------------------------------------------------------

pub find_insert_other : (b k : ℕ) (xs : Blobs) → (b ≡ k → ⊥) → find (insert b xs) k ≡ find xs k
find_insert_other b k [] h = grind (arith, nat_tests)
find_insert_other b k (x ∷ xs) h = let ih = find_insert_other b k xs h in grind (arith, nat_tests)

pub find_insert_same : (b : ℕ) (xs : Blobs) → find xs b ≡ None → find (insert b xs) b ≡ Some blank
find_insert_same b [] h = grind (arith, nat_tests)
find_insert_same b (x ∷ xs) h = let ih = find_insert_same b xs in grind (arith, nat_tests)

pub numbers_insert_top : (xs : Blobs) (lo k b : ℕ) → b ≡ lo + k → numbers xs ≡ count lo k → numbers (insert b xs) ≡ count lo (suc k)
numbers_insert_top [] lo zero b h e = grind arith
numbers_insert_top [] lo (suc k) b h e = impossible cc
numbers_insert_top (x ∷ xs) lo zero b h e = impossible cc
numbers_insert_top (x ∷ xs) lo (suc k) b h e =
    let first : x.0 ≡ lo = cc in
    let rest : numbers xs ≡ count (lo + 1) k = cc in
    let ih = numbers_insert_top xs (lo + 1) k b (omega arith) rest in
    grind (arith, nat_tests)

-- a blob that is there is not made again
pub insert_here : (xs : Blobs) (lo k b : ℕ) → numbers xs ≡ count lo k → lo ≤ b → b < lo + k → insert b xs ≡ xs
insert_here [] lo zero b n h g = absurd (omega arith)
insert_here [] lo (suc k) b n h g = impossible cc
insert_here (x ∷ xs) lo zero b n h g = absurd (omega arith)
insert_here (x ∷ xs) lo (suc k) b n h g =
    let first : x.0 ≡ lo = cc in
    let rest : numbers xs ≡ count (lo + 1) k = cc in
    elim (cases_eq x.0 b) [
      | inl i ↦ grind (arith, nat_tests)
      | inr i ↦ let ih = insert_here xs (lo + 1) k b rest (omega arith) (omega arith) in grind (arith, nat_tests)
    ]

-- without ---------------------------------------------------------------------------------------

pub find_without_other : (b k : ℕ) (xs : Blobs) → (b ≡ k → ⊥) → find (without b xs) k ≡ find xs k
find_without_other b k [] h = refl
find_without_other b k (x ∷ xs) h = let ih = find_without_other b k xs h in grind (arith, nat_tests)

pub numbers_without_low : (xs : Blobs) (lo k : ℕ) → numbers xs ≡ count lo (suc k) → numbers (without lo xs) ≡ count (lo + 1) k
numbers_without_low [] lo k e = impossible cc
numbers_without_low (x ∷ xs) lo k e = let first : x.0 ≡ lo = cc in let rest : numbers xs ≡ count (lo + 1) k = cc in grind (arith, nat_tests)

pub numbers_without_top : (xs : Blobs) (lo k b : ℕ) → b ≡ lo + k → numbers xs ≡ count lo (suc k) → numbers (without b xs) ≡ count lo k
numbers_without_top [] lo k b h e = impossible cc
numbers_without_top (x ∷ xs) lo zero b h e = let first : x.0 ≡ lo = cc in let rest : numbers xs ≡ [] = cc in grind (arith, nat_tests)
numbers_without_top (x ∷ xs) lo (suc k) b h e =
    let first : x.0 ≡ lo = cc in
    let rest : numbers xs ≡ count (lo + 1) (suc k) = cc in
    let ih = numbers_without_top xs (lo + 1) k b (omega arith) rest in
    grind (arith, nat_tests)

-- settled ---------------------------------------------------------------------------------------

pub numbers_settled : (xs : Blobs) → numbers (settled xs) ≡ numbers xs
numbers_settled [] = refl
numbers_settled (x ∷ xs) = ap (λ (r : List ℕ). x.0 ∷ r) (numbers_settled xs)

pub find_settled : (xs : Blobs) (b : ℕ) (y : Blob) → find (settled xs) b ≡ Some y → (x : Blob) × (find xs b ≡ Some x) × (y ≡ synced x)
find_settled [] b y e = never {B = (x : Blob) × (find [] b ≡ Some x) × (y ≡ synced x)} (find [] b) y refl e
find_settled (x ∷ xs) b y e = elim (cases_eq x.0 b) [
  | inl i ↦ (x.1, grind (arith, nat_tests), grind (arith, nat_tests))
  | inr i ↦ let r = find_settled xs b y (grind (arith, nat_tests)) in (r.0, let q = r.1 in grind (arith, nat_tests), r.2)
]

-- weakened --------------------------------------------------------------------------------------

pub weakened_numbers : (xs ys : Blobs) → Weakened xs ys → numbers ys ≡ numbers xs
weakened_numbers [] [] w = refl
weakened_numbers [] (y ∷ ys) w = elim w [ ]
weakened_numbers (x ∷ xs) [] w = elim w [ ]
weakened_numbers (x ∷ xs) (y ∷ ys) w = let ih = weakened_numbers xs ys w.2 in let h = w.0 in cc

pub weakened_find : (xs ys : Blobs) → Weakened xs ys → (b : ℕ) (y : Blob) → find ys b ≡ Some y → (x : Blob) × (find xs b ≡ Some x) × Weaker x y
weakened_find [] [] w b y e = never {B = (x : Blob) × (find [] b ≡ Some x) × Weaker x y} (find [] b) y refl e
weakened_find [] (y' ∷ ys) w b y e = elim w [ ]
weakened_find (x ∷ xs) [] w b y e = elim w [ ]
weakened_find (x ∷ xs) (y' ∷ ys) w b y e =
    let head : y'.0 ≡ x.0 = w.0 in
    elim (cases_eq x.0 b) [
      | inl i ↦ let same : y'.1 ≡ y = (grind (arith, nat_tests)) in (x.1, grind (arith, nat_tests), rw same at w.1)
      | inr i ↦ let r = weakened_find xs ys w.2 b y (grind (arith, nat_tests)) in (r.0, let q = r.1 in grind (arith, nat_tests), r.2)
    ]

pub weakened_found : (xs ys : Blobs) → Weakened xs ys → (b : ℕ) (x : Blob) → find xs b ≡ Some x → (y : Blob) × (find ys b ≡ Some y) × Weaker x y
weakened_found [] [] w b x e = never {B = (y : Blob) × (find [] b ≡ Some y) × Weaker x y} (find [] b) x refl e
weakened_found [] (y' ∷ ys) w b x e = elim w [ ]
weakened_found (x' ∷ xs) [] w b x e = elim w [ ]
weakened_found (x' ∷ xs) (y' ∷ ys) w b x e =
    let head : y'.0 ≡ x'.0 = w.0 in
    elim (cases_eq x'.0 b) [
      | inl i ↦ let same : x'.1 ≡ x = (grind (arith, nat_tests)) in (y'.1, grind (arith, nat_tests), rw same at w.1)
      | inr i ↦ let r = weakened_found xs ys w.2 b x (grind (arith, nat_tests)) in (r.0, let q = r.1 in grind (arith, nat_tests), r.2)
    ]

pub weaker_self : (x : Blob) → x.safe ≤ x.sound → x.sound ≤ length x.bytes → Weaker x x
weaker_self x h g =
    record { kept = h; fewer = omega arith; safe_grows = omega arith; safe_within = h; same = refl; sound_within = g; shorter = omega arith }
