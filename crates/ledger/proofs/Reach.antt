-- Where the sound records of a row of blobs end.
use Rattle.std.proofs.Common.{◌≡◌, ℕ, zero, suc, ◌+◌, ◌-◌, ◌*◌, ◌/◌, ◌<◌, ◌≤◌, Bool, cond, leb, List, [], ◌∷◌, Some, sym, refl, ap, ◌∙◌, inl, inr, mul-le-mul_right, le_of_mul-le-mul_right, arith}
use Rattle.std.proofs.lemmas.Bool.{cases_eq, cases_lt, cases_Bool, cond_both, cond-true, cond-false, leb-true, leb-false}
use Rattle.std.proofs.lemmas.Bool.Decides.{nat_tests}
use Rattle.std.proofs.lemmas.Nat.{le-div, div_below, div-add-mod'}
use Rattle.store.specs.Disk.{Blob, Blobs, find, numbers}
use Rattle.rules.specs.Rules.{Config}
use Rattle.rules.specs.Calls.{count}
use Rattle.ledger.specs.Ledger.{Ledger}
use Rattle.ledger.proofs.Blobs.{impossible, never, found_listed}
use Rattle.ledger.proofs.Invariant.{first, room, Lowest, first_room, first_next, first_low, first_apart, room_some, Fits, Reached, Rows, moved}
use Rattle.ledger.proofs.Writes.{rows_far}

abbrev pub full : Config → ℕ → ℕ × Blob → Bool
full c s x = leb (room c s x.0 * c.z) x.1.sound

abbrev pub reach_of : Config → ℕ → ℕ → Blobs → ℕ
reach_of c s e [] = e
reach_of c s e (x ∷ xs) = cond (full c s x) (reach_of c s (x.0 * c.n + c.n) xs) (first c s x.0 + x.1.sound / c.z)

-- every blob below j is sound to its last record
abbrev pub FullTo : Config → ℕ → Blobs → ℕ → Type 0
FullTo c s xs j = (i : ℕ) (y : Blob) → i < j → find xs i ≡ Some y → room c s i * c.z ≤ y.sound

pub div_within : (z a so f : ℕ) → ((m : ℕ) → suc m * z ≤ so → a + m < f) → a ≤ f → a + so / z ≤ f
div_within z a so f at l = go (so / z) refl
  where
    go : (d : ℕ) → so / z ≡ d → a + so / z ≤ f
    go zero e = omega arith
    go (suc m) e = let w : so / z * z ≡ suc m * z = ap (λ (i : ℕ). i * z) e in let t = at m (omega (arith, div-add-mod' so z)) in omega arith

module _ (c : Config) (s lo : ℕ) (low : Lowest c s lo) (zp : 0 < c.z) where
  pub reach_from : (xs : Blobs) (b k e : ℕ) → numbers xs ≡ count b k → lo ≤ b → e ≤ first c s b → e ≤ reach_of c s e xs
  reach_from [] b k e n h g = omega arith
  reach_from (x ∷ xs) b zero e n h g = impossible cc
  reach_from (x ∷ xs) b (suc k) e n h g =
      let head : x.0 ≡ b = cc in
      let rest : numbers xs ≡ count (b + 1) k = cc in
      let f : first c s x.0 ≡ first c s b = ap (λ (j : ℕ). first c s j) head in
      let m : x.0 * c.n ≡ b * c.n = ap (λ (j : ℕ). j * c.n) head in
      let r = first_room c s lo low b h in
      let o : first c s (b + 1) ≡ first c s (suc b) = ap (λ (j : ℕ). first c s j) (omega arith) in
      let t = first_next c s lo low b h in
      let ih : x.0 * c.n + c.n ≤ reach_of c s (x.0 * c.n + c.n) xs = reach_from xs (b + 1) k (x.0 * c.n + c.n) rest (omega arith) (omega arith) in
      cond_both (full c s x) (reach_of c s (x.0 * c.n + c.n) xs) (first c s x.0 + x.1.sound / c.z) (λ v. e ≤ v) (λ p. omega arith) (λ p. omega arith)

  -- what is sound, and sound below it, is below the reach
  pub reach_above : (xs : Blobs) (b k e : ℕ) → numbers xs ≡ count b k → lo ≤ b
      → ((j : ℕ) (x : Blob) → find xs j ≡ Some x → Fits c s j x)
      → (j : ℕ) (x : Blob) (m : ℕ) → find xs j ≡ Some x → FullTo c s xs j → suc m * c.z ≤ x.sound → first c s j + m < reach_of c s e xs
  reach_above [] b k e n h fits j x m f q o = never (find [] j) x refl f
  reach_above (y ∷ xs) b zero e n h fits j x m f q o = impossible cc
  reach_above (y ∷ xs) b (suc k) e n h fits j x m f q o =
      let head : y.0 ≡ b = cc in
      let rest : numbers xs ≡ count (b + 1) k = cc in
      let r = first_room c s lo low b h in
      let t = first_next c s lo low b h in
      let u : first c s (b + 1) ≡ first c s (suc b) = ap (λ (i : ℕ). first c s i) (omega arith) in
      let v : y.0 * c.n ≡ b * c.n = ap (λ (i : ℕ). i * c.n) head in
      let next : Blobs = xs in
      elim (cases_eq y.0 j) [
        | inl i ↦
            let is : y.1 ≡ x = (grind (arith, nat_tests)) in
            let is' : y.1.sound ≡ x.sound = ap (λ (a : Blob). a.sound) is in
            let ft = fits j x f in
            let a : suc m ≤ room c s j = le_of_mul-le-mul_right {k = c.z} (omega arith) zp in
            let d : suc m ≤ y.1.sound / c.z = le-div (suc m) y.1.sound c.z zp (omega arith) in
            let fj : first c s j ≡ first c s b = ap (λ (i : ℕ). first c s i) (sym i ∙ head) in
            let fy : first c s y.0 ≡ first c s b = ap (λ (i : ℕ). first c s i) head in
            let rj : room c s j ≡ room c s b = ap (λ (i : ℕ). room c s i) (sym i ∙ head) in
            let g : y.0 * c.n + c.n ≤ reach_of c s (y.0 * c.n + c.n) xs = reach_from xs (b + 1) k (y.0 * c.n + c.n) rest (omega arith) (omega arith) in
            cond_both (full c s y) (reach_of c s (y.0 * c.n + c.n) xs) (first c s y.0 + y.1.sound / c.z) (λ w. first c s j + m < w) (λ p. omega arith) (λ p. omega arith)
        | inr i ↦
            let f' : find xs j ≡ Some x = (grind (arith, nat_tests)) in
            let at = found_listed xs (b + 1) k j x rest f' in
            let hf : room c s y.0 * c.z ≤ y.1.sound = q y.0 y.1 (omega arith) (grind (arith, nat_tests)) in
            let ih : first c s j + m < reach_of c s (y.0 * c.n + c.n) xs =
            reach_above xs (b + 1) k (y.0 * c.n + c.n) rest (omega arith)
            (λ a z g. fits a z (let l = found_listed xs (b + 1) k a z rest g in grind (arith, nat_tests)))
            j x m f' (λ a z d g. q a z d (let l = found_listed xs (b + 1) k a z rest g in grind (arith, nat_tests))) o in
            cond_both (full c s y) (reach_of c s (y.0 * c.n + c.n) xs) (first c s y.0 + y.1.sound / c.z) (λ w. first c s j + m < w) (λ p. ih)
            (λ p. absurd (omega (arith, leb-false (room c s y.0 * c.z) y.1.sound p)))
      ]

  -- the reach is no further than f, where all that is sound, and sound below it, is below f
  pub reach_within : (xs : Blobs) (b k e f : ℕ) → numbers xs ≡ count b k → lo ≤ b → first c s b ≤ f → e ≤ f
      → ((j : ℕ) (x : Blob) (m : ℕ) → find xs j ≡ Some x → FullTo c s xs j → suc m * c.z ≤ x.sound → first c s j + m < f)
      → reach_of c s e xs ≤ f
  reach_within [] b k e f n h g g' o = g'
  reach_within (y ∷ xs) b zero e f n h g g' o = impossible cc
  reach_within (y ∷ xs) b (suc k) e f n h g g' o =
      let head : y.0 ≡ b = cc in
      let rest : numbers xs ≡ count (b + 1) k = cc in
      let r = first_room c s lo low b h in
      let t = first_next c s lo low b h in
      let u : first c s (b + 1) ≡ first c s (suc b) = ap (λ (i : ℕ). first c s i) (omega arith) in
      let v : y.0 * c.n ≡ b * c.n = ap (λ (i : ℕ). i * c.n) head in
      let fy : first c s y.0 ≡ first c s b = ap (λ (i : ℕ). first c s i) head in
      let ry : room c s y.0 ≡ room c s b = ap (λ (i : ℕ). room c s i) head in
      let rp = room_some c s lo low b h in
      let here : find (y ∷ xs) y.0 ≡ Some y.1 = (grind (arith, nat_tests)) in
      let none : FullTo c s (y ∷ xs) y.0 =
      λ i z l e'. absurd (let a = found_listed (y ∷ xs) b (suc k) i z n e' in omega arith) in
      let at : (m : ℕ) → suc m * c.z ≤ y.1.sound → first c s y.0 + m < f = λ m l. o y.0 y.1 m here none l in
      cond_both (full c s y) (reach_of c s (y.0 * c.n + c.n) xs) (first c s y.0 + y.1.sound / c.z) (λ w. w ≤ f)
      (λ p.
      let q = leb-true (room c s y.0 * c.z) y.1.sound p in
      let m : ℕ = room c s y.0 - 1 in
      let sm : suc m ≡ room c s y.0 = omega arith in
      let sz : suc m * c.z ≡ room c s y.0 * c.z = ap (λ (i : ℕ). i * c.z) sm in
      let a = at m (omega arith) in
      let up : y.0 * c.n + c.n ≤ f = omega arith in
      reach_within xs (b + 1) k (y.0 * c.n + c.n) f rest (omega arith) (omega arith) up
      (λ j x i e' q' l.
      let a' = found_listed xs (b + 1) k j x rest e' in
      o j x i (grind (arith, nat_tests)) (λ i' z l' g''. elim (cases_eq y.0 i') [
        | inl w ↦ let is : y.1 ≡ z = (grind (arith, nat_tests)) in
            let is' : y.1.sound ≡ z.sound = ap (λ (a : Blob). a.sound) is in
            let rr : room c s y.0 * c.z ≡ room c s i' * c.z = ap (λ (i : ℕ). room c s i * c.z) w in
            omega arith
        | inr w ↦ q' i' z l' (grind (arith, nat_tests))
      ]) l))
      (λ p. div_within c.z (first c s y.0) y.1.sound f at (omega arith))

  -- what is kept is within the reach
  pub reach_kept : (xs : Blobs) (b k e kept : ℕ) → numbers xs ≡ count b k → lo ≤ b → (k ≡ 0 → kept ≤ e) → (0 < k → kept ≤ (b + k) * c.n)
      → ((j : ℕ) (x : Blob) (m : ℕ) → find xs j ≡ Some x → m ≤ room c s j → first c s j + m ≤ kept → m * c.z ≤ x.sound)
      → kept ≤ reach_of c s e xs
  reach_kept [] b zero e kept n h g g' o = g refl
  reach_kept [] b (suc k) e kept n h g g' o = impossible cc
  reach_kept (y ∷ xs) b zero e kept n h g g' o = impossible cc
  reach_kept (y ∷ xs) b (suc k) e kept n h g g' o =
      let head : y.0 ≡ b = cc in
      let rest : numbers xs ≡ count (b + 1) k = cc in
      let r = first_room c s lo low b h in
      let v : y.0 * c.n ≡ b * c.n = ap (λ (i : ℕ). i * c.n) head in
      let fy : first c s y.0 ≡ first c s b = ap (λ (i : ℕ). first c s i) head in
      let ry : room c s y.0 ≡ room c s b = ap (λ (i : ℕ). room c s i) head in
      let here : find (y ∷ xs) y.0 ≡ Some y.1 = (grind (arith, nat_tests)) in
      let top : kept ≤ (b + suc k) * c.n = g' (omega arith) in
      cond_both (full c s y) (reach_of c s (y.0 * c.n + c.n) xs) (first c s y.0 + y.1.sound / c.z) (λ w. kept ≤ w)
      (λ p. reach_kept xs (b + 1) k (y.0 * c.n + c.n) kept rest (omega arith)
      (λ z. let kz : k * c.n ≡ 0 * c.n = ap (λ (i : ℕ). i * c.n) z in omega arith)
      (λ z. omega arith)
      (λ j x m f l d. o j x m (let a = found_listed xs (b + 1) k j x rest f in grind (arith, nat_tests)) l d))
      (λ p.
      let q = leb-false (room c s y.0 * c.z) y.1.sound p in
      elim (cases_lt (kept - first c s y.0) (room c s y.0)) [
        | inl i ↦ elim (cases_lt (first c s y.0) kept) [
          | inl d ↦
              let a = o y.0 y.1 (kept - first c s y.0) here (omega arith) (omega arith) in
              let t = le-div (kept - first c s y.0) y.1.sound c.z zp a in
              omega arith
          | inr d ↦ omega arith
        ]
        | inr i ↦ absurd (
            let rp = room_some c s lo low b h in
            let a = o y.0 y.1 (room c s y.0) here (omega arith) (omega arith) in omega arith)
      ])

  -- all that is within the reach is sound
  pub reach_covers : (xs : Blobs) (b k e : ℕ) → numbers xs ≡ count b k → lo ≤ b → ((j : ℕ) (x : Blob) → find xs j ≡ Some x → Fits c s j x)
      → (j : ℕ) (x : Blob) (m : ℕ) → find xs j ≡ Some x → m ≤ room c s j → first c s j + m ≤ reach_of c s e xs → m * c.z ≤ x.sound
  reach_covers [] b k e n h fits j x m f l g = never (find [] j) x refl f
  reach_covers (y ∷ xs) b zero e n h fits j x m f l g = impossible cc
  reach_covers (y ∷ xs) b (suc k) e n h fits j x m f l g =
      let head : y.0 ≡ b = cc in
      let rest : numbers xs ≡ count (b + 1) k = cc in
      let dm = div-add-mod' y.1.sound c.z in
      elim (cases_Bool (full c s y)) [
        | inl p ↦
            let q = leb-true (room c s y.0 * c.z) y.1.sound p in
            let is : reach_of c s e (y ∷ xs) ≡ reach_of c s (y.0 * c.n + c.n) xs = cond-true (full c s y) (reach_of c s (y.0 * c.n + c.n) xs) (first c s y.0 + y.1.sound / c.z) p in
            elim (cases_eq y.0 j) [
              | inl i ↦
                  let same : y.1 ≡ x = (grind (arith, nat_tests)) in
                  let so : y.1.sound ≡ x.sound = ap (λ (a : Blob). a.sound) same in
                  let rj : room c s y.0 * c.z ≡ room c s j * c.z = ap (λ (a : ℕ). room c s a * c.z) i in
                  let mm = mul-le-mul_right c.z l in
                  omega arith
              | inr i ↦
                  let f' : find xs j ≡ Some x = (grind (arith, nat_tests)) in
                  reach_covers xs (b + 1) k (y.0 * c.n + c.n) rest (omega arith) (λ a z w. fits a z (let t = found_listed xs (b + 1) k a z rest w in grind (arith, nat_tests))) j x m f' l (omega arith)
            ]
        | inr p ↦
            let q = leb-false (room c s y.0 * c.z) y.1.sound p in
            let is : reach_of c s e (y ∷ xs) ≡ first c s y.0 + y.1.sound / c.z = cond-false (full c s y) (reach_of c s (y.0 * c.n + c.n) xs) (first c s y.0 + y.1.sound / c.z) p in
            elim (cases_eq y.0 j) [
              | inl i ↦
                  let same : y.1 ≡ x = (grind (arith, nat_tests)) in
                  let so : y.1.sound ≡ x.sound = ap (λ (a : Blob). a.sound) same in
                  let fj : first c s y.0 ≡ first c s j = ap (λ (a : ℕ). first c s a) i in
                  let ml : m ≤ y.1.sound / c.z = omega arith in
                  let mm = mul-le-mul_right c.z ml in
                  omega arith
              | inr i ↦
                  let at = found_listed (y ∷ xs) b (suc k) j x n f in
                  let ap = first_apart c s lo low y.0 j (omega arith) (omega arith) in
                  let less : y.1.sound / c.z < room c s y.0 = div_below y.1.sound c.z (room c s y.0) zp (omega arith) in
                  absurd (omega arith)
            ]
      ]

  pub reach_top : (xs : Blobs) (b k e : ℕ) → numbers xs ≡ count b k → lo ≤ b → (k ≡ 0 → e ≤ b * c.n) → reach_of c s e xs ≤ (b + k) * c.n
  reach_top [] b zero e n h g = let t = g refl in let z : (b + 0) * c.n ≡ b * c.n = ap (λ (j : ℕ). j * c.n) (omega arith) in omega arith
  reach_top [] b (suc k) e n h g = impossible cc
  reach_top (y ∷ xs) b zero e n h g = impossible cc
  reach_top (y ∷ xs) b (suc k) e n h g =
      let head : y.0 ≡ b = cc in
      let rest : numbers xs ≡ count (b + 1) k = cc in
      let nx : y.0 * c.n ≡ b * c.n = ap (λ (j : ℕ). j * c.n) head in
      let fy : first c s y.0 ≡ first c s b = ap (λ (j : ℕ). first c s j) head in
      let ry : room c s y.0 ≡ room c s b = ap (λ (j : ℕ). room c s j) head in
      let r = first_room c s lo low b h in
      let ih : reach_of c s (y.0 * c.n + c.n) xs ≤ (b + 1 + k) * c.n = reach_top xs (b + 1) k (y.0 * c.n + c.n) rest (omega arith) (λ z. omega arith) in
      cond_both (full c s y) (reach_of c s (y.0 * c.n + c.n) xs) (first c s y.0 + y.1.sound / c.z) (λ w. w ≤ (b + suc k) * c.n)
      (λ p. omega arith)
      (λ p.
      let q = leb-false (room c s y.0 * c.z) y.1.sound p in
      let less : y.1.sound / c.z < room c s y.0 = div_below y.1.sound c.z (room c s y.0) zp (omega arith) in
      omega arith)

module _ {R : Type 0} (c : Config) (enc : R → List ℕ) (zp : 0 < c.z) (l : Ledger R) {lo more : ℕ} (bs : Blobs) (w : Rows c enc lo more bs l) where
  full_to : (b : ℕ) (x : Blob) → find bs b ≡ Some x → Reached c l.start bs b → FullTo c l.start bs b
  full_to b x e q i y h f = elim (cases_lt (suc i) b) [
    | inl g ↦
        let at = found_listed bs (lo) (suc (more)) b x w.listed e in
        let d = w.deep i y f (omega arith) in
        let t = w.fits i y f in
        omega arith
    | inr g ↦ q i y (omega arith) f
  ]

  abbrev pub reach : ℕ
  reach = reach_of c l.start l.start bs

  pub reach_far : reach ≤ l.far
  reach_far =
      let f = first_low c l.start (lo) w.low in
      let a = w.start_kept in
      let b = w.kept_far in
      reach_within c l.start (lo) w.low zp bs (lo) (suc (more)) l.start l.far w.listed (omega arith) (omega arith) (omega arith)
      (λ j x m e q o. (w.held j x m e (λ k y i f. q k y (omega arith) f) o).inside)

  pub kept_reach : l.kept ≤ reach
  kept_reach =
      reach_kept c l.start (lo) w.low zp bs (lo) (suc (more)) l.start l.kept w.listed (omega arith)
      (λ z. absurd (omega arith))
      (λ z. let t = w.kept_top in omega arith)
      (λ j x m e h g. let t = w.fits j x e in let o = w.kept j x m e h g in omega arith)

  -- the far end comes down to the reach
  pub rows_reach : (e : ℕ) → Rows c enc lo more bs (moved l l.start e l.kept reach)
  rows_reach e = rows_far c enc l bs reach e w kept_reach (let a = reach_far in let b = w.far_most in omega arith) (λ b x m f q o.
      reach_above c l.start (lo) w.low zp bs (lo) (suc (more)) l.start w.listed (omega arith) w.fits b x m f (full_to b x f q) o)
