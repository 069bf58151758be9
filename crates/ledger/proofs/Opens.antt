-- Opening a store with blobs: the span is the ledger's below the ceiling, and wherever it stops the disk is safe.
use Rattle.std.proofs.Common.{◌≡◌, ℕ, zero, suc, ◌+◌, ◌-◌, ◌*◌, ◌/◌, ◌%◌, ◌<◌, ◌≤◌, min, max, Bool, true, false, cond, ◌||◌, eqb, ltb, leb, ◌⊎◌, List, [], ◌∷◌, ◌++◌, reverse, length, Some, None, Option, sym, refl, ap, ◌∙◌, subst, inl, inr, mul-le-mul_right, div-lt_iff_lt-mul, mul-le-mul_left, div-mul-le_self, arith}
use native.Mathlib.Nat.{div-eq_of_lt-le, lt-div-mul-add}
use Rattle.std.proofs.lemmas.Bool.Decides.{nat_tests}
use Rattle.std.proofs.lemmas.Bool.{cases_eq, cases_lt, cases_Bool, cond_both, cond-true, cond-false, eq-eqb, eqb-true, leb-true, leb-false, ltb-true, ltb-false, le-ltb, lt-ltb, or_cases, or_from, or_left, or_right}
use Rattle.std.proofs.lemmas.Nat.{le-div, div-add-mod'}
use Rattle.std.proofs.lemmas.List.{reverse-append, reverse-reverse, append_assoc, length-append}
use Rattle.store.specs.Disk.{Blob, Blobs, Disk, find, numbers}
use Rattle.store.specs.declared.keys.Keys.{Keys}
use Rattle.rules.specs.Rules.{Config, MAX, blob_of, first_in, aligned, Plan, Fault, refuse, ask, refuse_if, OffsetOverflow, Corruption, ItemPruned}
use Rattle.rules.specs.Open.{Opened, no_edge, walk_all, Walked, examine, examine_two, below, any_over, start_at, weigh, open_rule, lowest, edge_at, or_max, is_below}
use Rattle.rules.specs.Calls.{count}
use Rattle.ledger.specs.Ledger.{Ledger}
use Rattle.ledger.proofs.Blobs.{impossible, never, found_listed}
use Rattle.ledger.proofs.Invariant.{Still, rows_apart, first, room, first_is, Lowest, first_room, first_next, first_low, Fits, Rows, HintStands, Standing, Safe, moved}
use Rattle.ledger.proofs.Reach.{reach_of, full, reach_from, kept_reach, reach_covers, reach_top}
use Rattle.ledger.proofs.Plans.{Leads, leads_unless}
use Rattle.ledger.proofs.Walks.{Seen, AllSeen, seen_same, walk_all_lem, rounded, Suspect, Left, examine_leads}
use Rattle.ledger.proofs.Cuts.{Cuttable}

-- the two highest -------------------------------------------------------------------------------

pub record Two (bs : Blobs) : Type 0 where
  pub rest : Blobs
  pub second : ℕ × Blob
  pub top : ℕ × Blob
  pub is : bs ≡ rest ++ (second ∷ (top ∷ []))

pub split_two : (bs : Blobs) (lo k : ℕ) → numbers bs ≡ count lo (suc (suc k)) → Two bs
split_two [] lo k n = impossible cc
split_two (x ∷ []) lo k n = impossible cc
split_two (x ∷ (y ∷ [])) lo k n = record { rest = []; second = x; top = y; is = refl }
split_two (x ∷ (y ∷ (z ∷ bs))) lo zero n = impossible cc
split_two (x ∷ (y ∷ (z ∷ bs))) lo (suc k) n =
    let rest : numbers (y ∷ (z ∷ bs)) ≡ count (lo + 1) (suc (suc k)) = cc in
    let t = split_two (y ∷ (z ∷ bs)) (lo + 1) k rest in
    record { rest = x ∷ t.rest; second = t.second; top = t.top; is = ap {B = Blobs} (λ r. x ∷ r) t.is }

-- the places of the blobs of a row
numbers_at : (zs ys : Blobs) (y : ℕ × Blob) (b k : ℕ) → numbers (zs ++ (y ∷ ys)) ≡ count b k → (y.0 ≡ b + length zs) × (b + length zs + suc (length ys) ≡ b + k) × (find (zs ++ (y ∷ ys)) y.0 ≡ Some y.1)
numbers_at [] ys y b zero n = impossible cc
numbers_at [] ys y b (suc k) n =
    let head : y.0 ≡ b = cc in
    let rest : numbers ys ≡ count (b + 1) k = cc in
    let len = numbers_length ys (b + 1) k rest in
    (omega arith, omega arith, grind (arith, nat_tests))
  where
    numbers_length : (xs : Blobs) (b k : ℕ) → numbers xs ≡ count b k → length xs ≡ k
    numbers_length [] b zero n = refl
    numbers_length [] b (suc k) n = impossible cc
    numbers_length (x ∷ xs) b zero n = impossible cc
    numbers_length (x ∷ xs) b (suc k) n = let rest : numbers xs ≡ count (b + 1) k = cc in ap suc (numbers_length xs (b + 1) k rest)
numbers_at (z ∷ zs) ys y b zero n = impossible cc
numbers_at (z ∷ zs) ys y b (suc k) n =
    let head : z.0 ≡ b = cc in
    let rest : numbers (zs ++ (y ∷ ys)) ≡ count (b + 1) k = cc in
    let t = numbers_at zs ys y (b + 1) k rest in
    let f = t.2 in
    let p = t.0 in
    (omega arith, (let q = t.1 in omega arith), grind (arith, nat_tests))

-- the blobs below the edge are a row from the lowest
below_row : (bs : Blobs) (b k edge : ℕ) → numbers bs ≡ count b k → (j : ℕ) × (numbers (below edge bs) ≡ count b j) × (j ≤ k) × ((i : ℕ) (x : Blob) → find (below edge bs) i ≡ Some x → find bs i ≡ Some x)
below_row [] b zero edge n = (0, refl, omega arith, λ i x f. f)
below_row [] b (suc k) edge n = impossible cc
below_row (x ∷ xs) b zero edge n = impossible cc
below_row (x ∷ xs) b (suc k) edge n =
    let head : x.0 ≡ b = cc in
    let rest : numbers xs ≡ count (b + 1) k = cc in
    let ih = below_row xs (b + 1) k edge rest in
    elim (cases_Bool (ltb x.0 edge)) [
      | inl e ↦
          let is : below edge (x ∷ xs) ≡ x ∷ below edge xs = cond-true (ltb x.0 edge) (x ∷ below edge xs) [] e in
          let q = ih.1 in
          let u = ih.2 in (
            suc ih.0,
            ap (λ (r : Blobs). numbers r) is ∙ (let g : x.0 ∷ numbers (below edge xs) ≡ b ∷ count (b + 1) ih.0 = cc in g),
            omega arith,
            λ i y f.
                let f' : find (x ∷ below edge xs) i ≡ Some y = subst (λ (r : Blobs). find r i ≡ Some y) is f in
                elim (cases_eq x.0 i) [
                  | inl o ↦ grind (arith, nat_tests)
                  | inr o ↦ let g : find xs i ≡ Some y = ih.3 i y (grind (arith, nat_tests)) in grind (arith, nat_tests)
                ],
          )
      | inr e ↦
          let is : below edge (x ∷ xs) ≡ [] = cond-false (ltb x.0 edge) (x ∷ below edge xs) [] e in
          (0, ap (λ (r : Blobs). numbers r) is, omega arith, λ i y f. never (find [] i) y refl (subst (λ (r : Blobs). find r i ≡ Some y) is f))
    ]

-- the edge --------------------------------------------------------------------------------------

-- from the edge on, blobs begin at the ceiling or above it
past_edge : (c : Config) (s : ℕ) (ceiling : Option ℕ) → 0 < c.n → (i : ℕ) → edge_at c s ceiling ≤ i → or_max ceiling ≤ max s (i * c.n)
past_edge c s None np i h = let a : i * 1 ≤ i * c.n = mul-le-mul_left i np in omega arith
past_edge c s (Some k) np i h = elim (cases_Bool (leb k s)) [
  | inl e ↦ let a = leb-true k s e in omega arith
  | inr e ↦
      let is : edge_at c s (Some k) ≡ (k + (c.n - 1)) / c.n = cond-false (leb k s) 0 ((k + (c.n - 1)) / c.n) e in
      let a = rounded c.n k np in
      let b : (k + (c.n - 1)) / c.n * c.n ≤ i * c.n = mul-le-mul_right c.n (omega arith) in
      omega arith
]

-- every blob is set aside, or only what is above the end
edge_sets : (c : Config) (s far : ℕ) (ceiling : Option ℕ) → 0 < c.n → s ≤ far → far ≤ MAX
    → ((edge_at c s ceiling ≡ 0) × (min far (or_max ceiling) ≤ s)) ⊎ ((min far (or_max ceiling) ≤ edge_at c s ceiling * c.n) × (s < edge_at c s ceiling * c.n))
edge_sets c s far None np h g = let a : no_edge * 1 ≤ no_edge * c.n = mul-le-mul_left no_edge np in inr (omega arith, omega arith)
edge_sets c s far (Some k) np h g = elim (cases_Bool (leb k s)) [
  | inl e ↦ let a = leb-true k s e in inl (cond-true (leb k s) 0 ((k + (c.n - 1)) / c.n) e, omega arith)
  | inr e ↦
      let b = leb-false k s e in
      let is : edge_at c s (Some k) * c.n ≡ (k + (c.n - 1)) / c.n * c.n = ap (λ (j : ℕ). j * c.n) (cond-false (leb k s) 0 ((k + (c.n - 1)) / c.n) e) in
      let a = rounded c.n k np in
      inr (omega arith, omega arith)
]

-- below the ceiling, the reach is that of the blobs below the edge
reach_below : (c : Config) (s top lo edge : ℕ) (low : Lowest c s lo) (zp : 0 < c.z) → ((i : ℕ) → edge ≤ i → top ≤ first c s i)
    → (xs : Blobs) (b k e : ℕ) → numbers xs ≡ count b k → lo ≤ b → e ≡ first c s b → min (reach_of c s e (below edge xs)) top ≡ min (reach_of c s e xs) top
reach_below c s top lo edge low zp past [] b k e n h i = refl
reach_below c s top lo edge low zp past (x ∷ xs) b zero e n h i = impossible cc
reach_below c s top lo edge low zp past (x ∷ xs) b (suc k) e n h i =
    let head : x.0 ≡ b = cc in
    let rest : numbers xs ≡ count (b + 1) k = cc in
    elim (cases_Bool (ltb x.0 edge)) [
      | inl g ↦
          let is : below edge (x ∷ xs) ≡ x ∷ below edge xs = cond-true (ltb x.0 edge) (x ∷ below edge xs) [] g in
          let nx : x.0 * c.n ≡ b * c.n = ap (λ (j : ℕ). j * c.n) head in
          let u : first c s (b + 1) ≡ first c s (suc b) = ap (λ (j : ℕ). first c s j) (omega arith) in
          let v = first_next c s lo low b h in
          let ih : min (reach_of c s (x.0 * c.n + c.n) (below edge xs)) top ≡ min (reach_of c s (x.0 * c.n + c.n) xs) top = reach_below c s top lo edge low zp past xs (b + 1) k (x.0 * c.n + c.n) rest (omega arith) (omega arith) in
          let short : ℕ = first c s x.0 + x.1.sound / c.z in
          ap (λ (r : Blobs). min (reach_of c s e r) top) is
          ∙ (elim (cases_Bool (full c s x)) [
            | inl p ↦
                ap (λ (j : ℕ). min j top) (cond-true (full c s x) (reach_of c s (x.0 * c.n + c.n) (below edge xs)) short p)
                ∙ (ih ∙ ap (λ (j : ℕ). min j top) (sym (cond-true (full c s x) (reach_of c s (x.0 * c.n + c.n) xs) short p)))
            | inr p ↦
                ap (λ (j : ℕ). min j top) (cond-false (full c s x) (reach_of c s (x.0 * c.n + c.n) (below edge xs)) short p
                ∙ sym (cond-false (full c s x) (reach_of c s (x.0 * c.n + c.n) xs) short p))
          ])
      | inr g ↦
          let is : below edge (x ∷ xs) ≡ [] = cond-false (ltb x.0 edge) (x ∷ below edge xs) [] g in
          let a = past b (let q = ltb-false x.0 edge g in omega arith) in
          let r = reach_from c s lo low zp (x ∷ xs) b (suc k) e n h (omega arith) in
          ap (λ (r : Blobs). min (reach_of c s e r) top) is ∙ (let f : min e top ≡ min (reach_of c s e (x ∷ xs)) top = omega arith in f)
    ]

none_over : (c : Config) (bs : Blobs) (b k : ℕ) → numbers bs ≡ count b k → ((j : ℕ) → j < b + k → j * c.n ≤ MAX) → any_over c bs ≡ false
none_over c [] b k n h = refl
none_over c (x ∷ xs) b zero n h = impossible cc
none_over c (x ∷ xs) b (suc k) n h =
    let head : x.0 ≡ b = cc in
    let rest : numbers xs ≡ count (b + 1) k = cc in
    let ih : any_over c xs ≡ false = none_over c xs (b + 1) k rest (λ j g. h j (omega arith)) in
    let here : ltb MAX (x.0 * c.n) ≡ false = le-ltb MAX (x.0 * c.n) (h x.0 (omega arith)) in
    or_from (ltb MAX (x.0 * c.n)) (any_over c xs) here ih

seen_two : (c : Config) (s top : ℕ) (zs : Blobs) (y x y' x' : ℕ × Blob) (b k : ℕ) → numbers (zs ++ (y ∷ (x ∷ []))) ≡ count b k
    → ((z : ℕ × Blob) → find (zs ++ (y ∷ (x ∷ []))) z.0 ≡ Some z.1 → z.0 < y.0 → Seen c s top z z)
    → Seen c s top y y' → Seen c s top x x' → AllSeen c s top (zs ++ (y ∷ (x ∷ []))) (zs ++ (y' ∷ (x' ∷ [])))
seen_two c s top [] y x y' x' b k n h p q = (p, (q, tt))
seen_two c s top (z ∷ zs) y x y' x' b zero n h p q = impossible cc
seen_two c s top (z ∷ zs) y x y' x' b (suc k) n h p q =
    let head : z.0 ≡ b = cc in
    let rest : numbers (zs ++ (y ∷ (x ∷ []))) ≡ count (b + 1) k = cc in
    let t = numbers_at (z ∷ zs) (x ∷ []) y b (suc k) n in
    let p' = t.0 in (
      h z (grind (arith, nat_tests)) (omega arith),
      seen_two c s top zs y x y' x' (b + 1) k rest (λ v f g. h v (let a = found_listed (zs ++ (y ∷ (x ∷ []))) (b + 1) k v.0 v.1 rest f in grind (arith, nat_tests)) g) p q,
    )

-- the start -------------------------------------------------------------------------------------

pub start_blob : (c : Config) (s lo : ℕ) → Lowest c s lo → s / c.n ≡ lo
start_blob c s lo low = let a = low.from in let b = low.below in div-eq_of_lt-le {k = lo} c.n (omega arith) (omega arith)

-- an aligned start is its blob's first position
pub start_aligned : (c : Config) (s lo : ℕ) → Lowest c s lo → s % c.n ≡ 0 → s ≡ lo * c.n
start_aligned c s lo low e =
    let d = div-add-mod' s c.n in
    let m : s / c.n * c.n ≡ lo * c.n = ap (λ (j : ℕ). j * c.n) (start_blob c s lo low) in
    omega arith

unrefused_is : {A : Type 0} (b : Bool) (f : Fault) (p : Plan A) → b ≡ false → refuse_if b f p ≡ p
unrefused_is true f p e = impossible cc
unrefused_is false f p e = refl

module _ {A : Type 0} (c : Config) (s lo : ℕ) (low : Lowest c s lo) (k : ℕ → Plan A) (top : lo * c.n ≤ MAX) where
  -- a hint that is passed over
  free : (v : ℕ) → s ≡ lo * c.n → (aligned c v || ltb (blob_of c v) lo) ≡ true → start_at c (Some v) (Some lo) k ≡ k s
  free v e h =
      unrefused_is (ltb MAX (lo * c.n)) OffsetOverflow _ (le-ltb MAX (lo * c.n) top)
      ∙ (cond-true (aligned c v || ltb (blob_of c v) lo) (k (lo * c.n)) (cond (eqb (blob_of c v) lo) (k v) (refuse (Corruption 1))) h ∙ ap k (sym e))

  -- the hint is the start
  used : start_at c (Some s) (Some lo) k ≡ k s
  used =
      unrefused_is (ltb MAX (lo * c.n)) OffsetOverflow _ (le-ltb MAX (lo * c.n) top)
      ∙ cond_both (aligned c s || ltb (blob_of c s) lo) (k (lo * c.n)) (cond (eqb (blob_of c s) lo) (k s) (refuse (Corruption 1))) (λ p. p ≡ k s)
      (λ e. elim (or_cases (aligned c s) (ltb (blob_of c s) lo) e) [
        | inl a ↦ ap k (sym (start_aligned c s lo low (eqb-true (s % c.n) 0 a)))
        | inr a ↦ absurd (let b = ltb-true (blob_of c s) lo a in let q = start_blob c s lo low in omega arith)
      ])
      (λ e. cond-true (eqb (blob_of c s) lo) (k s) (refuse (Corruption 1)) (eq-eqb (blob_of c s) lo (start_blob c s lo low)))

  pub start_is : (h : Option ℕ) → HintStands c s h → start_at c h (Some lo) k ≡ k s
  start_is None (inl e) = impossible cc
  start_is None (inr (a, f)) = unrefused_is (ltb MAX (lo * c.n)) OffsetOverflow _ (le-ltb MAX (lo * c.n) top) ∙ ap k (sym (start_aligned c s lo low a))
  start_is (Some v) (inl e) = let i : v ≡ s = cc in ap (λ (j : ℕ). start_at c (Some j) (Some lo) k) i ∙ used
  start_is (Some v) (inr (a, inl e)) = impossible cc
  start_is (Some v) (inr (a, inr (u, e, inl f))) =
      let i : v ≡ u = cc in
      free v (start_aligned c s lo low a) (or_left (aligned c v) (ltb (blob_of c v) lo) (eq-eqb (v % c.n) 0 (ap (λ (j : ℕ). j % c.n) i ∙ f)))
  start_is (Some v) (inr (a, inr (u, e, inr f))) =
      let i : v ≡ u = cc in
      let sa = start_aligned c s lo low a in
      let np : 0 < c.n = let x = low.from in let y = low.below in omega arith in
      free v sa (or_right (aligned c v) (ltb (blob_of c v) lo) (lt-ltb (blob_of c v) lo ((div-lt_iff_lt-mul {k = c.n} np).1 (omega arith))))

-- the suspects ----------------------------------------------------------------------------------

-- lengths fit 64 bits
abbrev pub Small : Blobs → Type 0
Small bs = (b : ℕ) (x : Blob) → find bs b ≡ Some x → length x.bytes ≤ MAX

module _ {R : Type 0} (c : Config) (enc : R → List ℕ) (zp : 0 < c.z) where
  pub suspect : {lo more : ℕ} (m : Ledger R) (bs : Blobs) (floor : ℕ) (x : ℕ × Blob) → Rows c enc lo more bs m → Small bs → floor ≤ m.kept → find bs x.0 ≡ Some x.1 → Suspect c m.start m.kept floor x
  suspect {lo} {more} m bs floor x w small under e = record {
    fits = f;
    short = small x.0 x.1 e;
    below_floor = λ h.
        let a = rows_apart c.n x.0 (blob_of c floor) h in
        let b = div-mul-le_self floor c.n in
        let r = fr in
        let o = w.kept x.0 x.1 (room c m.start x.0) e (omega arith) (omega arith) in
        let g = f.safe_sound in
        omega arith;
    ack_sound = cond_both (eqb x.0 (blob_of c floor)) ((floor - first_in c m.start x.0) * c.z) 0 (λ a. a ≤ (x.1.sound / c.z) * c.z)
        (λ h. let j = le-div (floor - first_in c m.start x.0) x.1.sound c.z zp (ack h) in mul-le-mul_right c.z j) (λ h. omega arith);
    kept = λ j h g. let o = w.kept x.0 x.1 j e h g in let b = f.safe_sound in omega arith;
  }
    where
      f : Fits c m.start x.0 x.1
      f = w.fits x.0 x.1 e

      at : lo ≤ x.0
      at = (found_listed bs lo (suc more) x.0 x.1 w.listed e).0

      fr : first c m.start x.0 + room c m.start x.0 ≡ x.0 * c.n + c.n
      fr = first_room c m.start lo w.low x.0 at

      ack : eqb x.0 (blob_of c floor) ≡ true → (floor - first_in c m.start x.0) * c.z ≤ x.1.sound
      ack h =
          let i : x.0 ≡ floor / c.n = eqb-true x.0 (blob_of c floor) h in
          let np : 0 < c.n = let a = w.low.from in let b = w.low.below in omega arith in
          let a = lt-div-mul-add {a = floor} np in
          let ni : x.0 * c.n ≡ floor / c.n * c.n = ap (λ (j : ℕ). j * c.n) i in
          let fi = first_is c m.start x.0 in
          let g = f.safe_sound in
          elim (cases_lt floor (first_in c m.start x.0)) [
            | inl u ↦ let z : floor - first_in c m.start x.0 ≡ 0 = omega arith in let y = ap (λ (j : ℕ). j * c.z) z in omega arith
            | inr u ↦
                let r = fr in
                let o = w.kept x.0 x.1 (floor - first_in c m.start x.0) e (omega arith) (omega arith) in omega arith
          ]

-- the whole -------------------------------------------------------------------------------------

lowest_is : (bs : Blobs) (lo k : ℕ) → numbers bs ≡ count lo (suc k) → lowest bs ≡ Some lo
lowest_is [] lo k n = impossible cc
lowest_is (x ∷ xs) lo k n = ap {B = Option ℕ} Some (let e : x.0 ≡ lo = cc in e)

one_only : (bs : Blobs) (lo : ℕ) → numbers bs ≡ count lo (suc 0) → (x : ℕ × Blob) × (bs ≡ x ∷ []) × (x.0 ≡ lo)
one_only [] lo n = impossible cc
one_only (x ∷ []) lo n = (x, refl, let e : x.0 ≡ lo = cc in e)
one_only (x ∷ (y ∷ bs)) lo n = impossible cc

none_only : (bs : Blobs) (lo : ℕ) → numbers bs ≡ count lo 0 → bs ≡ []
none_only [] lo n = refl
none_only (x ∷ xs) lo n = impossible cc

-- what comes after the start is found
abbrev pub searched : Config → Option ℕ → ℕ → Blobs → ℕ → Plan Opened
searched c ceiling mk bs p =
    refuse_if (any_over c bs) OffsetOverflow
    (examine_two c p ceiling (min mk (or_max ceiling)) (reverse (below (edge_at c p ceiling) bs)) (λ zs. weigh c p ceiling (edge_at c p ceiling) (Some mk) (walk_all c p zs)))

abbrev pub from_start : Config → Option ℕ → ℕ → Blobs → ℕ → Plan Opened
from_start c ceiling mk bs p = refuse_if (is_below ceiling p) (ItemPruned (or_max ceiling)) (searched c ceiling mk bs p)

module _ {R : Type 0} (c : Config) (enc : R → List ℕ) (zp : 0 < c.z) (pp : 0 < c.page) where
  -- an open of a standing store, with the keys h and mk saved
  module _ (ceiling : Option ℕ) {lo more : ℕ} (l : Ledger R) (sure mk : ℕ) (h : Option ℕ) (sv : Keys) (bs : Blobs) (d : Disk)
      (di : d ≡ record { blobs = bs; present = record { hint = h; target = None; watermark = Some mk }; saved = sv })
      (ks : l.kept ≤ sure) (ms : mk ≤ sure) (hint : HintStands c l.start h) (st : Standing c enc lo more d (moved l l.start l.end sure l.far)) where
    abbrev s : ℕ
    s = l.start

    abbrev top : ℕ
    top = or_max ceiling

    abbrev edge : ℕ
    edge = edge_at c s ceiling

    abbrev m : Ledger R
    m = moved l l.start l.end sure l.far

    abbrev floor : ℕ
    floor = min mk top

    abbrev W : Blobs → Plan Opened
    W zs = weigh c s ceiling edge (Some mk) (walk_all c s zs)

    abbrev K : ℕ → Plan Opened
    K p = from_start c ceiling mk bs p

    same : d.blobs ≡ bs
    same = ap (λ (e : Disk). e.blobs) di

    rows : Rows c enc lo more bs m
    rows = rw same at st.rows

    listed : numbers bs ≡ count lo (suc more)
    listed = rows.listed

    tm : (lo + more) * c.n ≤ MAX
    tm = st.rows.top_most

    lo_most : lo * c.n ≤ MAX
    lo_most = let a = mul-le-mul_right {m = lo} {n = lo + more} c.n (omega arith) in let b = tm in omega arith

    -- the plan, once the start is found
    pub standing_is : open_rule c ceiling (record { blobs = bs; present = record { hint = h; target = None; watermark = Some mk }; saved = sv }) ≡ ask (K s)
    standing_is = ap {B = Plan Opened} ask (ap (λ (o : Option ℕ). start_at c h o K) (lowest_is bs lo more listed) ∙ start_is c s lo rows.low K lo_most h hint)

    module _ (now : d.present ≡ d.saved) (far : l.far ≡ reach_of c l.start l.start bs) (still : Still bs) (small : Small bs) (above : is_below ceiling l.start ≡ false) where
      abbrev S : Disk → Type 0
      S e = Safe c enc e l

      abbrev Q : Opened → Disk → Type 0
      Q o e = Cuttable c enc l o e × (o.end ≡ min l.far top)

      -- e has the records up to the far end, and all that is sound is safe
      abbrev Kept : Disk → Type 0
      Kept e = ((b : ℕ) (x : Blob) (i : ℕ) → find e.blobs b ≡ Some x → i ≤ room c s b → first c s b + i ≤ l.far → i * c.z ≤ x.sound) × Still e.blobs × (e.present ≡ d.present) × (e.saved ≡ d.saved)

      np : 0 < c.n
      np = let a = rows.low.from in let b = rows.low.below in omega arith

      over : any_over c bs ≡ false
      over = none_over c bs lo (suc more) listed (λ j g. let a = mul-le-mul_right {m = j} {n = lo + more} c.n (omega arith) in let b = tm in omega arith)

      safe : (e : Disk) → Standing c enc lo more e m → S e
      safe e w = inl (record { lo = lo; more = more; sure = sure; kept_sure = ks; standing = w })

      in_d : (j : ℕ) (x : Blob) → find bs j ≡ Some x → find d.blobs j ≡ Some x
      in_d j x e = ap (λ (zs : Blobs). find zs j) same ∙ e

      kept_d : Kept d
      kept_d = (
        λ b x i f g t. reach_covers c s lo rows.low zp bs lo (suc more) s listed (omega arith) rows.fits b x i (ap (λ (zs : Blobs). find zs b) (sym same) ∙ f) g (omega arith),
        λ b x f. still b x (ap (λ (zs : Blobs). find zs b) (sym same) ∙ f),
        refl,
        refl,
      )

      kept_left : (e f : Disk) (x y : ℕ × Blob) → Kept e → find e.blobs x.0 ≡ Some x.1 → Left c s top e x y f → Kept f
      kept_left e f x y k at t = (
        λ b z i g h u. elim (found b z g) [
          | inl o ↦
              let a = t.covers i (k.0 b x.1 i o.2 h u) in
              let q : y.1.sound ≡ z.sound = ap (λ (v : Blob). v.sound) o.1 in omega arith
          | inr o ↦ k.0 b z i o h u
        ],
        λ b z g. elim (found b z g) [
          | inl o ↦
              let a = t.safe in
              let q : y.1.sound ≡ z.sound = ap (λ (v : Blob). v.sound) o.1 in
              let r : y.1.safe ≡ z.safe = ap (λ (v : Blob). v.safe) o.1 in omega arith
          | inr o ↦ k.1 b z o
        ],
        t.present ∙ k.2,
        t.saved ∙ k.3,
      )
        where
          found : (b : ℕ) (z : Blob) → find f.blobs b ≡ Some z → ((x.0 ≡ b) × (y.1 ≡ z) × (find e.blobs b ≡ Some x.1)) ⊎ (find e.blobs b ≡ Some z)
          found b z g = elim (cases_eq x.0 b) [
            | inl i ↦
                let j : find f.blobs x.0 ≡ find f.blobs b = ap (λ (n : ℕ). find f.blobs n) i in
                let is : y.1 ≡ z = cc (t.here, j, g) in
                inl (i, is, ap (λ (n : ℕ). find e.blobs n) (sym i) ∙ at)
            | inr i ↦ inr (sym (t.others b i) ∙ g)
          ]

      abbrev part : Blobs
      part = below edge bs

      in_part : (j : ℕ) × (numbers part ≡ count lo j) × (j ≤ suc more) × ((i : ℕ) (x : Blob) → find part i ≡ Some x → find bs i ≡ Some x)
      in_part = below_row bs lo (suc more) edge listed

      part_reach : min (reach_of c s s part) top ≡ min l.far top
      part_reach =
          reach_below c s top lo edge rows.low zp (λ i g. let a = past_edge c s ceiling np i g in omega (arith, first_is c s i)) bs lo (suc more) s listed (omega arith) (sym (first_low c s lo rows.low))
          ∙ ap (λ (j : ℕ). min j top) (sym far)

      -- after the walk
      weighs : (ys : Blobs) (e : Disk) → AllSeen c s top part ys → Standing c enc lo more e m → Kept e → Leads S Q (W ys) e
      weighs ys e t w k =
          let r = walk_all_lem c s top lo rows.low zp part ys in_part.0 in_part.1 (λ j x f. rows.fits j x (in_part.3 j x f)) t in
          let at : min r.0 top ≡ min l.far top = r.3 ∙ part_reach in
          let kr = kept_reach c enc zp m bs rows in
          subst (λ (u : Walked). Leads S Q (weigh c s ceiling edge (Some mk) u) e) (sym r.2)
          (leads_unless S Q (ltb r.0 (min mk top)) (Corruption 5) _ e (le-ltb r.0 (min mk top) (omega arith)) (
            record {
              lo = lo;
              more = more;
              sure = sure;
              kept_sure = ks;
              stand = w;
              start = refl;
              mark = omega arith;
              far = omega arith;
              covers = λ b x i f g u. k.0 b x i f g (omega arith);
              sealed = λ b x f g.
                  let a = found_listed e.blobs lo (suc more) b x w.rows.listed f in
                  let q = first_room c s lo rows.low b a.0 in
                  let p = k.0 b x (room c s b) f (omega arith) (omega arith) in
                  let o = k.1 b x f in
                  omega arith;
              top = let a = reach_top c s lo rows.low zp bs lo (suc more) s listed (omega arith) (λ z. absurd (omega arith)) in omega arith;
              edge = elim (edge_sets c s l.far ceiling np (let a = rows.start_kept in let b = rows.kept_far in omega arith) rows.far_most) [
                | inl o ↦ let p = o.1 in inl (o.0, omega arith)
                | inr o ↦ let p = o.0 in inr (omega arith, o.1)
              ];
              now = k.2 ∙ (now ∙ sym k.3);
            },
            at,
          ))

      asked : (x : ℕ × Blob) → find bs x.0 ≡ Some x.1 → Suspect c s sure floor x
      asked x f = suspect c enc zp m bs floor x rows small (omega arith) f

      deep : (x : ℕ × Blob) → find bs x.0 ≡ Some x.1 → suc x.0 < lo + more → room c s x.0 * c.z ≤ x.1.sound
      deep x f g = let a = rows.deep x.0 x.1 f g in let b = rows.fits x.0 x.1 f in omega arith

      back : (rest : Blobs) (x y : ℕ × Blob) → reverse (x ∷ (y ∷ reverse rest)) ≡ rest ++ (y ∷ (x ∷ []))
      back rest x y = reverse-append (x ∷ (y ∷ [])) (reverse rest) ∙ ap (λ (r : Blobs). r ++ (y ∷ (x ∷ []))) (reverse-reverse rest)

      two : (j : ℕ) → numbers part ≡ count lo j → j ≤ suc more → Leads S Q (examine_two c s ceiling floor (reverse part) W) d
      two zero n g =
          let is = none_only part lo n in
          subst (λ (zs : Blobs). Leads S Q (examine_two c s ceiling floor (reverse zs) W) d) (sym is) (weighs [] d (subst (λ (zs : Blobs). AllSeen c s top zs []) (sym is) tt) st kept_d)
      two (suc zero) n g =
          let o = one_only part lo n in
          let x : ℕ × Blob = o.0 in
          let here : find (x ∷ []) x.0 ≡ Some x.1 = (grind (arith, nat_tests)) in
          let found : find bs x.0 ≡ Some x.1 = in_part.3 x.0 x.1 (subst (λ (zs : Blobs). find zs x.0 ≡ Some x.1) (sym o.1) here) in
          subst (λ (zs : Blobs). Leads S Q (examine_two c s ceiling floor (reverse zs) W) d) (sym o.1)
          (examine_leads c enc zp pp ceiling m S safe Q floor x (λ y. W (y ∷ [])) d st (asked x found) (deep x found) (in_d x.0 x.1 found) (still x.0 x.1 found)
          (λ y f t w. weighs (y ∷ []) f (subst (λ (zs : Blobs). AllSeen c s top zs (y ∷ [])) (sym o.1) (t.seen, tt)) w (kept_left d f x y kept_d (in_d x.0 x.1 found) t)))
      two (suc (suc j)) n g =
          let t = split_two part lo j n in
          let rest : Blobs = t.rest in
          let y : ℕ × Blob = t.second in
          let x : ℕ × Blob = t.top in
          let is : part ≡ rest ++ (y ∷ (x ∷ [])) = t.is in
          let nn : numbers (rest ++ (y ∷ (x ∷ []))) ≡ count lo (suc (suc j)) = subst (λ (zs : Blobs). numbers zs ≡ count lo (suc (suc j))) is n in
          let aty = numbers_at rest (x ∷ []) y lo (suc (suc j)) nn in
          let asc : (rest ++ (y ∷ [])) ++ (x ∷ []) ≡ rest ++ (y ∷ (x ∷ [])) = append_assoc rest (y ∷ []) (x ∷ []) in
          let atx = numbers_at (rest ++ (y ∷ [])) [] x lo (suc (suc j)) (subst (λ (zs : Blobs). numbers zs ≡ count lo (suc (suc j))) (sym asc) nn) in
          let len = length-append rest (y ∷ []) in
          let ay0 = aty.0 in let ay1 = aty.1 in let ax0 = atx.0 in
          let fy : find bs y.0 ≡ Some y.1 = in_part.3 y.0 y.1 (subst (λ (zs : Blobs). find zs y.0 ≡ Some y.1) (sym is) aty.2) in
          let fx : find bs x.0 ≡ Some x.1 = in_part.3 x.0 x.1 (subst (λ (zs : Blobs). find zs x.0 ≡ Some x.1) (asc ∙ sym is) atx.2) in
          let turned : reverse part ≡ x ∷ (y ∷ reverse rest) = ap (λ (zs : Blobs). reverse zs) is ∙ reverse-append rest (y ∷ (x ∷ [])) in
          subst (λ (zs : Blobs). Leads S Q (examine_two c s ceiling floor zs W) d) (sym turned)
          (examine_leads c enc zp pp ceiling m S safe Q floor x (λ x'. examine c s ceiling floor y (λ y'. W (reverse (x' ∷ (y' ∷ reverse rest))))) d st
          (asked x fx) (deep x fx) (in_d x.0 x.1 fx) (still x.0 x.1 fx)
          (λ x' e1 tx w1.
          let fy1 : find e1.blobs y.0 ≡ Some y.1 = tx.others y.0 (λ i. omega arith) ∙ in_d y.0 y.1 fy in
          examine_leads c enc zp pp ceiling m S safe Q floor y (λ y'. W (reverse (x' ∷ (y' ∷ reverse rest)))) e1 w1
          (asked y fy) (deep y fy) fy1 (still y.0 y.1 fy)
          (λ y' e2 ty w2. subst (λ (zs : Blobs). Leads S Q (W zs) e2) (sym (back rest x' y'))
          (weighs (rest ++ (y' ∷ (x' ∷ []))) e2
          (subst (λ (zs : Blobs). AllSeen c s top zs (rest ++ (y' ∷ (x' ∷ [])))) (sym is) (seen_two c s top rest y x y' x' lo (suc (suc j)) nn
          (λ z f u.
          let fz : find bs z.0 ≡ Some z.1 = in_part.3 z.0 z.1 (subst (λ (zs : Blobs). find zs z.0 ≡ Some z.1) (sym is) f) in
          let a = deep z fz (omega arith) in
          let b = rows.fits z.0 z.1 fz in
          seen_same c s top z zp b (inl (ap (λ (i : ℕ). i / c.z) (let q : length z.1.bytes ≡ z.1.sound = omega arith in q))))
          ty.seen tx.seen)) w2
          (kept_left e1 e2 y y' (kept_left d e1 x x' kept_d (in_d x.0 x.1 fx) tx) fy1 ty)))))

      -- it is not refused: the log ends at the lower of the far end and the ceiling
      pub open_standing : Leads S Q (ask (K s)) d
      open_standing = (
        safe d st,
        leads_unless S Q (is_below ceiling s) (ItemPruned top) _ d above (leads_unless S Q (any_over c bs) OffsetOverflow _ d over (two in_part.0 in_part.1 in_part.2)),
      )
