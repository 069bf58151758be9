-- Opening finds the reach: what is left of the two highest blobs, and the walk over all.
use Rattle.std.proofs.Common.{◌≡◌, ℕ, zero, suc, ◌+◌, ◌-◌, ◌*◌, ◌/◌, ◌<◌, ◌≤◌, min, Bool, true, false, not, ◌&&◌, eqb, ltb, leb, ◌⊎◌, List, [], ◌∷◌, length, take, is_some, Some, None, Option, sym, refl, ap, ◌∙◌, subst, inl, inr, mul-le-mul_right, mul-div_cancel, arith, length-take}
use native.Mathlib.Nat.{lt-div-mul-add}
use Rattle.std.proofs.lemmas.Bool.Decides.{nat_tests}
use Rattle.std.proofs.lemmas.Bool.{cases_lt, cases_Bool, cond_both, cond-true, cond-false, eq-eqb, ne_eqb, eqb-true, eqb-false, leb-true, leb-false, ltb-true, le-ltb, or_cases, or_parts, and_cases, and_parts, not_from_true}
use Rattle.std.proofs.lemmas.Nat.{le-div, div_below, div-add-mod'}
use Rattle.store.specs.Disk.{Blob, Blobs, Disk, find, numbers, Truncate, done, cut_to}
use Rattle.rules.specs.Rules.{Config, MAX, blob_of, first_in, Plan, OffsetOverflow, Corruption}
use Rattle.rules.specs.Open.{capacity, walk, walk_all, examine, valid, scanned, limit_of, needed, round_up, or_max, passes, acknowledged}
use Rattle.rules.specs.Calls.{count}
use Rattle.rules.specs.Open as open_rules
use Rattle.ledger.specs.Ledger.{Ledger}
use Rattle.ledger.proofs.Blobs.{impossible, found_listed, find_change_same, find_change_other}
use Rattle.ledger.proofs.Invariant.{first, room, first_is, room_is, Lowest, first_room, first_next, first_low, Fits, Standing}
use Rattle.ledger.proofs.Reach.{reach_of, full}
use Rattle.ledger.proofs.Writes.{standing_truncate}
use Rattle.ledger.proofs.Chain.{plain}
use Rattle.ledger.proofs.Plans.{Leads, leads_unless}

-- what is left of a suspect ---------------------------------------------------------------------

-- y is left of the blob x, under the ceiling top: its sound records, and no torn one unless they reach the ceiling
pub record Seen (c : Config) (s top : ℕ) (x y : ℕ × Blob) : Type 0 where
  pub number : y.0 ≡ x.0
  pub within : length y.1.bytes / c.z ≤ room c s x.0
  pub most : first c s x.0 + length y.1.bytes / c.z ≤ MAX
  pub at_least : x.1.sound / c.z ≤ length y.1.bytes / c.z
  pub enough : (length y.1.bytes / c.z ≡ x.1.sound / c.z) ⊎ (top ≤ first c s x.0 + x.1.sound / c.z)

abbrev pub AllSeen : Config → ℕ → ℕ → Blobs → Blobs → Type 0
AllSeen c s top [] [] = Unit {0}
AllSeen c s top [] (y ∷ ys) = ⊥
AllSeen c s top (x ∷ xs) [] = ⊥
AllSeen c s top (x ∷ xs) (y ∷ ys) = Seen c s top x y × AllSeen c s top xs ys

pub div_at_most : (n k m : ℕ) → 0 < k → n ≤ m * k → n / k ≤ m
div_at_most n k m p h = let a = div_below n k (suc m) p (omega arith) in omega arith

div_mono : (a b k : ℕ) → 0 < k → a ≤ b → a / k ≤ b / k
div_mono a b k p h = le-div (a / k) b k p (let d = div-add-mod' a k in omega arith)

-- a blob that is left as it is
pub seen_same : (c : Config) (s top : ℕ) (x : ℕ × Blob) → 0 < c.z → Fits c s x.0 x.1
    → (length x.1.bytes / c.z ≡ x.1.sound / c.z) ⊎ (top ≤ first c s x.0 + x.1.sound / c.z) → Seen c s top x x
seen_same c s top x zp f e =
    let j = f.most in
    let a = div_at_most (length x.1.bytes) c.z j.0 zp j.1 in
    let u = j.2 in
    record {
      number = refl;
      within = div_at_most (length x.1.bytes) c.z (room c s x.0) zp f.length_room;
      most = omega arith;
      at_least = div_mono x.1.sound (length x.1.bytes) c.z zp f.sound_length;
      enough = e;
    }

-- the walk --------------------------------------------------------------------------------------

walk_on : (c : Config) (s size b len : ℕ) (y : ℕ × Blob) (ys : Blobs) → y.0 ≡ b → length y.1.bytes / c.z ≡ len → len ≡ capacity c s b → size + len ≤ MAX
    → walk c s size b (y ∷ ys) ≡ walk c s (size + len) (b + 1) ys
walk_on c s size b len y ys e l f m =
    cond-false (not (eqb y.0 b)) _ _ (not_from_true (eqb y.0 b) (eq-eqb y.0 b e))
    ∙ (cond-false (ltb (capacity c s b) (length y.1.bytes / c.z)) _ _ (le-ltb (capacity c s b) (length y.1.bytes / c.z) (rw l (rw f (omega arith))))
    ∙ (cond-false (ltb MAX (size + length y.1.bytes / c.z)) _ _ (le-ltb MAX (size + length y.1.bytes / c.z) (rw l m))
    ∙ (cond-true (eqb (length y.1.bytes / c.z) (capacity c s b)) _ _ (eq-eqb (length y.1.bytes / c.z) (capacity c s b) (l ∙ f))
    ∙ ap (λ (j : ℕ). walk c s (size + j) (b + 1) ys) l)))

walk_ends : (c : Config) (s size b len : ℕ) (y : ℕ × Blob) (ys : Blobs) → y.0 ≡ b → length y.1.bytes / c.z ≡ len → len < capacity c s b → size + len ≤ MAX
    → walk c s size b (y ∷ ys) ≡ open_rules.stands (size + len) (not (eqb (length ys) 0))
walk_ends c s size b len y ys e l f m =
    cond-false (not (eqb y.0 b)) _ _ (not_from_true (eqb y.0 b) (eq-eqb y.0 b e))
    ∙ (cond-false (ltb (capacity c s b) (length y.1.bytes / c.z)) _ _ (le-ltb (capacity c s b) (length y.1.bytes / c.z) (omega arith))
    ∙ (cond-false (ltb MAX (size + length y.1.bytes / c.z)) _ _ (le-ltb MAX (size + length y.1.bytes / c.z) (rw l m))
    ∙ (cond-false (eqb (length y.1.bytes / c.z) (capacity c s b)) _ _ (ne_eqb (length y.1.bytes / c.z) (capacity c s b) (λ q. omega arith))
    ∙ ap (λ (j : ℕ). open_rules.stands (size + j) (not (eqb (length ys) 0))) l)))

-- where a walk ends
pub record Walks (c : Config) (s top size b : ℕ) (ys : Blobs) (reach : ℕ) : Type 0 where
  pub to : ℕ
  pub gap : Bool
  pub is : walk c s size b ys ≡ open_rules.stands to gap
  pub up : size ≤ to
  pub meets : min to top ≡ min reach top

module _ (c : Config) (s top lo : ℕ) (low : Lowest c s lo) (zp : 0 < c.z) where
  -- below the ceiling the walk finds the reach
  pub walk_reach : (xs ys : Blobs) (b k size : ℕ) → numbers xs ≡ count b k → lo ≤ b → size ≡ first c s b
      → ((j : ℕ) (x : Blob) → find xs j ≡ Some x → Fits c s j x) → AllSeen c s top xs ys
      → Walks c s top size b ys (reach_of c s size xs)
  walk_reach [] [] b k size n h i fits t = record { to = size; gap = false; is = refl; up = omega arith; meets = refl }
  walk_reach [] (y ∷ ys) b k size n h i fits t = elim t [ ]
  walk_reach (x ∷ xs) [] b k size n h i fits t = elim t [ ]
  walk_reach (x ∷ xs) (y ∷ ys) b zero size n h i fits t = impossible cc
  walk_reach (x ∷ xs) (y ∷ ys) b (suc k) size n h i fits t =
      let head : x.0 ≡ b = cc in
      let rest : numbers xs ≡ count (b + 1) k = cc in
      let len : ℕ = length y.1.bytes / c.z in
      let here : find (x ∷ xs) b ≡ Some x.1 = (grind (arith, nat_tests)) in
      let f = fits b x.1 here in
      let r = first_room c s lo low b h in
      let rc : capacity c s b ≡ room c s b = sym (room_is c s b) in
      let u : first c s (b + 1) ≡ first c s (suc b) = ap (λ (j : ℕ). first c s j) (omega arith) in
      let v = first_next c s lo low b h in
      let fx : first c s x.0 ≡ first c s b = ap (λ (j : ℕ). first c s j) head in
      let rr : room c s x.0 ≡ room c s b = ap (λ (j : ℕ). room c s j) head in
      let rx : room c s x.0 * c.z ≡ room c s b * c.z = ap (λ (j : ℕ). room c s j * c.z) head in
      let nx : x.0 * c.n ≡ b * c.n = ap (λ (j : ℕ). j * c.n) head in
      let in_room = t.0.within in
      let most = t.0.most in
      let least = t.0.at_least in
      let ih = walk_reach xs ys (b + 1) k (x.0 * c.n + c.n) rest (omega arith) (omega arith)
      (λ j z g. fits j z (let a = found_listed xs (b + 1) k j z rest g in grind (arith, nat_tests))) t.1 in
      let iu = ih.up in
      let im = ih.meets in
      let on : len ≡ room c s b → walk c s size b (y ∷ ys) ≡ open_rules.stands ih.to ih.gap = λ e.
      walk_on c s size b len y ys (t.0.number ∙ head) refl (e ∙ sym rc) (omega arith) ∙ (ap (λ (j : ℕ). walk c s j (b + 1) ys) (omega arith) ∙ ih.is) in
      elim (cases_Bool (full c s x)) [
        | inl p ↦
            let q = leb-true (room c s x.0 * c.z) x.1.sound p in
            let many : room c s b ≤ x.1.sound / c.z = le-div (room c s b) x.1.sound c.z zp (omega arith) in
            let is : reach_of c s size (x ∷ xs) ≡ reach_of c s (x.0 * c.n + c.n) xs = cond-true (full c s x) (reach_of c s (x.0 * c.n + c.n) xs) (first c s x.0 + x.1.sound / c.z) p in
            record { to = ih.to; gap = ih.gap; is = on (omega arith); up = omega arith; meets = im ∙ ap (λ (j : ℕ). min j top) (sym is) }
        | inr p ↦
            let q = leb-false (room c s x.0 * c.z) x.1.sound p in
            let less : x.1.sound / c.z < room c s b = div_below x.1.sound c.z (room c s b) zp (omega arith) in
            let is : reach_of c s size (x ∷ xs) ≡ first c s x.0 + x.1.sound / c.z = cond-false (full c s x) (reach_of c s (x.0 * c.n + c.n) xs) (first c s x.0 + x.1.sound / c.z) p in
            elim (cases_lt len (room c s b)) [
              | inl e ↦ record {
                to = size + len;
                gap = not (eqb (length ys) 0);
                is = walk_ends c s size b len y ys (t.0.number ∙ head) refl (rw rc e) (omega arith);
                up = omega arith;
                meets = elim t.0.enough [
                  | inl o ↦ omega arith
                  | inr o ↦ omega arith
                ];
              }
              | inr e ↦ record {
                to = ih.to;
                gap = ih.gap;
                is = on (omega arith);
                up = omega arith;
                meets = elim t.0.enough [
                  | inl o ↦ absurd (omega arith)
                  | inr o ↦ omega arith
                ];
              }
            ]
      ]

  pub walk_all_lem : (xs ys : Blobs) (k : ℕ) → numbers xs ≡ count lo k → ((j : ℕ) (x : Blob) → find xs j ≡ Some x → Fits c s j x) → AllSeen c s top xs ys
      → (to : ℕ) × (g : Bool) × (walk_all c s ys ≡ open_rules.stands to g) × (min to top ≡ min (reach_of c s s xs) top)
  walk_all_lem [] [] k n fits t = (s, false, refl, refl)
  walk_all_lem [] (y ∷ ys) k n fits t = elim t [ ]
  walk_all_lem (x ∷ xs) [] k n fits t = elim t [ ]
  walk_all_lem (x ∷ xs) (y ∷ ys) zero n fits t = impossible cc
  walk_all_lem (x ∷ xs) (y ∷ ys) (suc k) n fits t =
      let head : x.0 ≡ lo = cc in
      let r = walk_reach (x ∷ xs) (y ∷ ys) lo (suc k) s n (omega arith) (sym (first_low c s lo low)) fits t in
      (r.to, r.gap, ap (λ (j : ℕ). walk c s s j (y ∷ ys)) (t.0.number ∙ head) ∙ r.is, r.meets)

-- a suspect -------------------------------------------------------------------------------------

-- a number rounded up to pages is no smaller
pub rounded : (page x : ℕ) → 0 < page → x ≤ ((x + (page - 1)) / page) * page
rounded page x p = let a = lt-div-mul-add {a = x + (page - 1)} p in omega arith

-- what is known of a blob before it is examined
pub record Suspect (c : Config) (s sure floor : ℕ) (x : ℕ × Blob) : Type 0 where
  pub fits : Fits c s x.0 x.1
  pub short : length x.1.bytes ≤ MAX
  pub below_floor : x.0 < blob_of c floor → room c s x.0 * c.z ≤ x.1.sound
  pub ack_sound : acknowledged c s floor x.0 ≤ (x.1.sound / c.z) * c.z
  pub kept : (m : ℕ) → m ≤ room c s x.0 → first c s x.0 + m ≤ sure → m * c.z ≤ x.1.sound

module _ (c : Config) (s : ℕ) (zp : 0 < c.z) (pp : 0 < c.page) where
  -- a blob that is not passed is scanned to its sound end
  pub scan_whole : (ceiling : Option ℕ) (x : ℕ × Blob) → x.1.sound ≤ length x.1.bytes → length x.1.bytes ≤ MAX
      → passes c s ceiling x ≡ false → valid c s ceiling x ≡ (x.1.sound / c.z) * c.z
  scan_whole None x sl short e = ap (λ (j : ℕ). (j / c.z) * c.z) (let a : min x.1.sound (length x.1.bytes) ≡ x.1.sound = omega arith in a)
  scan_whole (Some k) x sl short e = ap (λ (j : ℕ). (j / c.z) * c.z) whole
    where
      need : ℕ
      need = needed c s (Some k) x.0

      limit : ℕ
      limit = limit_of c s (Some k) x

      all : ℕ
      all = length x.1.bytes

      met : min x.1.sound limit ≡ limit → (min x.1.sound limit) / c.z < need
      met h = elim (and_cases (eqb (min x.1.sound limit) limit) (leb need ((min x.1.sound limit) / c.z)) (or_parts (eqb (valid c s (Some k) x) all) (eqb (min x.1.sound limit) limit && leb need ((min x.1.sound limit) / c.z)) e).1) [
        | inl a ↦ absurd (eqb-false (min x.1.sound limit) limit a h)
        | inr a ↦ leb-false need ((min x.1.sound limit) / c.z) a
      ]

      whole : min x.1.sound limit ≡ x.1.sound
      whole = elim (cases_lt x.1.sound limit) [
        | inl a ↦ omega arith
        | inr a ↦
            let m : min x.1.sound limit ≡ limit = omega arith in
            let q : limit / c.z < need = subst (λ (j : ℕ). j / c.z < need) m (met m) in
            let up = rounded c.page (min MAX (need * c.z)) pp in
            let big : min MAX (need * c.z) ≤ round_up c.page (min MAX (need * c.z)) = omega arith in
            let is : limit ≡ min all (round_up c.page (min MAX (need * c.z))) = refl in
            elim (cases_lt all (need * c.z)) [
              | inl b ↦ omega arith
              | inr b ↦ absurd (let w = le-div need limit c.z zp (omega arith) in omega arith)
            ]
      ]

  -- a blob that is passed has no torn end, or sound records up to the ceiling
  pub passed_enough : (ceiling : Option ℕ) (x : ℕ × Blob) → Fits c s x.0 x.1 → passes c s ceiling x ≡ true
      → (length x.1.bytes / c.z ≡ x.1.sound / c.z) ⊎ (or_max ceiling ≤ first c s x.0 + x.1.sound / c.z)
  passed_enough ceiling x f e = elim (or_cases (eqb (valid c s ceiling x) (length x.1.bytes)) _ e) [
    | inl a ↦
        let v = eqb-true (valid c s ceiling x) (length x.1.bytes) a in
        let d = div-add-mod' (scanned c s ceiling x) c.z in
        let sl = f.sound_length in
        let same : length x.1.bytes ≡ x.1.sound = omega arith in
        inl (ap (λ (j : ℕ). j / c.z) same)
    | inr a ↦ met ceiling a
  ]
    where
      met : (ceiling : Option ℕ) → (is_some ceiling && (eqb (scanned c s ceiling x) (limit_of c s ceiling x) && leb (needed c s ceiling x.0) (scanned c s ceiling x / c.z))) ≡ true
          → (length x.1.bytes / c.z ≡ x.1.sound / c.z) ⊎ (or_max ceiling ≤ first c s x.0 + x.1.sound / c.z)
      met None a = impossible cc
      met (Some k) a =
          let b = leb-true (needed c s (Some k) x.0) (scanned c s (Some k) x / c.z) (and_parts (eqb (scanned c s (Some k) x) (limit_of c s (Some k) x)) (leb (needed c s (Some k) x.0) (scanned c s (Some k) x / c.z)) a).1 in
          let m = div_mono (scanned c s (Some k) x) x.1.sound c.z zp (omega arith) in
          let w = div_at_most (length x.1.bytes) c.z (room c s x.0) zp f.length_room in
          let l = div_mono x.1.sound (length x.1.bytes) c.z zp f.sound_length in
          elim (cases_lt c.n (k - first_in c s x.0)) [
            | inl h ↦ inl (omega (arith, room_is c s x.0))
            | inr h ↦ inr (omega (arith, first_is c s x.0))
          ]

-- how the examined blob, and the disk, then stand
pub record Left (c : Config) (s top : ℕ) (d : Disk) (x y : ℕ × Blob) (e : Disk) : Type 0 where
  pub seen : Seen c s top x y
  pub present : e.present ≡ d.present
  pub saved : e.saved ≡ d.saved
  pub others : (j : ℕ) → (x.0 ≡ j → ⊥) → find e.blobs j ≡ find d.blobs j
  pub here : find e.blobs x.0 ≡ Some y.1
  pub covers : (m : ℕ) → m * c.z ≤ x.1.sound → m * c.z ≤ y.1.sound
  pub safe : y.1.sound ≤ y.1.safe

module _ {R : Type 0} (c : Config) (enc : R → List ℕ) (zp : 0 < c.z) (pp : 0 < c.page) (ceiling : Option ℕ) {lo more : ℕ} (m : Ledger R) (S : Disk → Type 0) (safe : (e : Disk) → Standing c enc lo more e m → S e) where
  abbrev s : ℕ
  s = m.start

  pub examine_leads : {A : Type 0} (Q : A → Disk → Type 0) (floor : ℕ) (x : ℕ × Blob) (k : ℕ × Blob → Plan A) (d : Disk) → Standing c enc lo more d m
      → Suspect c m.start m.kept floor x → (suc x.0 < lo + more → room c m.start x.0 * c.z ≤ x.1.sound)
      → find d.blobs x.0 ≡ Some x.1 → x.1.sound ≤ x.1.safe
      → ((y : ℕ × Blob) (e : Disk) → Left c m.start (or_max ceiling) d x y e → Standing c enc lo more e m → Leads S Q (k y) e)
      → Leads S Q (examine c m.start ceiling floor x k) d
  examine_leads Q floor x k d st sus deep found still next =
      cond_both (ltb x.0 (blob_of c floor)) _ _ (λ p. Leads S Q p d)
      (λ b.
      let u = sus.below_floor (ltb-true x.0 (blob_of c floor) b) in
      let same : length x.1.bytes ≡ x.1.sound = omega arith in
      next x d (stay (inl (ap (λ (j : ℕ). j / c.z) same))) st)
      (λ b. leads_unless S Q (ltb MAX ack) OffsetOverflow _ d (le-ltb MAX ack (let a = sus.ack_sound in let r = sus.short in let q = div-add-mod' x.1.sound c.z in omega arith))
      (cond_both (passes c s ceiling x) _ _ (λ p. Leads S Q p d)
      (λ e. next x d (stay (passed_enough c s zp pp ceiling x f e)) st)
      (λ e. leads_unless S Q (ltb v ack) (Corruption 3) _ d (le-ltb v ack (rw (v_is e) sus.ack_sound)) (
        plain S (Truncate x.0 v) d (x.1, found, short e) (safe d st) (safe (done (Truncate x.0 v) d) (cut e)),
        next (x.0, cut_to v x.1) (done (Truncate x.0 v) d) (cut_left e) (cut e),
      ))))
    where
      f : Fits c s x.0 x.1
      f = sus.fits

      sl : x.1.sound ≤ length x.1.bytes
      sl = f.sound_length

      lr : length x.1.bytes ≤ room c s x.0 * c.z
      lr = f.length_room

      ack : ℕ
      ack = acknowledged c s floor x.0

      v : ℕ
      v = valid c s ceiling x

      v_is : passes c s ceiling x ≡ false → v ≡ (x.1.sound / c.z) * c.z
      v_is e = scan_whole c s zp pp ceiling x sl sus.short e

      stay : (length x.1.bytes / c.z ≡ x.1.sound / c.z) ⊎ (or_max ceiling ≤ first c s x.0 + x.1.sound / c.z) → Left c s (or_max ceiling) d x x d
      stay e = record { seen = seen_same c s (or_max ceiling) x zp f e; present = refl; saved = refl; others = λ j h. refl; here = found; covers = λ j h. h; safe = still }

      under : passes c s ceiling x ≡ false → v ≤ x.1.sound
      under e = omega (arith, v_is e, div-add-mod' x.1.sound c.z)

      short : passes c s ceiling x ≡ false → v ≤ length x.1.bytes
      short e = omega (arith, under e)

      cut_length : passes c s ceiling x ≡ false → length (take v x.1.bytes) ≡ v
      cut_length e = omega (arith, length-take v x.1.bytes, short e)

      records : passes c s ceiling x ≡ false → length (take v x.1.bytes) / c.z ≡ x.1.sound / c.z
      records e = ap (λ (t : ℕ). t / c.z) (cut_length e ∙ v_is e) ∙ mul-div_cancel (x.1.sound / c.z) zp

      whole : (j : ℕ) → j * c.z ≤ x.1.sound → passes c s ceiling x ≡ false → j * c.z ≤ v
      whole j h e = let a = le-div j x.1.sound c.z zp h in let b = mul-le-mul_right c.z a in omega (arith, v_is e)

      cut_left : passes c s ceiling x ≡ false → Left c s (or_max ceiling) d x (x.0, cut_to v x.1) (done (Truncate x.0 v) d)
      cut_left e =
          let j = f.most in
          let a = div_at_most x.1.sound c.z j.0 zp (let u = j.1 in omega arith) in
          let u = j.2 in
          let b = div_at_most x.1.sound c.z (room c s x.0) zp (omega arith) in
          let r = records e in
          record {
            seen = record { number = refl; within = omega arith; most = omega arith; at_least = omega arith; enough = inl r };
            present = refl;
            saved = refl;
            others = λ i h. find_change_other (cut_to v) x.0 i d.blobs h;
            here = find_change_same (cut_to v) x.0 d.blobs x.1 found;
            covers = λ i h. let w = whole i h e in omega arith;
            safe = omega arith;
          }

      cut : passes c s ceiling x ≡ false → Standing c enc lo more (done (Truncate x.0 v) d) m
      cut e = elim (cases_lt (suc x.0) (lo + more)) [
        | inl h ↦
            let all = deep h in
            let same : x.1.sound ≡ room c s x.0 * c.z = omega arith in
            let q : x.1.sound / c.z ≡ room c s x.0 = ap (λ (t : ℕ). t / c.z) same ∙ mul-div_cancel (room c s x.0) zp in
            let r : (x.1.sound / c.z) * c.z ≡ room c s x.0 * c.z = ap (λ (t : ℕ). t * c.z) q in
            absurd (eqb-false v (length x.1.bytes) (or_parts (eqb v (length x.1.bytes)) _ e).0 (omega (arith, v_is e)))
        | inr h ↦ standing_truncate c enc m d st x.0 v h (λ j a g. whole j (sus.kept j a g) e)
      ]
