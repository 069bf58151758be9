-- Each writing call keeps the invariant: of the rows of blobs, and with the keys.
use Rattle.std.proofs.Common.{◌≡◌, ℕ, zero, suc, ◌+◌, ◌-◌, ◌*◌, ◌%◌, ◌<◌, ◌≤◌, min, ◌⊎◌, List, [], ◌∷◌, ◌++◌, length, take, drop, Some, Option, sym, refl, ap, ◌∙◌, subst, inl, inr, mul-le-mul_right, le_of_mul-le-mul_right, arith, length-append, length-take}
use native.Mathlib.Nat.{mul-add-mod_self_right, mod_self}
use lib.Seq.{drop-append-add}
use Rattle.std.proofs.lemmas.Bool.{cases_eq, cases_lt}
use Rattle.std.proofs.lemmas.Bool.Decides.{nat_tests}
use Rattle.std.proofs.lemmas.List.{take-take, drop-take, take_at, take-append-le}
use Rattle.std.specs.List.{flat_map}
use Rattle.store.specs.Disk.{Blob, Blobs, find, numbers, change, insert, without, blank, synced, cut_to, grown, settled, Weaker, Weakened, Disk, Open, Append, Truncate, Sync, Remove, done}
use Rattle.rules.specs.Rules.{MAX, Config}
use Rattle.rules.specs.Calls.{count}
use Rattle.ledger.specs.Ledger.{Ledger, entered, appended}
use Rattle.ledger.proofs.Blobs.{find_change, find_change_other, numbers_change, listed_find, found_listed, not_listed, find_insert_other, find_insert_same, numbers_insert_top, find_without_other, numbers_without_low, numbers_without_top, numbers_settled, find_settled, weakened_numbers, weakened_find, weaker_self}
use Rattle.ledger.proofs.Invariant.{first, room, first_room, first_next, first_apart, Fits, Reached, Held, Rows, moved, first_later, room_later, first_is, HintStands, KeysStand, Standing}

-- a window of z bytes at a, of lists that agree up to s
pub window : (z a s : ℕ) (xs ys : List ℕ) → a + z ≤ s → take s ys ≡ take s xs → take z (drop a ys) ≡ take z (drop a xs)
window z a s xs ys h e =
    sym (drop-take a z ys)
    ∙ (ap (λ (r : List ℕ). drop a r) (sym (take-take (a + z) s ys h) ∙ (ap (λ (r : List ℕ). take (a + z) r) e ∙ take-take (a + z) s xs h)) ∙ drop-take a z xs)

-- y is x with less of it sound
pub record Lesser (x y : Blob) : Type 0 where
  pub fewer : y.sound ≤ x.sound
  pub safe_within : y.safe ≤ y.sound
  pub sound_within : y.sound ≤ length y.bytes
  pub shorter : length y.bytes ≤ length x.bytes
  pub same : take y.sound y.bytes ≡ take y.sound x.bytes

held_like : {R : Type 0} (c : Config) (enc : R → List ℕ) (l m : Ledger R) (b i : ℕ) (x : Blob) → Held c enc l b x i
    → first c m.start b ≡ first c l.start b → first c l.start b + i < m.far
    → m.handed (first c l.start b + i) ≡ l.handed (first c l.start b + i) → Held c enc m b x i
held_like c enc l m b i x h e f g = record {
  inside = omega arith;
  given = h.given;
  was = ap (λ (p : ℕ). m.handed (p + i)) e ∙ (g ∙ h.was);
  reads = h.reads;
}

-- records handed in
pub entered_below : {R : Type 0} (e : ℕ) (rs : List R) (h : ℕ → Option R) (p : ℕ) → p < e → entered e rs h p ≡ h p
entered_below e [] h p g = refl
entered_below e (r ∷ rs) h p g = let ih = entered_below (e + 1) rs h p (omega arith) in grind (arith, nat_tests)

pub joined_length : {R : Type 0} (enc : R → List ℕ) (z : ℕ) → ((r : R) → length (enc r) ≡ z) → (rs : List R) → length (flat_map enc rs) ≡ length rs * z
joined_length enc z w [] = omega arith
joined_length enc z w (r ∷ rs) = let ih = joined_length enc z w rs in omega (arith, length-append (enc r) (flat_map enc rs), w r)

pub joined_at : {R : Type 0} (enc : R → List ℕ) (z : ℕ) → ((r : R) → length (enc r) ≡ z) → (rs : List R) (e : ℕ) (h : ℕ → Option R) (i : ℕ) → i < length rs
    → (r : R) × (entered e rs h (e + i) ≡ Some r) × (take z (drop (i * z) (flat_map enc rs)) ≡ enc r)
joined_at enc z w [] e h i g = absurd (omega arith)
joined_at enc z w (r ∷ rs) e h zero g =
    let none : 0 * z ≡ 0 = omega arith in
    (r, grind (arith, nat_tests), ap (λ (j : ℕ). take z (drop j (enc r ++ flat_map enc rs))) none ∙ take_at (enc r) (flat_map enc rs) z (w r))
joined_at {R} enc z w (r ∷ rs) e h (suc i) g =
    let ih : (q : R) × (entered (e + 1) rs h (e + 1 + i) ≡ Some q) × (take z (drop (i * z) (flat_map enc rs)) ≡ enc q) = joined_at enc z w rs (e + 1) h i (omega arith) in
    let step : entered e (r ∷ rs) h (e + suc i) ≡ entered (e + 1) rs h (e + suc i) = (grind (arith, nat_tests)) in
    let same : e + suc i ≡ e + 1 + i = omega arith in
    let len = w r in
    let far : suc i * z ≡ length (enc r) + i * z = omega arith in (
      ih.0,
      step ∙ (ap (λ (p : ℕ). entered (e + 1) rs h p) same ∙ ih.1),
      ap (λ (j : ℕ). take z (drop j (enc r ++ flat_map enc rs))) far ∙ (ap (λ (t : List ℕ). take z t) (drop-append-add (enc r) (flat_map enc rs) (i * z)) ∙ ih.2),
    )

module _ {R : Type 0} (c : Config) (enc : R → List ℕ) (l : Ledger R) where
  -- blobs of the same numbers, each no better than it was
  pub rows_lesser : {lo more : ℕ} (bs es : Blobs) (w : Rows c enc lo more bs l) → numbers es ≡ numbers bs
      → ((b : ℕ) (y : Blob) → find es b ≡ Some y → (x : Blob) × (find bs b ≡ Some x) × Lesser x y)
      → ((b : ℕ) (y : Blob) → find es b ≡ Some y → suc b < lo + more → room c l.start b * c.z ≤ y.safe)
      → ((b : ℕ) (y : Blob) (m : ℕ) → find es b ≡ Some y → m ≤ room c l.start b → first c l.start b + m ≤ l.kept → m * c.z ≤ y.safe)
      → Rows c enc lo more es l
  rows_lesser {lo} {more} bs es w n each deep kept = record {
    listed = n ∙ w.listed;
    low = w.low;
    fits = λ b y e. let r = each b y e in let f = w.fits b r.0 r.1 in let g = r.2 in let j = f.most in
        record { safe_sound = g.safe_within; sound_length = g.sound_within; length_room = omega arith; most = (j.0, let a = j.1 in omega arith, j.2) };
    deep = deep;
    start_kept = w.start_kept;
    kept_far = w.kept_far;
    kept_top = w.kept_top;
    top_most = w.top_most;
    far_most = w.far_most;
    kept = kept;
    held = λ b y m e q h. let r = each b y e in let g = r.2 in
        let old : Held c enc l b r.0 m = w.held b r.0 m r.1 (reached b q) (omega arith) in
        record {
          inside = old.inside;
          given = old.given;
          was = old.was;
          reads = window c.z (m * c.z) y.sound r.0.bytes y.bytes (omega arith) g.same ∙ old.reads;
        };
  }
    where
      reached : (b : ℕ) → Reached c l.start es b → Reached c l.start bs b
      reached b q k x h e =
          let at = found_listed bs (lo) (suc (more)) k x w.listed e in
          let o = listed_find es (lo) (suc (more)) k (n ∙ w.listed) at.0 at.1 in
          let r = each k o.0 o.1 in
          let g = r.2 in
          let j = q k o.0 h o.1 in
          let i : r.0 ≡ x = cc (r.1, e) in
          let v : r.0.sound ≡ x.sound = ap (λ (t : Blob). t.sound) i in
          omega arith

  -- each a weaker one: what a lost power, a sync and a restart do
  pub rows_weaker : {lo more : ℕ} (bs es : Blobs) → Rows c enc lo more bs l → numbers es ≡ numbers bs
      → ((b : ℕ) (y : Blob) → find es b ≡ Some y → (x : Blob) × (find bs b ≡ Some x) × Weaker x y)
      → Rows c enc lo more es l
  rows_weaker {lo} {more} bs es w n each =
      rows_lesser bs es w n
      (λ b y e. let r = each b y e in let g = r.2 in (r.0, r.1, record { fewer = g.fewer; safe_within = g.safe_within; sound_within = g.sound_within; shorter = g.shorter; same = g.same }))
      (λ b y e h. let r = each b y e in let g = r.2 in let o = w.deep b r.0 r.1 h in omega arith)
      (λ b y m e h k. let r = each b y e in let g = r.2 in let o = w.kept b r.0 m r.1 h k in omega arith)

  pub rows_weakened : {lo more : ℕ} (bs es : Blobs) → Rows c enc lo more bs l → Weakened bs es → Rows c enc lo more es l
  rows_weakened {lo} {more} bs es w k = rows_weaker bs es w (weakened_numbers bs es k) (weakened_find bs es k)

  weaker_synced : {lo more : ℕ} (bs : Blobs) → Rows c enc lo more bs l → (b : ℕ) (x : Blob) → find bs b ≡ Some x → Weaker x (synced x)
  weaker_synced bs w b x e =
      let f = w.fits b x e in
      record { kept = f.safe_sound; fewer = omega arith; safe_grows = f.safe_sound; safe_within = omega arith; same = refl; sound_within = f.sound_length; shorter = omega arith }

  pub rows_settled : {lo more : ℕ} (bs : Blobs) → Rows c enc lo more bs l → Rows c enc lo more (settled bs) l
  rows_settled {lo} {more} bs w = rows_weaker bs (settled bs) w (numbers_settled bs) (λ b y e.
      let r = find_settled bs b y e in
      (r.0, r.1, subst (λ (v : Blob). Weaker r.0 v) (sym r.2) (weaker_synced bs w b r.0 r.1)))

  pub rows_synced : {lo more : ℕ} (bs : Blobs) (k : ℕ) → Rows c enc lo more bs l → Rows c enc lo more (change synced k bs) l
  rows_synced {lo} {more} bs k w = rows_weaker bs (change synced k bs) w (numbers_change synced k bs) (λ b y e.
      elim (find_change synced k b bs y e) [
        | inl r ↦ let q = r.1 in (q.0, q.1, rw q.2 (weaker_synced bs w b q.0 q.1))
        | inr r ↦ let f = w.fits b y r.1 in (y, r.1, weaker_self y f.safe_sound f.sound_length)
      ])

  -- one of the two highest is cut, at or above what is kept
  pub rows_cut : {lo more : ℕ} (bs : Blobs) (k n : ℕ) (w : Rows c enc lo more bs l) → lo + more ≤ suc k
      → ((m : ℕ) → m ≤ room c l.start k → first c l.start k + m ≤ l.kept → m * c.z ≤ n)
      → Rows c enc lo more (change (cut_to n) k bs) l
  rows_cut {lo} {more} bs k n w top above = rows_lesser bs (change (cut_to n) k bs) w (numbers_change (cut_to n) k bs)
      (λ b y e. elim (find_change (cut_to n) k b bs y e) [
        | inl r ↦ let q = r.1 in (q.0, q.1, rw q.2 (lesser_cut q.0 (w.fits b q.0 q.1)))
        | inr r ↦ let f = w.fits b y r.1 in
            (y, r.1, record { fewer = omega arith; safe_within = f.safe_sound; sound_within = f.sound_length; shorter = omega arith; same = refl })
      ])
      (λ b y e h. elim (find_change (cut_to n) k b bs y e) [
        | inl r ↦ absurd (let o = r.0 in omega arith)
        | inr r ↦ w.deep b y r.1 h
      ])
      (λ b y m e h g. elim (find_change (cut_to n) k b bs y e) [
        | inl r ↦ let q = r.1 in
            let f = w.fits b q.0 q.1 in
            let o = w.kept b q.0 m q.1 h g in
            let a : m * c.z ≤ n = above m (rw r.0 h) (rw r.0 g) in
            let t : y.safe ≡ min q.0.sound n = ap (λ (x : Blob). x.safe) q.2 in
            omega arith
        | inr r ↦ w.kept b y m r.1 h g
      ])
    where
      lesser_cut : {b : ℕ} (x : Blob) → Fits c l.start b x → Lesser x (cut_to n x)
      lesser_cut x f = record {
        fewer = omega arith;
        safe_within = omega arith;
        sound_within = omega (arith, length-take n x.bytes);
        shorter = omega (arith, length-take n x.bytes);
        same = take-take (min x.sound n) n x.bytes (omega arith);
      }

  -- a blank blob above the highest, where the one below the highest is full and safe
  pub rows_opened : {lo more : ℕ} (bs : Blobs) (k : ℕ) → 0 < c.z → (w : Rows c enc lo more bs l) → k ≡ suc (lo + more) → k * c.n ≤ MAX
      → ((b : ℕ) (x : Blob) → suc (suc b) ≡ k → find bs b ≡ Some x → room c l.start b * c.z ≤ x.safe)
      → Rows c enc lo (suc more) (insert k bs) l
  rows_opened {lo} {more} bs k zp w top most second = record {
    listed = numbers_insert_top bs (lo) (suc (more)) k (omega arith) w.listed;
    low = w.low;
    fits = λ b x e. elim (split b x e) [
      | inl r ↦
          let at : k * c.n ≡ b * c.n = ap (λ (j : ℕ). j * c.n) r.0 in
          let sk = w.start_kept in let kf = w.kept_far in let fm = w.far_most in
          record { safe_sound = omega arith; sound_length = omega arith; length_room = omega arith; most = (0, omega arith, omega (arith, first_is c l.start b)) }
      | inr r ↦ w.fits b x r.1
    ];
    deep = λ b x e h. elim (split b x e) [
      | inl r ↦ absurd (omega arith)
      | inr r ↦ elim (cases_lt (suc b) (lo + more)) [
        | inl g ↦ w.deep b x r.1 g
        | inr g ↦ second b x (omega arith) r.1
      ]
    ];
    start_kept = w.start_kept;
    kept_far = w.kept_far;
    kept_top = omega (arith, w.kept_top, mul-le-mul_right {m = lo + more} {n = lo + suc (more)} c.n (omega arith));
    top_most = let t : k * c.n ≡ (lo + suc more) * c.n = ap (λ (j : ℕ). j * c.n) (omega arith) in omega arith;
    far_most = w.far_most;
    kept = λ b x m e h g. elim (split b x e) [
      | inl r ↦
          let i : first c l.start b ≡ first c l.start (suc (lo + more)) = ap (λ (j : ℕ). first c l.start j) (sym r.0 ∙ top) in
          let a = first_next c l.start (lo) w.low (lo + more) (omega arith) in
          let t = w.kept_top in
          let z : m ≡ 0 = omega arith in
          let y : m * c.z ≡ 0 * c.z = ap (λ (j : ℕ). j * c.z) z in
          omega arith
      | inr r ↦ w.kept b x m r.1 h g
    ];
    held = λ b x m e q h. elim (split b x e) [
      | inl r ↦ absurd (omega arith)
      | inr r ↦
          let at = found_listed bs (lo) (suc (more)) b x w.listed r.1 in
          w.held b x m r.1 (λ j y i f. q j y i (find_insert_other k j bs (λ o. omega arith) ∙ f)) h
    ];
  }
    where
      split : (b : ℕ) (x : Blob) → find (insert k bs) b ≡ Some x
          → ((k ≡ b) × (length x.bytes ≡ 0) × (x.sound ≡ 0) × (x.safe ≡ 0)) ⊎ ((k ≡ b → ⊥) × (find bs b ≡ Some x))
      split b x e = elim (cases_eq k b) [
        | inl i ↦
            let f : find (insert k bs) k ≡ Some blank = find_insert_same k bs (not_listed bs (lo) (suc (more)) k w.listed (λ t. let a = t.1 in omega arith)) in
            let g : find (insert k bs) k ≡ find (insert k bs) b = ap (λ (j : ℕ). find (insert k bs) j) i in
            let o : x ≡ blank = cc in
            inl (i, ap (λ (y : Blob). length y.bytes) o, ap (λ (y : Blob). y.sound) o, ap (λ (y : Blob). y.safe) o)
        | inr i ↦ inr (i, sym (find_insert_other k b bs i) ∙ e)
      ]

  -- the highest goes, where nothing kept is in it
  pub rows_without_top : {lo more : ℕ} (bs : Blobs) (k : ℕ) (w : Rows c enc lo (suc more) bs l) → k ≡ suc (lo + more) → l.kept ≤ k * c.n
      → Rows c enc lo more (without k bs) l
  rows_without_top {lo} {more} bs k w top free = record {
    listed = listed;
    low = w.low;
    fits = λ b x e. w.fits b x (old b x e);
    deep = λ b x e h. w.deep b x (old b x e) (omega arith);
    start_kept = w.start_kept;
    kept_far = w.kept_far;
    kept_top = let t : k * c.n ≡ suc (lo + more) * c.n = ap (λ (j : ℕ). j * c.n) top in omega arith;
    top_most = omega (arith, w.top_most, mul-le-mul_right {m = lo + more} {n = lo + suc more} c.n (omega arith));
    far_most = w.far_most;
    kept = λ b x m e. w.kept b x m (old b x e);
    held = λ b x m e q h.
        let at = found_listed (without k bs) lo (suc more) b x listed e in
        w.held b x m (old b x e) (λ j y i f. q j y i (find_without_other k j bs (λ o. omega arith) ∙ f)) h;
  }
    where
      listed : numbers (without k bs) ≡ count lo (suc more)
      listed = numbers_without_top bs lo (suc more) k (omega arith) w.listed

      old : (b : ℕ) (x : Blob) → find (without k bs) b ≡ Some x → find bs b ≡ Some x
      old b x e =
          let at = found_listed (without k bs) lo (suc more) b x listed e in
          sym (find_without_other k b bs (λ o. omega arith)) ∙ e

  -- the lowest goes, and the log starts at the next
  pub rows_without_low : {lo more : ℕ} (bs : Blobs) (e : ℕ) (w : Rows c enc lo (suc more) bs l) → lo * c.n + c.n ≤ l.kept
      → Rows c enc (lo + 1) more (without lo bs) (moved l (lo * c.n + c.n) e l.kept l.far)
  rows_without_low {lo} {more} bs e w gone = record {
    listed = listed;
    low = record { from = omega arith; below = let a = w.low.from in let b = w.low.below in omega arith };
    fits = λ b x o. let f = w.fits b x (old b x o) in
        record { safe_sound = f.safe_sound; sound_length = f.sound_length; length_room = rw (room_now b x o) f.length_room; most = (f.most.0, f.most.1, rw (first_now b x o) f.most.2) };
    deep = λ b x o h. rw (room_now b x o) (w.deep b x (old b x o) (omega arith));
    start_kept = gone;
    kept_far = w.kept_far;
    kept_top = let u = w.kept_top in omega arith;
    top_most = let t : (lo + suc more) * c.n ≡ (lo + 1 + more) * c.n = ap (λ (j : ℕ). j * c.n) (omega arith) in let u = w.top_most in omega arith;
    far_most = w.far_most;
    kept = λ b x m o h g. w.kept b x m (old b x o) (rw (room_now b x o) at h) (rw (first_now b x o) at g);
    held = λ b x m o q h.
        let t : Held c enc l b x m = w.held b x m (old b x o) (reached b x o q) h in
        held_like c enc l (moved l (lo * c.n + c.n) e l.kept l.far) b m x t (first_now b x o) t.inside refl;
  }
    where
      listed : numbers (without lo bs) ≡ count (lo + 1) (suc more)
      listed = numbers_without_low bs lo (suc more) w.listed

      above : (b : ℕ) (x : Blob) → find (without lo bs) b ≡ Some x → lo < b
      above b x o = let at = found_listed (without lo bs) (lo + 1) (suc more) b x listed o in omega arith

      old : (b : ℕ) (x : Blob) → find (without lo bs) b ≡ Some x → find bs b ≡ Some x
      old b x o = let a = above b x o in sym (find_without_other lo b bs (λ i. omega arith)) ∙ o

      room_now : (b : ℕ) (x : Blob) → find (without lo bs) b ≡ Some x → room c (lo * c.n + c.n) b ≡ room c l.start b
      room_now b x o = room_later c l.start lo w.low b (above b x o)

      first_now : (b : ℕ) (x : Blob) → find (without lo bs) b ≡ Some x → first c (lo * c.n + c.n) b ≡ first c l.start b
      first_now b x o = first_later c l.start lo w.low b (above b x o)

      reached : (b : ℕ) (x : Blob) → find (without lo bs) b ≡ Some x → Reached c (lo * c.n + c.n) (without lo bs) b → Reached c l.start bs b
      reached b x o q j y i f = elim (cases_eq lo j) [
        | inl g ↦
            let a : lo ≤ j = omega arith in
            let n : lo * c.n ≡ j * c.n = ap (λ (t : ℕ). t * c.n) g in
            let full = w.kept j y (room c l.start j) f (omega arith) (omega (arith, first_room c l.start lo w.low j a)) in
            let t = w.fits j y f in
            omega arith
        | inr g ↦
            let o' : find (without lo bs) j ≡ Some y = find_without_other lo j bs g ∙ f in
            rw (← (room_now j y o')) (q j y i o')
      ]

  -- what is kept goes down, or up to what is safe
  pub rows_kept : {lo more : ℕ} (bs : Blobs) (k e : ℕ) (w : Rows c enc lo more bs l) → l.start ≤ k → k ≤ l.far → k ≤ (lo + more) * c.n + c.n
      → ((b : ℕ) (x : Blob) (m : ℕ) → find bs b ≡ Some x → m ≤ room c l.start b → first c l.start b + m ≤ k → m * c.z ≤ x.safe)
      → Rows c enc lo more bs (moved l l.start e k l.far)
  rows_kept {lo} {more} bs k e w from to top safe = record {
    listed = w.listed;
    low = w.low;
    fits = w.fits;
    deep = w.deep;
    start_kept = from;
    kept_far = to;
    kept_top = top;
    top_most = w.top_most;
    far_most = w.far_most;
    kept = safe;
    held = λ b x m o q h.
        let t : Held c enc l b x m = w.held b x m o q h in
        held_like c enc l (moved l l.start e k l.far) b m x t refl t.inside refl;
  }

  pub rows_kept_less : {lo more : ℕ} (bs : Blobs) (k e : ℕ) (w : Rows c enc lo more bs l) → l.start ≤ k → k ≤ l.kept → Rows c enc lo more bs (moved l l.start e k l.far)
  rows_kept_less {lo} {more} bs k e w from to =
      rows_kept bs k e w from (omega (arith, w.kept_far)) (omega (arith, w.kept_top)) (λ b x m o h g. w.kept b x m o h (omega arith))

  -- the far end comes down to what is reached
  pub rows_far : {lo more : ℕ} (bs : Blobs) (f e : ℕ) (w : Rows c enc lo more bs l) → l.kept ≤ f → f ≤ MAX
      → ((b : ℕ) (x : Blob) (m : ℕ) → find bs b ≡ Some x → Reached c l.start bs b → suc m * c.z ≤ x.sound → first c l.start b + m < f)
      → Rows c enc lo more bs (moved l l.start e l.kept f)
  rows_far {lo} {more} bs f e w from most within = record {
    listed = w.listed;
    low = w.low;
    fits = w.fits;
    deep = w.deep;
    start_kept = w.start_kept;
    kept_far = from;
    kept_top = w.kept_top;
    top_most = w.top_most;
    far_most = most;
    kept = w.kept;
    held = λ b x m o q h. held_like c enc l (moved l l.start e l.kept f) b m x (w.held b x m o q h) refl (within b x m o q h) refl;
  }

  -- more records handed in, and nothing written yet: what a stopped append may leave
  pub rows_ahead : {lo more : ℕ} (bs : Blobs) (rs : List R) (w : Rows c enc lo more bs l) → l.far ≤ l.end → l.end + length rs ≤ MAX → Rows c enc lo more bs (appended l rs)
  rows_ahead {lo} {more} bs rs w whole most = record {
    listed = w.listed;
    low = w.low;
    fits = w.fits;
    deep = w.deep;
    start_kept = w.start_kept;
    kept_far = let t = w.kept_far in omega arith;
    kept_top = w.kept_top;
    top_most = w.top_most;
    far_most = most;
    kept = w.kept;
    held = λ b x m o q h.
        let t : Held c enc l b x m = w.held b x m o q h in
        let i = t.inside in
        held_like c enc l (appended l rs) b m x t refl (omega arith) (entered_below l.end rs l.handed (first c l.start b + m) (omega arith));
  }

  -- records, or a first part of their bytes, go into the highest blob
  pub rows_appended : {lo more : ℕ} (bs : Blobs) (hi have k : ℕ) (rs : List R) (x : Blob) → 0 < c.z → ((r : R) → length (enc r) ≡ c.z)
      → (w : Rows c enc lo more bs l) → hi ≡ lo + more → find bs hi ≡ Some x
      → x.sound ≡ length x.bytes → length x.bytes ≡ have * c.z → l.end ≡ first c l.start hi + have
      → have + length rs ≤ room c l.start hi → l.end + length rs ≤ MAX
      → Rows c enc lo more (change (grown (take k (flat_map enc rs))) hi bs) (appended l rs)
  rows_appended {lo} {more} bs hi have k rs x zp ez w top here sound whole ends space most = record {
    listed = numbers_change (grown part) hi bs ∙ w.listed;
    low = w.low;
    fits = λ b y e. elim (split b y e) [
      | inl r ↦ let f = w.fits hi x here in let i : room c l.start hi ≡ room c l.start b = ap (λ (j : ℕ). room c l.start j) r.0 in
          let m = mul-le-mul_right c.z space in let n : room c l.start hi * c.z ≡ room c l.start b * c.z = ap (λ (j : ℕ). j * c.z) i in
          let g = grown_is y r.1 in let ps = part_short in
          let fb : first c l.start hi ≡ first c l.start b = ap (λ (j : ℕ). first c l.start j) r.0 in
          record { safe_sound = omega arith; sound_length = omega arith; length_room = omega arith; most = (have + length rs, omega arith, omega arith) }
      | inr r ↦ w.fits b y r.1
    ];
    deep = λ b y e h. elim (split b y e) [
      | inl r ↦ absurd (omega arith)
      | inr r ↦ w.deep b y r.1 h
    ];
    start_kept = w.start_kept;
    kept_far = omega (arith, kept_end);
    kept_top = w.kept_top;
    top_most = w.top_most;
    far_most = most;
    kept = λ b y m e h g. elim (split b y e) [
      | inl r ↦ let o = w.kept hi x m here (rw r.0 h) (rw r.0 g) in let t = grown_is y r.1 in omega arith
      | inr r ↦ w.kept b y m r.1 h g
    ];
    held = λ b y m e q h. elim (split b y e) [
      | inl r ↦ subst (λ (j : ℕ). Held c enc (appended l rs) j y m) r.0
          (held_top m y r.1 (reached hi x here (subst (λ (j : ℕ). Reached c l.start (change (grown part) hi bs) j) (sym r.0) q)) h)
      | inr r ↦
          let t : Held c enc l b y m = w.held b y m r.1 (reached b y r.1 q) h in
          let at = found_listed bs (lo) (suc (more)) b y w.listed r.1 in
          let not : hi ≡ b → ⊥ = r.0 in
          let f = w.fits b y r.1 in
          let i : suc m ≤ room c l.start b = le_of_mul-le-mul_right {k = c.z} (omega arith) zp in
          let a = first_apart c l.start (lo) w.low b hi at.0 (omega arith) in
          held_like c enc l (appended l rs) b m y t refl (omega arith) (entered_below l.end rs l.handed (first c l.start b + m) (omega arith))
    ];
  }
    where
      part : List ℕ
      part = take k (flat_map enc rs)

      part_short : length part ≤ length rs * c.z
      part_short = omega (arith, length-take k (flat_map enc rs), joined_length enc c.z ez rs)

      split : (b : ℕ) (y : Blob) → find (change (grown part) hi bs) b ≡ Some y → ((hi ≡ b) × (y ≡ grown part x)) ⊎ ((hi ≡ b → ⊥) × (find bs b ≡ Some y))
      split b y e = elim (find_change (grown part) hi b bs y e) [
        | inl r ↦ let q = r.1 in let g : find bs hi ≡ find bs b = ap (λ (j : ℕ). find bs j) r.0 in
            let f : q.0 ≡ x = cc (q.1, g, here) in
            inl (r.0, q.2 ∙ ap (λ (t : Blob). grown part t) f)
        | inr r ↦ inr r
      ]

      grown_is : (y : Blob) → y ≡ grown part x → (y.sound ≡ have * c.z + length part) × (y.safe ≡ x.safe) × (length y.bytes ≡ have * c.z + length part)
      grown_is y e =
          let a : (grown part x).sound ≡ x.sound + length part = (grind (arith, nat_tests)) in
          let b : y.sound ≡ (grown part x).sound = ap (λ (t : Blob). t.sound) e in
          let d : length y.bytes ≡ length (x.bytes ++ part) = ap (λ (t : Blob). length t.bytes) e in
          (b ∙ (a ∙ omega arith), ap (λ (t : Blob). t.safe) e, omega (arith, length-append x.bytes part))

      kept_end : l.kept ≤ l.end
      kept_end = elim (cases_lt (first c l.start hi) l.kept) [
        | inl g ↦
            let r = first_room c l.start (lo) w.low hi (omega arith) in
            let t = w.kept_top in
            let n : (lo + more) * c.n ≡ hi * c.n = ap (λ (j : ℕ). j * c.n) (sym top) in
            let o = w.kept hi x (l.kept - first c l.start hi) here (omega arith) (omega arith) in
            let f = w.fits hi x here in
            let a : l.kept - first c l.start hi ≤ have = le_of_mul-le-mul_right {k = c.z} (omega arith) zp in
            omega arith
        | inr g ↦ omega arith
      ]

      reached : (b : ℕ) (y : Blob) → find bs b ≡ Some y → Reached c l.start (change (grown part) hi bs) b → Reached c l.start bs b
      reached b y e q j v i f =
          let at = found_listed bs (lo) (suc (more)) b y w.listed e in
          q j v i (find_change_other (grown part) hi j bs (λ o. omega arith) ∙ f)

      held_top : (m : ℕ) (y : Blob) → y ≡ grown part x → Reached c l.start bs hi → suc m * c.z ≤ y.sound → Held c enc (appended l rs) hi y m
      held_top m y e q h =
          let g = grown_is y e in
          let ps = part_short in
          let within : suc m ≤ have + length rs = le_of_mul-le-mul_right {k = c.z} (omega arith) zp in
          elim (cases_lt m have) [
            | inl o ↦
                let v : suc m * c.z ≤ have * c.z = mul-le-mul_right c.z o in
                let t : Held c enc l hi x m = w.held hi x m here q (omega arith) in
                record {
                  inside = omega arith;
                  given = t.given;
                  was = entered_below l.end rs l.handed (first c l.start hi + m) (omega arith) ∙ t.was;
                  reads =
                      ap (λ (u : Blob). take c.z (drop (m * c.z) u.bytes)) e
                      ∙ (window c.z (m * c.z) (length x.bytes) x.bytes (x.bytes ++ part) (omega arith) (take-append-le (length x.bytes) x.bytes part (omega arith)) ∙ t.reads);
                }
            | inr o ↦
                let i : ℕ = m - have in
                let is : m ≡ have + i = omega arith in
                let at : m * c.z ≡ length x.bytes + i * c.z = omega (arith, ap (λ (j : ℕ). j * c.z) is) in
                let t = joined_at enc c.z ez rs l.end l.handed i (omega arith) in
                let pos : first c l.start hi + m ≡ l.end + i = omega arith in
                let lp = length-take k (flat_map enc rs) in
                record {
                  inside = omega arith;
                  given = t.0;
                  was = ap (λ (p : ℕ). entered l.end rs l.handed p) pos ∙ t.1;
                  reads =
                      ap (λ (u : Blob). take c.z (drop (m * c.z) u.bytes)) e
                      ∙ (ap (λ (j : ℕ). take c.z (drop j (x.bytes ++ part))) at
                      ∙ (ap (λ (u : List ℕ). take c.z u) (drop-append-add x.bytes part (i * c.z))
                      ∙ (window c.z (i * c.z) (i * c.z + c.z) (flat_map enc rs) part (omega arith) (take-take (i * c.z + c.z) k (flat_map enc rs) (omega arith)) ∙ t.2)));
                }
          ]

-- with the keys ---------------------------------------------------------------------------------

-- the saved hint, when the start moves up to a blob's first position
pub hint_later : (c : Config) (s s' : ℕ) (h : Option ℕ) → s < s' → s' % c.n ≡ 0 → HintStands c s h → HintStands c s' h
hint_later c s s' h l a (inl e) = inr (a, inr (s, e, inr l))
hint_later c s s' h l a (inr (o, inl e)) = inr (a, inl e)
hint_later c s s' h l a (inr (o, inr (v, e, inl q))) = inr (a, inr (v, e, inl q))
hint_later c s s' h l a (inr (o, inr (v, e, inr q))) = inr (a, inr (v, e, inr (omega arith)))

module _ {R : Type 0} (c : Config) (enc : R → List ℕ) (l : Ledger R) {lo more : ℕ} (d : Disk) (w : Standing c enc lo more d l) where
  pub standing_sync : (b : ℕ) → Standing c enc lo more (done (Sync b) d) l
  standing_sync b = record { rows = rows_synced c enc l d.blobs b w.rows; keys = w.keys }

  pub standing_open : 0 < c.z → (k : ℕ) → k ≡ suc (lo + more) → k * c.n ≤ MAX
      → ((b : ℕ) (x : Blob) → suc (suc b) ≡ k → find d.blobs b ≡ Some x → room c l.start b * c.z ≤ x.safe)
      → Standing c enc lo (suc more) (done (Open k) d) l
  standing_open zp k top most second = record { rows = rows_opened c enc l d.blobs k zp w.rows top most second; keys = w.keys }

  pub standing_truncate : (k n : ℕ) → lo + more ≤ suc k
      → ((m : ℕ) → m ≤ room c l.start k → first c l.start k + m ≤ l.kept → m * c.z ≤ n)
      → Standing c enc lo more (done (Truncate k n) d) l
  standing_truncate k n top above = record { rows = rows_cut c enc l d.blobs k n w.rows top above; keys = w.keys }

  -- the keys stand as long as kept does not fall below the mark
  pub keys_later : (s e k f : ℕ) → l.start < s → s % c.n ≡ 0 → l.kept ≤ k → KeysStand c d.saved (moved l s e k f)
  keys_later s e k f up al more = let q = w.keys in
      record { target = q.target; mark = q.mark; marked = q.marked; mark_kept = omega arith; hint = hint_later c l.start s d.saved.hint up al q.hint }

  pub standing_append : 0 < c.z → ((r : R) → length (enc r) ≡ c.z) → (hi have k : ℕ) (rs : List R) (x : Blob)
      → hi ≡ lo + more → find d.blobs hi ≡ Some x
      → x.sound ≡ length x.bytes → length x.bytes ≡ have * c.z → l.end ≡ first c l.start hi + have
      → have + length rs ≤ room c l.start hi → l.end + length rs ≤ MAX
      → Standing c enc lo more (done (Append hi (take k (flat_map enc rs))) d) (appended l rs)
  standing_append zp ez hi have k rs x top here sound whole ends space most = record {
    rows = rows_appended c enc l d.blobs hi have k rs x zp ez w.rows top here sound whole ends space most;
    keys = let q = w.keys in record { target = q.target; mark = q.mark; marked = q.marked; mark_kept = q.mark_kept; hint = q.hint };
  }

  -- a call that is still to come: the ledger may be ahead of the disk
  pub standing_ahead : (rs : List R) → l.far ≤ l.end → l.end + length rs ≤ MAX → Standing c enc lo more d (appended l rs)
  standing_ahead rs whole most = record {
    rows = rows_ahead c enc l d.blobs rs w.rows whole most;
    keys = let q = w.keys in record { target = q.target; mark = q.mark; marked = q.marked; mark_kept = q.mark_kept; hint = q.hint };
  }

  -- kept goes up to what is safe
  pub standing_kept : (k e : ℕ) → l.kept ≤ k → k ≤ l.far → k ≤ (lo + more) * c.n + c.n
      → ((b : ℕ) (x : Blob) (m : ℕ) → find d.blobs b ≡ Some x → m ≤ room c l.start b → first c l.start b + m ≤ k → m * c.z ≤ x.safe)
      → Standing c enc lo more d (moved l l.start e k l.far)
  standing_kept k e from to top safe = record {
    rows = rows_kept c enc l d.blobs k e w.rows (let a = w.rows.start_kept in omega arith) to top safe;
    keys = let q = w.keys in let m = q.mark_kept in record { target = q.target; mark = q.mark; marked = q.marked; mark_kept = omega arith; hint = q.hint };
  }

  -- the ledger's end does not count
  pub standing_end : (e : ℕ) → Standing c enc lo more d (moved l l.start e l.kept l.far)
  standing_end e = standing_kept l.kept e (omega arith) w.rows.kept_far w.rows.kept_top w.rows.kept

module _ {R : Type 0} (c : Config) (enc : R → List ℕ) (l : Ledger R) {lo more : ℕ} (d : Disk) (w : Standing c enc lo (suc more) d l) where
  pub standing_remove_top : (k : ℕ) → k ≡ suc (lo + more) → l.kept ≤ k * c.n → Standing c enc lo more (done (Remove k) d) l
  standing_remove_top k top free = record { rows = rows_without_top c enc l d.blobs k w.rows top free; keys = w.keys }

  pub standing_remove_low : (e : ℕ) → lo * c.n + c.n ≤ l.kept
      → Standing c enc (lo + 1) more (done (Remove lo) d) (moved l (lo * c.n + c.n) e l.kept l.far)
  standing_remove_low e gone = record {
    rows = rows_without_low c enc l d.blobs e w.rows gone;
    keys =
        let b = w.rows.low.below in
        keys_later c enc l d w (lo * c.n + c.n) e l.kept l.far (omega arith) (mul-add-mod_self_right lo c.n c.n ∙ mod_self c.n) (omega arith);
  }
