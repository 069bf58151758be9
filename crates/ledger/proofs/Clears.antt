-- A clear: staged by one save of the keys, and carried out, again and again if need be.
use Rattle.std.proofs.Common.{◌≡◌, ℕ, ◌+◌, ◌*◌, ◌/◌, ◌%◌, ◌<◌, ◌≤◌, Bool, true, false, cond, eqb, ◌⊎◌, List, [], ◌∷◌, ◌++◌, length, Some, None, Option, sym, refl, ap, ◌∙◌, inl, inr, div-mul-le_self, arith}
use native.Mathlib.Nat.{lt-div-mul-add}
use Rattle.std.proofs.lemmas.Bool.Decides.{nat_tests}
use Rattle.std.proofs.lemmas.Bool.{cases_eq, eqb-true, eq-eqb, cond-true}
use Rattle.store.specs.declared.keys.Key.TheVariants.{Hint, Target, Watermark}
use Rattle.store.specs.Disk.{Blob, Blobs, Disk, find, numbers, Open, Remove, Put, DropKey, SyncKeys, done, without, insert, blank}
use Rattle.store.specs.declared.keys.Keys.{Keys}
use Rattle.rules.specs.Rules.{Config, blob_of, aligned, persist, MAX, staging, clearing, is_above}
use Rattle.ledger.specs.Ledger.{Ledger}
use Rattle.ledger.proofs.Invariant.{first, HintStands, Standing, stands, Staged, Safe, Rows, moved, Lowest, first_low}
use Rattle.ledger.proofs.Chain.{Chain, plain}
use Rattle.ledger.proofs.Commits.{SafeFor, safe_put, safe_drop}

without_first : (x : ℕ × Blob) (xs : Blobs) → without x.0 (x ∷ xs) ≡ xs
without_first x xs = cond-true (eqb x.0 x.0) xs (x ∷ without x.0 xs) (eq-eqb x.0 x.0 refl)

-- only the saved keys count while a clear is staged
pub staged_same : {R : Type 0} (l : Ledger R) (d e : Disk) → e.saved ≡ d.saved → Staged d l → Staged e l
staged_same l d e q w = record { goal = w.goal; target = ap (λ (k : Keys). k.target) q ∙ w.target; at_start = w.at_start; at_end = w.at_end; at_kept = w.at_kept; at_far = w.at_far; most = w.most }

pub one_found : (b j : ℕ) (x : Blob) → find ((b, blank) ∷ []) j ≡ Some x → (b ≡ j) × (length x.bytes ≡ 0) × (x.sound ≡ 0) × (x.safe ≡ 0)
one_found b j x e = elim (cases_eq b j) [
  | inl i ↦
      let f : find ((b, blank) ∷ []) j ≡ Some blank = cond-true (eqb b j) (Some blank) None (eq-eqb b j i) in
      let o : x ≡ blank = cc in
      (i, ap (λ (y : Blob). length y.bytes) o, ap (λ (y : Blob). y.sound) o, ap (λ (y : Blob). y.safe) o)
  | inr i ↦ absurd (let f : find ((b, blank) ∷ []) j ≡ None = (grind (arith, nat_tests)) in let z : ◌≡◌ {A = ℕ} 0 1 = cc in omega arith)
]

module _ {R : Type 0} (c : Config) (enc : R → List ℕ) (np : 0 < c.n) (zp : 0 < c.z) where
  -- one blank blob is an empty log at t
  pub rows_blank : (l : Ledger R) (t : ℕ) → l.start ≡ t → l.kept ≡ t → l.far ≡ t → t ≤ MAX → Rows c enc (t / c.n) 0 ((t / c.n, blank) ∷ []) l
  rows_blank l t s k f most = record {
    listed = refl;
    low = low;
    fits = λ b x e. let o = one_found (t / c.n) b x e in
        let a = first_low c l.start (t / c.n) low in
        let fb : first c l.start b ≡ first c l.start (t / c.n) = ap (λ (j : ℕ). first c l.start j) (sym o.0) in
        record { safe_sound = omega arith; sound_length = omega arith; length_room = omega arith; most = (0, omega arith, omega arith) };
    deep = λ b x e h. let o = one_found (t / c.n) b x e in absurd (omega arith);
    start_kept = omega arith;
    kept_far = omega arith;
    kept_top = let a = low.below in let z : (t / c.n + 0) * c.n ≡ t / c.n * c.n = ap (λ (j : ℕ). j * c.n) (omega arith) in omega arith;
    top_most = let a = low.from in let z : (t / c.n + 0) * c.n ≡ t / c.n * c.n = ap (λ (j : ℕ). j * c.n) (omega arith) in omega arith;
    far_most = omega arith;
    kept = λ b x m e h g.
        let o = one_found (t / c.n) b x e in
        let a = first_low c l.start (t / c.n) low in
        let fb : first c l.start b ≡ first c l.start (t / c.n) = ap (λ (j : ℕ). first c l.start j) (sym o.0) in
        let z : m ≡ 0 = omega arith in
        let y : m * c.z ≡ 0 * c.z = ap (λ (j : ℕ). j * c.z) z in
        omega arith;
    held = λ b x m e q h. let o = one_found (t / c.n) b x e in absurd (omega arith);
  }
    where
      low : Lowest c l.start (t / c.n)
      low = record { from = let a = div-mul-le_self t c.n in omega arith; below = let a = lt-div-mul-add {a = t} np in omega arith }

  -- what a clear comes to
  pub record Cleared (l : Ledger R) (t : ℕ) (e : Disk) : Type 0 where
    pub blobs : e.blobs ≡ (t / c.n, blank) ∷ []
    pub stand : Standing c enc (t / c.n) 0 e l
    pub saved : e.saved ≡ e.present

  module _ (l : Ledger R) (t : ℕ) (l-start : l.start ≡ t) (l-kept : l.kept ≡ t) (l-far : l.far ≡ t) (t-most : t ≤ MAX) (Q : Disk → Type 0) (then : (e : Disk) → Cleared l t e → Q e) where
    -- the keys, over the one blank blob
    keys_chain : (d : Disk) → Staged d l → d.blobs ≡ (t / c.n, blank) ∷ [] → d.present.target ≡ None → Chain (SafeFor c enc l) Q (persist c t t) d
    keys_chain d w bl free = go (aligned c t) refl
      where
        last : (e : Disk) → e.blobs ≡ (t / c.n, blank) ∷ [] → e.saved ≡ d.saved → e.present.target ≡ None → HintStands c l.start e.present.hint
            → Chain (SafeFor c enc l) Q (Put Watermark t ∷ (SyncKeys ∷ [])) e
        last e p q f h =
            let s : Safe c enc e l = inr (inr (staged_same l d e q w)) in
            let s' = safe_put c enc l e Watermark t s in
            let st : Standing c enc (t / c.n) 0 (done SyncKeys (done (Put Watermark t) e)) l =
            record { rows = rw p (rows_blank l t l-start l-kept l-far t-most); keys = record { target = f; mark = t; marked = refl; mark_kept = omega arith; hint = h } } in (
              plain (SafeFor c enc l) (Put Watermark t) e tt s s',
              (
                plain (SafeFor c enc l) SyncKeys (done (Put Watermark t) e) tt s' (inl (stands c enc (done SyncKeys (done (Put Watermark t) e)) l st)),
                then (done SyncKeys (done (Put Watermark t) e)) (record { blobs = p; stand = st; saved = refl }),
              ),
            )

        sure : Safe c enc d l
        sure = inr (inr w)

        go : (u : Bool) → aligned c t ≡ u → Chain (SafeFor c enc l) Q (cond u (DropKey Hint) (Put Hint t) ∷ (Put Watermark t ∷ (SyncKeys ∷ []))) d
        go true e = (
          plain (SafeFor c enc l) (DropKey Hint) d tt sure (safe_drop c enc l d Hint sure),
          last (done (DropKey Hint) d) bl refl free (inr (ap (λ (j : ℕ). j % c.n) l-start ∙ eqb-true (t % c.n) 0 e, inl refl)),
        )
        go false e = (plain (SafeFor c enc l) (Put Hint t) d tt sure (safe_put c enc l d Hint t sure), last (done (Put Hint t) d) bl refl free (inl (ap {B = Option ℕ} Some (sym l-start))))

    clear_from : (xs : Blobs) (d : Disk) → d.blobs ≡ xs → Staged d l → Chain (SafeFor c enc l) Q (clearing c t (numbers xs)) d
    clear_from [] d e w =
        let d1 : Disk = done (Open (blob_of c t)) d in
        let d2 : Disk = done (DropKey Target) d1 in
        let s : (a : Disk) → a.saved ≡ d.saved → Safe c enc a l = λ a q. inr (inr (staged_same l d a q w)) in (
          plain (SafeFor c enc l) (Open (blob_of c t)) d tt (s d refl) (s d1 refl),
          (
            plain (SafeFor c enc l) (DropKey Target) d1 tt (s d1 refl) (s d2 refl),
            keys_chain d2 (staged_same l d d2 refl w) (ap (λ (bs : Blobs). insert (t / c.n) bs) e) refl,
          ),
        )
    clear_from (x ∷ xs) d e w =
        let d1 : Disk = done (Remove x.0) d in
        let w1 : Staged d1 l = staged_same l d d1 refl w in (
          plain (SafeFor c enc l) (Remove x.0) d (x.1, ap (λ (bs : Blobs). find bs x.0) e ∙ cond-true (eqb x.0 x.0) (Some x.1) (find xs x.0) (eq-eqb x.0 x.0 refl)) (inr (inr w)) (inr (inr w1)),
          clear_from xs d1 (ap (λ (bs : Blobs). without x.0 bs) e ∙ without_first x xs) w1,
        )

    -- carried out, from wherever it stopped
    pub clear_chain : (d : Disk) → Staged d l → Chain (SafeFor c enc l) Q (clearing c t (numbers d.blobs)) d
    clear_chain d w = clear_from d.blobs d refl w

  -- staging: until the keys are saved nothing has happened, and then the log is empty at t
  pub stage_chain : (l : Ledger R) (t : ℕ) (d : Disk) → t ≤ MAX → Safe c enc d l
      → Chain (λ e. Safe c enc e l ⊎ Safe c enc e (moved l t t t t)) (λ e. Staged e (moved l t t t t) × (e.present ≡ e.saved)) (staging d.present t) d
  stage_chain l t d most w = go (is_above d.present.watermark t)
    where
      S : Disk → Type 0
      S e = Safe c enc e l ⊎ Safe c enc e (moved l t t t t)

      last : (e : Disk) → Safe c enc e l → Chain S (λ a. Staged a (moved l t t t t) × (a.present ≡ a.saved)) (Put Target t ∷ (SyncKeys ∷ [])) e
      last e v =
          let v' = safe_put c enc l e Target t v in
          let z : Staged (done SyncKeys (done (Put Target t) e)) (moved l t t t t) = record { goal = t; target = refl; at_start = refl; at_end = refl; at_kept = refl; at_far = refl; most = most } in
          (plain S (Put Target t) e tt (inl v) (inl v'), (plain S SyncKeys (done (Put Target t) e) tt (inl v') (inr (inr (inr z))), (z, refl)))

      go : (u : Bool) → Chain S (λ e. Staged e (moved l t t t t) × (e.present ≡ e.saved)) (cond u (Put Watermark t ∷ []) [] ++ (Put Target t ∷ (SyncKeys ∷ []))) d
      go true = let v = safe_put c enc l d Watermark t w in (plain S (Put Watermark t) d tt (inl w) (inl v), last (done (Put Watermark t) d) v)
      go false = last d w
