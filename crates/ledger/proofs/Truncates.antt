-- Truncate, from any log that is opened or trimmed: it is cut to a size, and all of it is safe; stopped anywhere, what was kept below the size is safe.
use Rattle.std.proofs.Common.{◌≡◌, ℕ, zero, suc, ◌+◌, ◌-◌, ◌*◌, ◌<◌, ◌≤◌, min, Bool, true, false, cond, not, ◌&&◌, ◌||◌, eqb, ltb, ◌⊎◌, List, [], ◌∷◌, ◌++◌, map, reverse, length, Some, None, Option, sym, refl, ap, ◌∙◌, subst, inl, inr, mul-le-mul_right, lt_of_mul-lt-mul_right, div-mul-le_self, le_of_mul-le-mul_right, arith, length-take}
use native.Mathlib.Nat.{lt-div-mul-add}
use Rattle.std.proofs.lemmas.Bool.{cases_lt, eqb-true, cases_Bool, cond-true, cond-false, cond_both, eq-eqb, ne_eqb, ltb-true, ltb-false, and_parts, and_left, and_from}
use Rattle.std.proofs.lemmas.Nat.{le-div, div_below}
use Rattle.std.proofs.lemmas.List.{append-nil}
use Rattle.store.specs.Disk.{Blob, Blobs, Disk, find, numbers, change, synced, Op, Open, Truncate, Sync, Remove, done, cut_to, insert, done_all}
use Rattle.store.specs.declared.keys.Keys.{Keys}
use Rattle.rules.specs.Rules.{Config, blob_of, aligned, persist, first_in}
use Rattle.rules.specs.Calls.{keys_first, same, has, from, up_to, is_empty, anchored, goes, anchor, last_blob, truncating, count}
use Rattle.rules.specs.Open.{Opened}
use Rattle.ledger.specs.Ledger.{Ledger}
use Rattle.ledger.proofs.Blobs.{impossible, find_change, find_change_same, find_change_other, found_listed, not_listed, find_without_other, listed_find, insert_here}
use Rattle.ledger.proofs.Invariant.{first, room, first_room, first_apart, Standing, Rows, moved, first_is, SafeTo}
use Rattle.ledger.proofs.Writes.{standing_sync, standing_truncate, standing_remove_top, rows_far, rows_kept, rows_kept_less}
use Rattle.ledger.proofs.Chain.{chain_end, Chain, chain_append, chain_then, plain}
use Rattle.ledger.proofs.Commits.{Tied, SafeFor, Persisted, persist_rows}
use Rattle.ledger.proofs.Rows.{from_low, from_row, from_above, reverse_more}

same_true : (w : Option ℕ) (m : ℕ) → same w (Some m) ≡ true → w ≡ Some m
same_true None m e = impossible cc
same_true (Some v) m e = ap {B = Option ℕ} Some (eqb-true v m e)

module _ {R : Type 0} (c : Config) (enc : R → List ℕ) (zp : 0 < c.z) (ez : (r : R) → length (enc r) ≡ c.z) (l : Ledger R) (sure size : ℕ) (ks : l.kept ≤ sure) (from_start : l.start ≤ size) (to_far : size ≤ l.far) where
  -- the ledger of a publish that is stopped, and the one with all that is sure
  abbrev stopped : Ledger R
  stopped = moved l l.start l.end (min l.kept size) l.far

  abbrev lower : Ledger R
  lower = moved l l.start l.end (min sure size) l.far

  abbrev S : Disk → Type 0
  S = SafeFor c enc stopped

  safe_at : {lo more : ℕ} (e : Disk) → Standing c enc lo more e lower → S e
  safe_at {lo} {more} e w = inl (record { lo = lo; more = more; sure = min sure size; kept_sure = omega arith; standing = w })

  -- the whole log is safe, and the highest blob ends at the size
  pub published : {lo y : ℕ} (e : Disk) (have : ℕ) (t : Blob) → Standing c enc lo y e lower → find e.blobs (lo + y) ≡ Some t
      → t.sound ≡ length t.bytes → length t.bytes ≡ have * c.z → t.sound ≤ t.safe → size ≡ first c l.start (lo + y) + have → have ≤ room c l.start (lo + y)
      → ((b : ℕ) (x : Blob) → find e.blobs b ≡ Some x → b < lo + y → room c l.start b * c.z ≤ x.sound) → SafeTo e.blobs (lo + y) → e.present ≡ e.saved
      → Tied c enc lo y e (moved l l.start size size size) None
  published {lo} {y} e have t w found sound bytes ts is fits full safe free = record {
    stand = record {
      rows = rows_kept c enc (moved l l.start size (min sure size) size) e.blobs size size
          (rows_far c enc lower e.blobs size size w.rows (omega arith) (let a = w.rows.far_most in omega arith) (λ b x m f q h. before b x m f h))
          from_start (omega arith) (let a = first_room c l.start lo low (lo + y) (omega arith) in omega arith)
          (λ b x m f h g. all_safe b x m f h g);
      keys = let q = w.keys in let mk = q.mark_kept in record { target = q.target; mark = q.mark; marked = q.marked; mark_kept = omega arith; hint = q.hint };
    };
    whole = refl;
    have = have;
    ends = is;
    some_room = fits;
    tail = t;
    found = found;
    sound = sound;
    bytes = bytes;
    full = full;
    safe = λ b x f h. let a = full b x f h in let s = safe b x f h in inr (omega arith);
    owed_below = λ b f. impossible cc;
    now_saved = free;
  }
    where
      low : Rattle.ledger.proofs.Invariant.Lowest c l.start lo
      low = w.rows.low

      at_top : (b : ℕ) (x : Blob) → find e.blobs b ≡ Some x → lo + y ≤ b → (lo + y ≡ b) × (x ≡ t)
      at_top b x f h =
          let a = found_listed e.blobs lo (suc y) b x w.rows.listed f in
          let i : lo + y ≡ b = omega arith in
          let j : find e.blobs (lo + y) ≡ find e.blobs b = ap (λ (k : ℕ). find e.blobs k) i in
          (i, cc (found, f, j))

      before : (b : ℕ) (x : Blob) (m : ℕ) → find e.blobs b ≡ Some x → suc m * c.z ≤ x.sound → first c l.start b + m < size
      before b x m f h =
          let g = w.rows.fits b x f in
          let sl = g.sound_length in
          let lr = g.length_room in
          elim (cases_lt b (lo + y)) [
            | inl i ↦
                let at = found_listed e.blobs lo (suc y) b x w.rows.listed f in
                let r : suc m ≤ room c l.start b = le_of_mul-le-mul_right {k = c.z} (omega arith) zp in
                let a = first_apart c l.start lo low b (lo + y) at.0 i in
                omega arith
            | inr i ↦
                let o = at_top b x f i in
                let so : x.sound ≡ t.sound = ap (λ (v : Blob). v.sound) o.1 in
                let fb : first c l.start (lo + y) ≡ first c l.start b = ap (λ (k : ℕ). first c l.start k) o.0 in
                let r : suc m ≤ have = le_of_mul-le-mul_right {k = c.z} (omega arith) zp in
                omega arith
          ]

      all_safe : (b : ℕ) (x : Blob) (m : ℕ) → find e.blobs b ≡ Some x → m ≤ room c l.start b → first c l.start b + m ≤ size → m * c.z ≤ x.safe
      all_safe b x m f h g = elim (cases_lt b (lo + y)) [
        | inl i ↦ let a = full b x f i in let s = safe b x f i in let u = mul-le-mul_right c.z h in omega arith
        | inr i ↦
            let o = at_top b x f i in
            let so : x.safe ≡ t.safe = ap (λ (v : Blob). v.safe) o.1 in
            let fb : first c l.start (lo + y) ≡ first c l.start b = ap (λ (k : ℕ). first c l.start k) o.0 in
            let r : m ≤ have = omega arith in
            let u = mul-le-mul_right c.z r in
            omega arith
      ]

  -- the keys are saved first, if they are not so yet
  pub keys_first_lem : {lo more : ℕ} (d : Disk) (mk : ℕ) → mk ≤ sure → d.present ≡ d.saved → Standing c enc lo more d (moved l l.start l.end sure l.far)
      → Chain S (λ e. Standing c enc lo more e lower × (e.blobs ≡ d.blobs) × (e.present ≡ e.saved)) (keys_first c d.present l.start (min mk size)) d
  keys_first_lem {lo} {more} d mk under now w = elim (cases_Bool test) [
    | inl e ↦ subst (λ (os : List Op). Chain S Q os d) (sym (cond-true test [] (persist c l.start (min mk size)) e)) (
      record { rows = rows; keys = record { target = w.keys.target; mark = min mk size; marked = ap (λ (k : Keys). k.watermark) (sym now) ∙ same_true d.present.watermark (min mk size) (and_parts _ _ e).0; mark_kept = omega arith; hint = w.keys.hint } },
      refl,
      now,
    )
    | inr e ↦ subst (λ (os : List Op). Chain S Q os d) (sym (cond-false test [] (persist c l.start (min mk size)) e))
        (chain_then S (Persisted c enc lo more d lower) Q (persist c l.start (min mk size)) d (λ a p. (p.stand, p.same, sym p.saved))
        (persist_rows c enc stopped d (min sure size) (min mk size) (omega arith) (omega arith) free
        (inl (record { lo = lo; more = more; sure = sure; kept_sure = omega arith; standing = w })) rows))
  ]
    where
      test : Bool
      test = same d.present.watermark (Some (min mk size)) && same d.present.hint (cond (aligned c l.start) None (Some l.start))

      Q : Disk → Type 0
      Q e = Standing c enc lo more e lower × (e.blobs ≡ d.blobs) × (e.present ≡ e.saved)

      free : d.present.target ≡ None
      free = ap (λ (k : Keys). k.target) now ∙ w.keys.target

      rows : Rows c enc lo more d.blobs lower
      rows = rows_kept_less c enc (moved l l.start l.end sure l.far) d.blobs (min sure size) l.end w.rows (let a = w.rows.start_kept in omega arith) (omega arith)

  -- a disk on the way: the blobs up to lo + x are those of d
  pub record Cutting (lo x y : ℕ) (d e : Disk) : Type 0 where
    pub stand : Standing c enc lo y e lower
    pub agree : (i : ℕ) → i ≤ lo + x → find e.blobs i ≡ find d.blobs i
    pub target : e.present ≡ e.saved

  -- the blobs above go, highest first
  pub remove_above : (j lo x a : ℕ) (d e : Disk) (Q : Disk → Type 0) (ops : List Op) → a ≡ suc (lo + x) → size ≤ a * c.n → Cutting lo x (x + j) d e
      → ((f : Disk) → Cutting lo x x d f → Chain S Q ops f) → Chain S Q (map Remove (reverse (count a j)) ++ ops) e
  remove_above zero lo x a d e Q ops h g k next = next e (let z : x + 0 ≡ x = omega arith in subst (λ (v : ℕ). Cutting lo x v d e) z k)
  remove_above (suc j) lo x a d e Q ops h g k next =
      let z : x + suc j ≡ suc (x + j) = omega arith in
      let w : Standing c enc lo (suc (x + j)) e lower = subst (λ (v : ℕ). Standing c enc lo v e lower) z k.stand in
      let up = mul-le-mul_right {m = a} {n = a + j} c.n (omega arith) in
      let w1 = standing_remove_top c enc lower e w (a + j) (omega arith) (omega arith) in
      let e1 : Disk = done (Remove (a + j)) e in
      let k1 : Cutting lo x (x + j) d e1 = record { stand = w1; agree = λ i q. find_without_other (a + j) i e.blobs (λ o. omega arith) ∙ k.agree i q; target = k.target } in
      subst (λ (r : List ℕ). Chain S Q (map Remove r ++ ops) e) (sym (reverse_more a j (a + j) refl))
      (plain S (Remove (a + j)) e (listed_find e.blobs lo (suc (suc (x + j))) (a + j) w.rows.listed (omega arith) (omega arith)) (safe_at e w) (safe_at e1 w1), remove_above j lo x a d e1 Q ops h g k1 next)

  -- the highest that is left is cut to the size, or synced
  pub record Ended (lo x : ℕ) (d e : Disk) : Type 0 where
    pub stand : Standing c enc lo x e lower
    pub agree : (i : ℕ) → i < lo + x → find e.blobs i ≡ find d.blobs i
    pub target : e.present ≡ e.saved
    pub tail : Blob
    pub found : find e.blobs (lo + x) ≡ Some tail
    pub sound : tail.sound ≡ length tail.bytes
    pub safe : tail.sound ≤ tail.safe
    pub have : ℕ
    pub bytes : length tail.bytes ≡ have * c.z
    pub ends : size ≡ first c l.start (lo + x) + have
    pub fits : have ≤ room c l.start (lo + x)

  -- what is below the size is sound, and the blobs that end below it are safe
  abbrev pub Covers : Disk → Type 0
  Covers e = (b : ℕ) (x : Blob) (m : ℕ) → find e.blobs b ≡ Some x → m ≤ room c l.start b → first c l.start b + m ≤ size → m * c.z ≤ x.sound

  abbrev pub Sealed : Disk → Type 0
  Sealed e = (b : ℕ) (x : Blob) → find e.blobs b ≡ Some x → b * c.n + c.n ≤ size → room c l.start b * c.z ≤ x.safe

  -- the log is cut: it is tied, and its highest blob is safe
  pub record CutTo (lo : ℕ) (e : Disk) : Type 0 where
    pub more : ℕ
    pub tied : Tied c enc lo more e (moved l l.start size size size) None
    pub tail_safe : (t : Blob) → find e.blobs (lo + more) ≡ Some t → t.sound ≤ t.safe
    pub within : (lo + more) * c.n ≤ size

  -- the highest that is left is cut to the size, or synced
  pub last_cut : (lo x b : ℕ) (d e : Disk) (t : Blob) (Q : Disk → Type 0) → b ≡ lo + x → first c l.start b ≤ size → size ≤ first c l.start b + room c l.start b
      → find e.blobs b ≡ Some t → Covers d → Cutting lo x x d e → ((f : Disk) → Ended lo x d f → Q f)
      → Chain S Q (last_blob b ((size - first_in c l.start b) * c.z) (Some t)) e
  last_cut lo x b d e t Q bt lo-size hi-size fe cov k next =
      cond_both (ltb n (length t.bytes)) (Truncate b n) (Sync b) (λ (o : Op). Chain S Q (o ∷ []) e)
      (λ i. by_cut (ltb-true n (length t.bytes) i)) (λ i. by_sync (ltb-false n (length t.bytes) i))
    where
      have : ℕ
      have = size - first_in c l.start b

      n : ℕ
      n = (size - first_in c l.start b) * c.z

      fi : first c l.start b ≡ first_in c l.start b
      fi = first_is c l.start b

      is : size ≡ first c l.start b + have
      is = omega (arith, fi)

      fits : have ≤ room c l.start b
      fits = omega (arith, fi)

      ft : find d.blobs b ≡ Some t
      ft = sym (k.agree b (omega arith)) ∙ fe

      within : have * c.z ≤ t.sound
      within = cov b t have ft fits (omega (arith, is))

      short : t.sound ≤ length t.bytes
      short = (k.stand.rows.fits b t fe).sound_length

      by_cut : n < length t.bytes → Chain S Q (Truncate b n ∷ []) e
      by_cut less =
          let w1 = standing_truncate c enc lower e k.stand b n (omega arith) (λ m h g.
          let q : m ≤ have = omega (arith, is) in mul-le-mul_right c.z q) in
          let e1 : Disk = done (Truncate b n) e in
          let tl = length-take n t.bytes in
          let so = within in (
            plain S (Truncate b n) e (t, fe, omega arith) (safe_at e k.stand) (safe_at e1 w1),
            next e1 (record {
              stand = w1;
              agree = λ i h. find_change_other (cut_to n) b i e.blobs (λ o. omega arith) ∙ k.agree i (omega arith);
              target = k.target;
              tail = cut_to n t;
              found = subst (λ (j : ℕ). find (change (cut_to n) b e.blobs) j ≡ Some (cut_to n t)) bt (find_change_same (cut_to n) b e.blobs t fe);
              sound = omega arith;
              safe = omega arith;
              have = have;
              bytes = omega arith;
              ends = is ∙ ap (λ (j : ℕ). first c l.start j + have) bt;
              fits = subst (λ (j : ℕ). have ≤ room c l.start j) bt fits;
            }),
          )

      by_sync : length t.bytes ≤ n → Chain S Q (Sync b ∷ []) e
      by_sync less =
          let w1 = standing_sync c enc lower e k.stand b in
          let e1 : Disk = done (Sync b) e in
          let hz = within in
          let sh = short in (
            plain S (Sync b) e (t, fe) (safe_at e k.stand) (safe_at e1 w1),
            next e1 (record {
              stand = w1;
              agree = λ i h. find_change_other synced b i e.blobs (λ o. omega arith) ∙ k.agree i (omega arith);
              target = k.target;
              tail = synced t;
              found = subst (λ (j : ℕ). find (change synced b e.blobs) j ≡ Some (synced t)) bt (find_change_same synced b e.blobs t fe);
              sound = omega arith;
              safe = omega arith;
              have = have;
              bytes = omega arith;
              ends = is ∙ ap (λ (j : ℕ). first c l.start j + have) bt;
              fits = subst (λ (j : ℕ). have ≤ room c l.start j) bt fits;
            }),
          )

  -- the blobs below are full and safe
  below_full : (lo x y : ℕ) (d e : Disk) → Standing c enc lo y e lower → first c l.start (lo + x) ≤ size → x ≤ y → Covers d → ((i : ℕ) → i < lo + x → find e.blobs i ≡ find d.blobs i)
      → (b : ℕ) (t : Blob) → find e.blobs b ≡ Some t → b < lo + x → room c l.start b * c.z ≤ t.sound
  below_full lo x y d e w g xy cov agree b t f h =
      let at = found_listed e.blobs lo (suc y) b t w.rows.listed f in
      let a = first_apart c l.start lo w.rows.low b (lo + x) at.0 h in
      cov b t (room c l.start b) (sym (agree b h) ∙ f) (omega arith) (omega arith)

  below_safe : (lo x y : ℕ) (d e : Disk) → Standing c enc lo y e lower → first c l.start (lo + x) ≤ size → x ≤ y → Sealed d → ((i : ℕ) → i < lo + x → find e.blobs i ≡ find d.blobs i) → SafeTo e.blobs (lo + x)
  below_safe lo x y d e w g xy sea agree b t f h =
      let at = found_listed e.blobs lo (suc y) b t w.rows.listed f in
      let a = first_apart c l.start lo w.rows.low b (lo + x) at.0 h in
      let r = first_room c l.start lo w.rows.low b at.0 in
      let s = sea b t (sym (agree b h) ∙ f) (omega arith) in
      let u = w.rows.fits b t f in
      omega arith

  module _ {lo more : ℕ} (d : Disk) (o : Opened) (o-start : o.start ≡ l.start) (under : o.mark ≤ sure) (now : d.present ≡ d.saved) (w : Standing c enc lo more d (moved l l.start l.end sure l.far))
      (cov : Covers d) (sea : Sealed d) (top : size ≤ (lo + more) * c.n + c.n)
      (edge : ((o.edge ≡ 0) × (size ≡ l.start)) ⊎ ((size ≤ o.edge * c.n) × (l.start < o.edge * c.n))) where
    abbrev nums : List ℕ
    nums = numbers d.blobs

    abbrev b : ℕ
    b = blob_of c size

    abbrev K : List Op
    K = keys_first c d.present o.start (min o.mark size)

    np : 0 < c.n
    np = let x = w.rows.low.from in let y = w.rows.low.below in omega arith

    size_blob : (size < b * c.n + c.n) × (b * c.n ≤ size)
    size_blob = (lt-div-mul-add {a = size} np, div-mul-le_self size c.n)

    first_size : (k : ℕ) → k ≡ b → first c l.start k ≤ size
    first_size k e = let a = first_is c l.start k in let s = size_blob in let n : k * c.n ≡ b * c.n = ap (λ (i : ℕ). i * c.n) e in omega arith

    low_blob : lo ≤ b
    low_blob = le-div lo size c.n np (let a = w.rows.low.from in omega arith)

    -- after the keys, and after the blob of the size is there
    pub record Mid (e : Disk) : Type 0 where
      pub stand : Standing c enc lo more e lower
      pub covers : Covers e
      pub sealed : Sealed e
      pub target : e.present ≡ e.saved

    keyed : Chain S Mid K d
    keyed =
        subst (λ (s : ℕ). Chain S Mid (keys_first c d.present s (min o.mark size)) d) (sym o-start)
        (chain_then S (λ e. Standing c enc lo more e lower × (e.blobs ≡ d.blobs) × (e.present ≡ e.saved)) Mid (keys_first c d.present l.start (min o.mark size)) d
        (λ e q. record {
          stand = q.0;
          covers = λ i x m f. cov i x m (ap (λ (bs : Blobs). find bs i) (sym q.1) ∙ f);
          sealed = λ i x f. sea i x (ap (λ (bs : Blobs). find bs i) (sym q.1) ∙ f);
          target = q.2;
        })
        (keys_first_lem d o.mark under now w))

    mid_sync : (a : ℕ) (e : Disk) → Mid e → Mid (done (Sync a) e)
    mid_sync a e m = record {
      stand = standing_sync c enc lower e m.stand a;
      covers = λ i x k f h g. elim (find_change synced a i e.blobs x f) [
        | inl q ↦ let v = m.covers i q.1.0 k q.1.1 h g in let s : x.sound ≡ q.1.0.sound = ap (λ (y : Blob). y.sound) q.1.2 in omega arith
        | inr q ↦ m.covers i x k q.1 h g
      ];
      sealed = λ i x f h. elim (find_change synced a i e.blobs x f) [
        | inl q ↦
            let v = m.sealed i q.1.0 q.1.1 h in
            let s : x.safe ≡ q.1.0.sound = ap (λ (y : Blob). y.safe) q.1.2 in
            let u = (m.stand.rows.fits i q.1.0 q.1.1).safe_sound in
            omega arith
        | inr q ↦ m.sealed i x q.1 h
      ];
      target = m.target;
    }

    -- where the blob of the size is there, it is not made again
    anchored_chain : (u : Bool) (e : Disk) → b < lo + suc more → Mid e → Chain S Mid (cond u (Open b ∷ (Sync b ∷ [])) []) e
    anchored_chain false e h m = m
    anchored_chain true e h m =
        let same : insert b e.blobs ≡ e.blobs = insert_here e.blobs lo (suc more) b m.stand.rows.listed low_blob h in
        let e1 : Disk = done (Open b) e in
        let is : e ≡ e1 = λ i. record { blobs = sym same i; present = e.present; saved = e.saved } in
        let m1 : Mid e1 = subst Mid is m in
        let m2 : Mid (done (Sync b) e1) = mid_sync b e1 m1 in
        (plain S (Open b) e tt (safe_at e m.stand) (safe_at e1 m1.stand), (plain S (Sync b) e1 (listed_find e1.blobs lo (suc more) b m1.stand.rows.listed low_blob (omega arith)) (safe_at e1 m1.stand) (safe_at (done (Sync b) e1) m2.stand), m2))

    -- the calls before the last
    abbrev above : List Op
    above = K ++ (anchor c nums o size ++ map Remove (reverse (goes c nums o size)))

    -- the last call looks at the disk that the others leave
    finish : (P : Disk → Type 0) → Chain S (λ e. Chain S P (last_blob b ((size - first_in c o.start b) * c.z) (find e.blobs b)) e) above d → Chain S P (truncating c d o size) d
    finish P k =
        chain_append S P above (last_blob b ((size - first_in c o.start b) * c.z) (find (done_all above d).blobs b)) d
        (chain_then S (λ e. (e ≡ done_all above d) × Chain S P (last_blob b ((size - first_in c o.start b) * c.z) (find e.blobs b)) e) (λ e. Chain S P (last_blob b ((size - first_in c o.start b) * c.z) (find (done_all above d).blobs b)) e) above d
        (λ e q. subst (λ (a : Disk). Chain S P (last_blob b ((size - first_in c o.start b) * c.z) (find a.blobs b)) e) q.0 q.1)
        (chain_end S (λ e. Chain S P (last_blob b ((size - first_in c o.start b) * c.z) (find e.blobs b)) e) above d k))

    -- the blob of the size is there, and stays
    here : (x j : ℕ) → b ≡ lo + x → more ≡ x + j → goes c nums o size ≡ count (b + 1) j → Chain S (CutTo lo) (truncating c d o size) d
    here x j bt mj gs =
        finish (CutTo lo)
        (chain_append S Q K (anchor c nums o size ++ map Remove (reverse (goes c nums o size))) d
        (chain_then S Mid (λ e. Chain S Q (anchor c nums o size ++ map Remove (reverse (goes c nums o size))) e) K d
        (λ e m. chain_append S Q (anchor c nums o size) (map Remove (reverse (goes c nums o size))) e
        (chain_then S Mid (λ a. Chain S Q (map Remove (reverse (goes c nums o size))) a) (anchor c nums o size) e removing
        (anchored_chain (anchored c nums o size && not (has b (up_to o.edge nums))) e (omega arith) m)))
        keyed))
      where
        Q : Disk → Type 0
        Q e = Chain S (CutTo lo) (last_blob b ((size - first_in c o.start b) * c.z) (find e.blobs b)) e

        size_room : size ≤ first c l.start b + room c l.start b
        size_room = let a = first_room c l.start lo w.rows.low b low_blob in let s = size_blob in omega arith

        after : (e f : Disk) → Mid e → Cutting lo x x e f → Q f
        after e f m k =
            let t = listed_find f.blobs lo (suc x) b k.stand.rows.listed (omega arith) (omega arith) in
            subst (λ (u : Option Blob). Chain S (CutTo lo) (last_blob b ((size - first_in c o.start b) * c.z) u) f) (sym t.1)
            (subst (λ (s : ℕ). Chain S (CutTo lo) (last_blob b ((size - first_in c s b) * c.z) (Some t.0)) f) (sym o-start)
            (last_cut lo x b e f t.0 (CutTo lo) bt (first_size b refl) size_room t.1 m.covers k
            (λ g en. record {
              more = x;
              tied = published g en.have en.tail en.stand en.found en.sound en.bytes en.safe en.ends en.fits
                  (below_full lo x x e g en.stand (first_size (lo + x) (sym bt)) (omega arith) m.covers en.agree)
                  (below_safe lo x x e g en.stand (first_size (lo + x) (sym bt)) (omega arith) m.sealed en.agree) en.target;
              tail_safe = λ v q. let i : en.tail ≡ v = cc (en.found, q) in let a : en.tail.sound ≡ v.sound = ap (λ (y : Blob). y.sound) i in let z : en.tail.safe ≡ v.safe = ap (λ (y : Blob). y.safe) i in let y = en.safe in omega arith;
              within = let s = size_blob in let n : b * c.n ≡ (lo + x) * c.n = ap (λ (i : ℕ). i * c.n) bt in omega arith;
            })))

        removing : (e : Disk) → Mid e → Chain S Q (map Remove (reverse (goes c nums o size))) e
        removing e m =
            subst (λ (r : List ℕ). Chain S Q (map Remove (reverse r)) e) (sym gs)
            (subst (λ (r : List Op). Chain S Q r e) (append-nil (map Remove (reverse (count (b + 1) j))))
            (remove_above j lo x (b + 1) e e Q [] (omega arith) (let s = size_blob in omega arith)
            (record { stand = subst (λ (i : ℕ). Standing c enc lo i e lower) mj m.stand; agree = λ i h. refl; target = m.target }) (λ f k. after e f m k)))

    -- the blob of the size is not there, or goes: the one below it is full up to the size
    next : (x j : ℕ) → b ≡ suc (lo + x) → size ≡ b * c.n → more ≡ x + j → goes c nums o size ≡ count b j → anchor c nums o size ≡ [] → Chain S (CutTo lo) (truncating c d o size) d
    next x j bt sz mj gs an =
        finish (CutTo lo)
        (chain_append S Q K (anchor c nums o size ++ map Remove (reverse (goes c nums o size))) d
        (chain_then S Mid (λ e. Chain S Q (anchor c nums o size ++ map Remove (reverse (goes c nums o size))) e) K d
        (λ e m. subst (λ (r : List Op). Chain S Q (r ++ map Remove (reverse (goes c nums o size))) e) (sym an) (removing e m))
        keyed))
      where
        Q : Disk → Type 0
        Q e = Chain S (CutTo lo) (last_blob b ((size - first_in c o.start b) * c.z) (find e.blobs b)) e

        bn : b * c.n ≡ suc (lo + x) * c.n
        bn = ap (λ (i : ℕ). i * c.n) bt

        top_room : first c l.start (lo + x) + room c l.start (lo + x) ≡ (lo + x) * c.n + c.n
        top_room = first_room c l.start lo w.rows.low (lo + x) (omega arith)

        after : (e f : Disk) → Mid e → Cutting lo x x e f → Q f
        after e f m k =
            let none : find f.blobs b ≡ None = not_listed f.blobs lo (suc x) b k.stand.rows.listed (λ i. let a = i.1 in omega arith) in
            let t = listed_find f.blobs lo (suc x) (lo + x) k.stand.rows.listed (omega arith) (omega arith) in
            let te : find e.blobs (lo + x) ≡ Some t.0 = sym (k.agree (lo + x) (omega arith)) ∙ t.1 in
            let s = sz in let n = bn in let r = top_room in
            let so = m.covers (lo + x) t.0 (room c l.start (lo + x)) te (omega arith) (omega arith) in
            let sa = m.sealed (lo + x) t.0 te (omega arith) in
            let fi = k.stand.rows.fits (lo + x) t.0 t.1 in
            let fs : first c l.start (lo + x) ≤ size = omega arith in
            subst (λ (u : Option Blob). Chain S (CutTo lo) (last_blob b ((size - first_in c o.start b) * c.z) u) f) (sym none)
            (record {
              more = x;
              tied = published f (room c l.start (lo + x)) t.0 k.stand t.1 (omega arith) (omega arith) (omega arith) (omega arith) (omega arith)
                  (below_full lo x x e f k.stand fs (omega arith) m.covers (λ i h. k.agree i (omega arith)))
                  (below_safe lo x x e f k.stand fs (omega arith) m.sealed (λ i h. k.agree i (omega arith))) k.target;
              tail_safe = λ v q. let i : t.0 ≡ v = cc (t.1, q) in let a : t.0.sound ≡ v.sound = ap (λ (y : Blob). y.sound) i in let z : t.0.safe ≡ v.safe = ap (λ (y : Blob). y.safe) i in omega arith;
              within = omega arith;
            })

        removing : (e : Disk) → Mid e → Chain S Q (map Remove (reverse (goes c nums o size))) e
        removing e m =
            subst (λ (r : List ℕ). Chain S Q (map Remove (reverse r)) e) (sym gs)
            (subst (λ (r : List Op). Chain S Q r e) (append-nil (map Remove (reverse (count b j))))
            (remove_above j lo x b e e Q [] bt (let s = sz in omega arith)
            (record { stand = subst (λ (i : ℕ). Standing c enc lo i e lower) mj m.stand; agree = λ i h. refl; target = m.target }) (λ f k. after e f m k)))

    listed : nums ≡ count lo (suc more)
    listed = w.rows.listed

    -- truncate: done, all up to the size is kept; stopped, what was kept below it
    pub truncate_chain : Chain S (CutTo lo) (truncating c d o size) d
    truncate_chain = elim (cases_lt b (lo + suc more)) [
      | inl i ↦ elim (cases_Bool (anchored c nums o size || ltb b o.edge)) [
        | inl u ↦ here (b - lo) (lo + more - b) (let g = low_blob in omega arith) (let g = low_blob in omega arith) (stays_goes i u)
        | inr u ↦ leaves i u
      ]
      | inr i ↦ over i
    ]
      where
        stays_goes : b < lo + suc more → (anchored c nums o size || ltb b o.edge) ≡ true → goes c nums o size ≡ count (b + 1) (lo + more - b)
        stays_goes i u =
            let g = low_blob in
            ap (λ (t : Bool). from (cond t (b + 1) b) nums) u
            ∙ (ap (λ (r : List ℕ). from (b + 1) r) (listed ∙ ap (λ (k : ℕ). count lo k) (let q : suc more ≡ suc (b - lo) + (lo + more - b) = omega arith in q))
            ∙ from_row (suc (b - lo)) lo (lo + more - b) (b + 1) (omega arith))

        leaves : b < lo + suc more → (anchored c nums o size || ltb b o.edge) ≡ false → Chain S (CutTo lo) (truncating c d o size) d
        leaves i u =
            let p = or_false (anchored c nums o size) (ltb b o.edge) u in
            let over_edge = ltb-false b o.edge p.1 in
            elim edge [
              | inl q ↦ absurd (empty_start i q.0 q.1 p.0)
              | inr q ↦
                  let s = size_blob in
                  let m = mul-le-mul_right {m = o.edge} {n = b} c.n over_edge in
                  let sz : size ≡ b * c.n = omega arith in
                  let up : lo < b = lt_of_mul-lt-mul_right c.n (let a = w.rows.low.from in omega arith) in
                  next (b - lo - 1) (lo + more - b + 1) (omega arith) sz (omega arith)
                  (ap (λ (t : Bool). from (cond t (b + 1) b) nums) u
                  ∙ (ap (λ (r : List ℕ). from b r) (listed ∙ ap (λ (k : ℕ). count lo k) (let y : suc more ≡ b - lo + (lo + more - b + 1) = omega arith in y))
                  ∙ from_row (b - lo) lo (lo + more - b + 1) b (omega arith)))
                  (cond-false (anchored c nums o size && not (has b (up_to o.edge nums))) _ [] (and_left (anchored c nums o size) (not (has b (up_to o.edge nums))) p.0))
            ]
          where
            or_false : (x y : Bool) → (x || y) ≡ false → (x ≡ false) × (y ≡ false)
            or_false true y e = impossible cc
            or_false false y e = (refl, e)

            -- with every blob set aside, an empty log is anchored
            empty_start : b < lo + suc more → o.edge ≡ 0 → size ≡ l.start → anchored c nums o size ≡ false → ⊥
            empty_start i e0 ss f =
                let z : min o.edge (b + 1) ≡ 0 = omega arith in
                let t : from (min o.edge (b + 1)) nums ≡ count lo (suc more) =
                ap (λ (k : ℕ). from k nums) z ∙ (ap (λ (r : List ℕ). from 0 r) listed ∙ from_low lo (suc more) 0 (omega arith)) in
                let v : anchored c nums o size ≡ true = and_from (eqb size o.start) (not (is_empty (from (min o.edge (b + 1)) nums))) (eq-eqb size o.start (ss ∙ sym o-start)) (ap (λ (r : List ℕ). not (is_empty r)) t) in
                let y : ◌≡◌ {A = ℕ} 0 1 = cc in omega arith

        over : lo + suc more ≤ b → Chain S (CutTo lo) (truncating c d o size) d
        over i =
            let s = size_blob in
            let m = mul-le-mul_right {m = suc (lo + more)} {n = b} c.n (omega arith) in
            let sz : size ≡ b * c.n = omega arith in
            let bt : b ≤ suc (lo + more) = let q = div_below size c.n (suc (suc (lo + more))) np (let n = np in omega arith) in omega arith in
            let not_start : eqb size o.start ≡ false = ne_eqb size o.start (λ e.
            let a = w.rows.low.below in
            let n = mul-le-mul_right {m = lo} {n = lo + more} c.n (omega arith) in
            omega arith) in
            next more 0 (omega arith) sz (omega arith)
            (cond_both (anchored c nums o size || ltb b o.edge) (b + 1) b (λ (k : ℕ). from k nums ≡ [])
            (λ u. ap (λ (r : List ℕ). from (b + 1) r) listed ∙ from_above lo (suc more) (b + 1) (omega arith))
            (λ u. ap (λ (r : List ℕ). from b r) listed ∙ from_above lo (suc more) b (omega arith)))
            (cond-false (anchored c nums o size && not (has b (up_to o.edge nums))) _ [] (and_left (anchored c nums o size) (not (has b (up_to o.edge nums))) (and_left (eqb size o.start) _ not_start)))
