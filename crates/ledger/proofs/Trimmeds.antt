-- The trimmed log: its append, sync and prune, each done or stopped anywhere.
use Rattle.std.proofs.Common.{◌≡◌, ℕ, suc, ◌+◌, ◌-◌, ◌*◌, ◌%◌, ◌<◌, ◌≤◌, Bool, true, false, cond, List, [], ◌∷◌, ◌++◌, map, length, Some, None, sym, refl, ap, ◌∙◌, subst, inl, inr, mul-le-mul_right, lt_of_mul-lt-mul_right, arith}
use native.Mathlib.Nat.{mul-add-mod_self_right, mod_self, div-eq_of_lt-le}
use Rattle.std.specs.List.{flat_map}
use Rattle.std.proofs.lemmas.Bool.{cases_lt, eqb-false}
use Rattle.store.specs.Disk.{Blob, Blobs, Disk, find, numbers, synced, Op, Open, Append, Sync, Remove, done, insert}
use Rattle.store.specs.declared.keys.Keys.{Keys}
use Rattle.rules.specs.Rules.{Config, blob_of, aligned, persist, MAX}
use Rattle.rules.specs.Calls.{has, up_to, open_if, count}
use Rattle.ledger.specs.Ledger.{Ledger, appended}
use Rattle.ledger.proofs.Blobs.{impossible, find_change, found_listed, find_insert_other, listed_find, insert_here}
use Rattle.ledger.proofs.Invariant.{blob_first, blob_is, first_room, stands, moved}
use Rattle.ledger.proofs.Writes.{standing_kept}
use Rattle.ledger.proofs.Chain.{Chain, chain_then, plain}
use Rattle.ledger.proofs.Publishes.{sync_rows}
use Rattle.ledger.proofs.Appends.{ahead, run_counted, tied_append, tied_open}
use Rattle.ledger.proofs.Prunes.{PruneStops, Pruned, remove_chain}
use Rattle.ledger.proofs.Commits.{tied_top, tied_covers, persist_chain, tied_persisted, tied_sync, Tied, tied_paid, SafeFor, Persisted}
use Rattle.ledger.proofs.Rows.{has_in, has_above, up_to_row}

abbrev pub TailSafe : ℕ → Disk → Type 0
TailSafe b e = (t : Blob) → find e.blobs b ≡ Some t → t.sound ≤ t.safe

-- a trimmed log with blobs
pub record Trim {R : Type 0} (c : Config) (enc : R → List ℕ) (l : Ledger R) (e : Disk) : Type 0 where
  pub lo : ℕ
  pub more : ℕ
  pub tied : Tied c enc lo more e l None
  pub within : (lo + more) * c.n ≤ l.end
  -- where the highest is full, it is safe
  pub sealed : l.end ≡ (lo + more) * c.n + c.n → TailSafe (lo + more) e

module _ {R : Type 0} (c : Config) (enc : R → List ℕ) (zp : 0 < c.z) (ez : (r : R) → length (enc r) ≡ c.z) where
  all_below : {lo more : ℕ} (l : Ledger R) (d : Disk) → Tied c enc lo more d l None → l.end ≤ (lo + more) * c.n + c.n
  all_below {lo} {more} l d t = let a = first_room c l.start lo t.stand.rows.low (lo + more) (omega arith) in let q = t.ends in let r = t.some_room in omega arith

  -- everything is safe: all is kept
  pub tied_kept : {lo more : ℕ} (l : Ledger R) (d : Disk) (r : Tied c enc lo more d l None) → TailSafe (lo + more) d → Tied c enc lo more d (moved l l.start l.end l.end l.far) None
  tied_kept {lo} {more} l d r ts =
      let up : l.kept ≤ l.end = let a = r.stand.rows.kept_far in let f = r.whole in omega arith in
      let to : l.end ≤ l.far = let f = r.whole in omega arith in
      record {
        stand = standing_kept c enc l d r.stand l.end l.end up to (all_below l d r) (λ k x m e h g.
            elim (cases_lt k (lo + more)) [
              | inl i ↦ elim (r.safe k x e i) [
                | inl t ↦ impossible cc
                | inr t ↦ let u = mul-le-mul_right c.z h in omega arith
              ]
              | inr i ↦
                  let q = tied_top c enc l d None r k x e i in
                  let s = ts x (ap (λ (n : ℕ). find d.blobs n) q.0 ∙ e) in
                  let so = tied_covers c enc l d None r k x m e h g in
                  omega arith
            ]);
        whole = r.whole;
        have = r.have;
        ends = r.ends;
        some_room = r.some_room;
        tail = r.tail;
        found = r.found;
        sound = r.sound;
        bytes = r.bytes;
        full = r.full;
        safe = r.safe;
        owed_below = r.owed_below;
        now_saved = r.now_saved;
      }

  -- append --------------------------------------------------------------------------------------

  module _ (l : Ledger R) (r : R) (most : l.end + 1 ≤ MAX) where
    abbrev m : Ledger R
    m = appended l (r ∷ [])

    abbrev S : Disk → Type 0
    S = SafeFor c enc m

    pub safe_ahead : {lo more : ℕ} (d : Disk) → Tied c enc lo more d l None → S d
    safe_ahead d t = ahead c enc zp ez l m d (r ∷ []) t.stand (let a = t.whole in omega arith) most refl

    pub in_blob : {lo more : ℕ} (d : Disk) (b : ℕ) → Tied c enc lo more d l None → b ≡ lo + more → l.end < (lo + more) * c.n + c.n
        → Chain S (Trim c enc m) (Append b (flat_map enc (r ∷ [])) ∷ cond (aligned c (l.end + 1)) (Sync b ∷ []) []) d
    in_blob {lo} {more} d b t bt space =
        (run_counted c enc zp ez l m (r ∷ []) [] d None b t bt (omega arith) most refl, go (aligned c (l.end + 1)) refl)
      where
        d1 : Disk
        d1 = done (Append b (flat_map enc (r ∷ []))) d

        t1 : Tied c enc lo more d1 m None
        t1 = tied_append c enc zp ez l d None b (r ∷ []) t bt (omega arith) most

        inn : (lo + more) * c.n ≤ l.end
        inn = let a = blob_first c l.start lo t.stand.rows.low (lo + more) in let q = t.ends in omega arith

        go : (u : Bool) → aligned c (l.end + 1) ≡ u → Chain S (Trim c enc m) (cond u (Sync b ∷ []) []) d1
        go false e = record {
          lo = lo;
          more = more;
          tied = t1;
          within = let i = inn in omega arith;
          sealed = λ f. absurd (eqb-false ((l.end + 1) % c.n) 0 e (ap (λ (k : ℕ). k % c.n) f ∙ (mul-add-mod_self_right (lo + more) c.n c.n ∙ mod_self c.n)));
        }
        go true e =
            let t2 = tied_sync c enc m d1 None b t1 in (
              plain S (Sync b) d1 (t1.tail, ap (λ (j : ℕ). find d1.blobs j) bt ∙ t1.found) (inl (stands c enc d1 m t1.stand)) (inl (stands c enc (done (Sync b) d1) m t2.stand)),
              record {
                lo = lo;
                more = more;
                tied = t2;
                within = let i = inn in omega arith;
                sealed = λ f v g. elim (find_change synced b (lo + more) d1.blobs v g) [
                  | inl q ↦
                      let s : v.sound ≡ q.1.0.sound = ap (λ (y : Blob). y.sound) q.1.2 in
                      let u : v.safe ≡ q.1.0.sound = ap (λ (y : Blob). y.safe) q.1.2 in omega arith
                  | inr q ↦ absurd (q.0 bt)
                ];
              },
            )

    pub trimmed_append_chain : (d : Disk) → Trim c enc l d
        → Chain S (Trim c enc m) (open_if (has (blob_of c l.end) (numbers d.blobs)) (blob_of c l.end) ++ (Append (blob_of c l.end) (flat_map enc (r ∷ [])) ∷ cond (aligned c (l.end + 1)) (Sync (blob_of c l.end) ∷ []) [])) d
    trimmed_append_chain d t = elim (cases_lt l.end ((t.lo + t.more) * c.n + c.n)) [
      | inl i ↦
          let a = first_room c l.start t.lo t.tied.stand.rows.low (t.lo + t.more) (omega arith) in
          let q = t.tied.ends in
          let bt : b ≡ t.lo + t.more = blob_is c l.start t.lo t.tied.stand.rows.low (t.lo + t.more) l.end (omega arith) (omega arith) (omega arith) in
          let h : has b (numbers d.blobs) ≡ true = ap (λ (r : List ℕ). has b r) t.tied.stand.rows.listed ∙ has_in t.lo (suc t.more) b (omega arith) (omega arith) in
          subst (λ (u : Bool). Chain S (Trim c enc m) (open_if u b ++ rest) d) (sym h) (in_blob d b t.tied bt i)
      | inr i ↦
          let u = all_below l d t.tied in
          let full : l.end ≡ (t.lo + t.more) * c.n + c.n = omega arith in
          let np : 0 < c.n = let x = t.tied.stand.rows.low.from in let y = t.tied.stand.rows.low.below in omega arith in
          let bt : b ≡ suc (t.lo + t.more) = div-eq_of_lt-le {k = suc (t.lo + t.more)} c.n (omega arith) (omega arith) in
          let h : has b (numbers d.blobs) ≡ false = ap (λ (r : List ℕ). has b r) t.tied.stand.rows.listed ∙ has_above t.lo (suc t.more) b (omega arith) in
          let opn : Tied c enc t.lo (suc t.more) (done (Open b) d) l (Some (t.lo + t.more)) = tied_open c enc zp ez l d b (t.lo + t.more) t.tied refl bt full in
          let paid : Tied c enc t.lo (suc t.more) (done (Open b) d) l None = tied_paid c enc l (done (Open b) d) (t.lo + t.more) opn (λ v g.
          let x = opn.full (t.lo + t.more) v g (omega arith) in
          let s = t.sealed full v (sym (find_insert_other b (t.lo + t.more) d.blobs (λ k. omega arith)) ∙ g) in omega arith) in
          let bn : b * c.n ≡ (t.lo + suc t.more) * c.n = ap (λ (j : ℕ). j * c.n) (omega arith) in
          let b2 : suc (t.lo + t.more) * c.n ≡ b * c.n = ap (λ (j : ℕ). j * c.n) (sym bt) in
          subst (λ (u : Bool). Chain S (Trim c enc m) (open_if u b ++ rest) d) (sym h)
          (plain S (Open b) d tt (safe_ahead d t.tied) (safe_ahead (done (Open b) d) paid), in_blob (done (Open b) d) b paid (omega arith) (omega arith))
    ]
      where
        b : ℕ
        b = blob_of c l.end

        rest : List Op
        rest = Append (blob_of c l.end) (flat_map enc (r ∷ [])) ∷ cond (aligned c (l.end + 1)) (Sync (blob_of c l.end) ∷ []) []

  -- sync ----------------------------------------------------------------------------------------

  abbrev pub KeptAll : Ledger R → Ledger R
  KeptAll l = moved l l.start l.end l.end l.far

  -- a row of syncs of all blobs
  pub sync_all : {lo more : ℕ} (l : Ledger R) (S Q : Disk → Type 0) (ops : List Op) (d : Disk) → ((e : Disk) → Tied c enc lo more e l None → S e) → Tied c enc lo more d l None
      → ((e : Disk) → Tied c enc lo more e (KeptAll l) None → TailSafe (lo + more) e → Chain S Q ops e) → Chain S Q (map Sync (numbers d.blobs) ++ ops) d
  sync_all {lo} {more} l S Q ops d safe t next =
      subst (λ (r : List ℕ). Chain S Q (map Sync r ++ ops) d) (sym t.stand.rows.listed)
      (sync_rows S Q (λ f. Tied c enc lo more f l None) safe (λ a f p. tied_sync c enc l f None a p) (suc more) lo (λ j f p h g. listed_find f.blobs lo (suc more) j p.stand.rows.listed h g) ops d t
      (λ i v f h. absurd (let a = found_listed d.blobs lo (suc more) i v t.stand.rows.listed f in omega arith))
      (λ f p u. let ts : TailSafe (lo + more) f = λ v g. u (lo + more) v g (omega arith) in next f (tied_kept l f p ts) ts))

  pub trimmed_sync_done : (l : Ledger R) (d : Disk) → Trim c enc l d → Chain (SafeFor c enc l) (Trim c enc (KeptAll l)) (map Sync (numbers d.blobs) ++ persist c l.start l.end) d
  trimmed_sync_done l d t =
      sync_all l (SafeFor c enc l) (Trim c enc (KeptAll l)) (persist c l.start l.end) d (λ e q. inl (stands c enc e l q.stand)) t.tied
      (λ e q ts. chain_then (SafeFor c enc l) (Persisted c enc t.lo t.more e (KeptAll l)) (Trim c enc (KeptAll l)) (persist c l.start l.end) e
      (λ a p. record { lo = t.lo; more = t.more; tied = tied_persisted c enc (KeptAll l) e a None q p; within = t.within; sealed = λ f v g. ts v (ap (λ (bs : Blobs). find bs (t.lo + t.more)) (sym p.same) ∙ g) })
      (persist_chain c enc l e l.end l.end (let a = t.tied.stand.rows.kept_far in let f = t.tied.whole in omega arith) (omega arith)
      (ap (λ (k : Keys). k.target) q.now_saved ∙ q.stand.keys.target) q.stand))

  -- prune ---------------------------------------------------------------------------------------

  prune_rest : {lo more : ℕ} (l : Ledger R) (d : Disk) (b : ℕ) → Tied c enc lo more d l None → lo < b → b ≤ lo + more → (lo + more) * c.n ≤ l.end
      → Chain (PruneStops c enc l (b * c.n)) (Trim c enc (moved l (b * c.n) l.end l.end l.far)) (map Sync (numbers d.blobs) ++ map Remove (count lo (b - lo))) d
  prune_rest {lo} {more} l d b t up within inn =
      sync_all l S T (map Remove (count lo (b - lo))) d (λ e q. inl (inl (stands c enc e l q.stand))) t
      (λ e q ts.
      let mk : more ≡ b - lo + (lo + more - b) = omega arith in
      let kept : l.kept ≤ l.end = let a = t.stand.rows.kept_far in let f = t.whole in omega arith in
      let q' : Tied c enc lo (b - lo + (lo + more - b)) e (KeptAll l) None = subst (λ (j : ℕ). Tied c enc lo j e (KeptAll l) None) mk q in
      chain_then S (Pruned c enc l (lo + more) b) T (map Remove (count lo (b - lo))) e
      (λ a p. let n : (b + p.more) * c.n ≡ (lo + more) * c.n = ap (λ (j : ℕ). j * c.n) p.top in
      record {
        lo = b;
        more = p.more;
        tied = p.tied;
        within = omega arith;
        sealed = λ f v g.
            let r = p.tied in
            let is : r.tail ≡ v = cc (r.found, g) in
            let so : r.tail.sound ≡ v.sound = ap (λ (y : Blob). y.sound) is in
            let a = first_room c (b * c.n) b r.stand.rows.low (b + p.more) (omega arith) in
            let en = r.ends in let sn = r.sound in let bn = r.bytes in
            let k = r.stand.rows.kept (b + p.more) v r.have g r.some_room (omega arith) in
            omega arith;
      })
      (remove_chain c enc (b - lo) lo (lo + more - b) l.start b (lo + more) l e q' (omega arith) (omega arith) (λ z. absurd (omega arith)) (omega arith)
      (inl (inl (record { lo = lo; more = more; sure = l.end; kept_sure = kept; standing = q.stand })))))
    where
      S : Disk → Type 0
      S = PruneStops c enc l (b * c.n)

      T : Disk → Type 0
      T = Trim c enc (moved l (b * c.n) l.end l.end l.far)

  pub trimmed_prune_chain : (l : Ledger R) (d : Disk) (b : ℕ) (t : Trim c enc l d) → l.start < b * c.n → b * c.n ≤ l.end
      → Chain (PruneStops c enc l (b * c.n)) (Trim c enc (moved l (b * c.n) l.end l.end l.far))
      (Open b ∷ (map Sync (numbers (insert b d.blobs)) ++ map Remove (up_to b (numbers d.blobs)))) d
  trimmed_prune_chain l d b t above under =
      let low = t.tied.stand.rows.low in
      let np : 0 < c.n = let x = low.from in let y = low.below in omega arith in
      let up : t.lo < b = lt_of_mul-lt-mul_right c.n (let x = low.from in omega arith) in
      let ab = all_below l d t.tied in
      let sn : suc (suc (t.lo + t.more)) * c.n ≡ (t.lo + t.more) * c.n + c.n + c.n = omega arith in
      let hi : b < suc (suc (t.lo + t.more)) = lt_of_mul-lt-mul_right c.n (omega arith) in
      let rm : up_to b (numbers d.blobs) ≡ count t.lo (b - t.lo) =
      ap (λ (r : List ℕ). up_to b r) (t.tied.stand.rows.listed ∙ ap (λ (k : ℕ). count t.lo k) (let q : suc t.more ≡ b - t.lo + (suc (t.lo + t.more) - b) = omega arith in q))
      ∙ up_to_row (b - t.lo) t.lo (suc (t.lo + t.more) - b) b (omega arith) in
      subst (λ (r : List ℕ). Chain S T (Open b ∷ (map Sync (numbers (insert b d.blobs)) ++ map Remove r)) d) (sym rm)
      (elim (cases_lt b (t.lo + suc t.more)) [
        | inl i ↦
            let same : insert b d.blobs ≡ d.blobs = insert_here d.blobs t.lo (suc t.more) b t.tied.stand.rows.listed (omega arith) i in
            let is : d ≡ done (Open b) d = λ k. record { blobs = sym same k; present = d.present; saved = d.saved } in
            let t1 : Tied c enc t.lo t.more (done (Open b) d) l None = subst (λ (e : Disk). Tied c enc t.lo t.more e l None) is t.tied in
            (plain S (Open b) d tt (safe d t.tied) (safe (done (Open b) d) t1), prune_rest l (done (Open b) d) b t1 up (omega arith) t.within)
        | inr i ↦
            let bt : b ≡ suc (t.lo + t.more) = omega arith in
            let bn : b * c.n ≡ suc (t.lo + t.more) * c.n = ap (λ (j : ℕ). j * c.n) bt in
            let full : l.end ≡ (t.lo + t.more) * c.n + c.n = omega arith in
            let opn : Tied c enc t.lo (suc t.more) (done (Open b) d) l (Some (t.lo + t.more)) = tied_open c enc zp ez l d b (t.lo + t.more) t.tied refl bt full in
            let paid : Tied c enc t.lo (suc t.more) (done (Open b) d) l None = tied_paid c enc l (done (Open b) d) (t.lo + t.more) opn (λ v g.
            let x = opn.full (t.lo + t.more) v g (omega arith) in
            let s = t.sealed full v (sym (find_insert_other b (t.lo + t.more) d.blobs (λ k. omega arith)) ∙ g) in omega arith) in
            let b2 : (t.lo + suc t.more) * c.n ≡ b * c.n = ap (λ (j : ℕ). j * c.n) (omega arith) in
            (plain S (Open b) d tt (safe d t.tied) (safe (done (Open b) d) paid), prune_rest l (done (Open b) d) b paid up (omega arith) (omega arith))
      ])
    where
      S : Disk → Type 0
      S = PruneStops c enc l (b * c.n)

      T : Disk → Type 0
      T = Trim c enc (moved l (b * c.n) l.end l.end l.far)

      safe : {lo more : ℕ} (e : Disk) → Tied c enc lo more e l None → S e
      safe e q = inl (inl (stands c enc e l q.stand))
