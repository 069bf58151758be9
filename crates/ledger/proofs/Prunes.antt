-- The running log's prune: commit, and then the blobs below the new start, lowest first.
use Rattle.std.proofs.Common.{◌≡◌, ℕ, zero, suc, ◌+◌, ◌-◌, ◌*◌, ◌%◌, ◌<◌, ◌≤◌, ◌⊎◌, List, ◌++◌, map, Some, None, Option, sym, refl, ap, ◌∙◌, subst, inl, inr, arith}
use native.Mathlib.Nat.{mul-add-mod_self_right, mod_self}
use Rattle.store.specs.Disk.{Blob, Disk, find, Op, Remove, done, without}
use Rattle.rules.specs.Rules.{Config}
use Rattle.rules.specs.Calls.{committing, count}
use Rattle.ledger.specs.Ledger.{Ledger}
use Rattle.ledger.proofs.Blobs.{impossible, found_listed, listed_find, find_without_other}
use Rattle.ledger.proofs.Invariant.{first, room, blob_first, stands, Safe, moved, first_later, room_later, rows_apart}
use Rattle.ledger.proofs.Writes.{standing_remove_low}
use Rattle.ledger.proofs.Chain.{Chain, chain_append, chain_then, plain, chain_stop}
use Rattle.ledger.proofs.Commits.{Tied, Inside, SafeFor, commit_chain}

module _ {R : Type 0} (c : Config) (enc : R → List ℕ) where
  pub tied_remove_low : {lo more : ℕ} (l : Ledger R) (d : Disk) → Tied c enc lo (suc more) d l None → lo * c.n + c.n ≤ l.kept
      → Tied c enc (lo + 1) more (done (Remove lo) d) (moved l (lo * c.n + c.n) l.end l.kept l.far) None
  tied_remove_low {lo} {more} l d r gone =
      let low = r.stand.rows.low in
      let top : lo + suc more ≡ lo + 1 + more = omega arith in
      let ft : first c (lo * c.n + c.n) (lo + 1 + more) ≡ first c l.start (lo + suc more) =
      first_later c l.start lo low (lo + 1 + more) (omega arith) ∙ ap (λ (j : ℕ). first c l.start j) (sym top) in
      let rt : room c (lo * c.n + c.n) (lo + 1 + more) ≡ room c l.start (lo + suc more) =
      room_later c l.start lo low (lo + 1 + more) (omega arith) ∙ ap (λ (j : ℕ). room c l.start j) (sym top) in
      let st = standing_remove_low c enc l d r.stand l.end gone in
      let above : (b : ℕ) (x : Blob) → find (without lo d.blobs) b ≡ Some x → lo < b =
      λ b x e. let at = found_listed (without lo d.blobs) (lo + 1) (suc more) b x st.rows.listed e in omega arith in
      let old : (b : ℕ) (x : Blob) → find (without lo d.blobs) b ≡ Some x → find d.blobs b ≡ Some x =
      λ b x e. let a = above b x e in sym (find_without_other lo b d.blobs (λ i. omega arith)) ∙ e in
      record {
        stand = st;
        whole = r.whole;
        have = r.have;
        ends = let e = r.ends in omega arith;
        some_room = let e = r.some_room in omega arith;
        tail = r.tail;
        found = subst (λ (j : ℕ). find (without lo d.blobs) j ≡ Some r.tail) top (find_without_other lo (lo + suc more) d.blobs (λ i. omega arith) ∙ r.found);
        sound = r.sound;
        bytes = r.bytes;
        full = λ b x e h. rw (room_later c l.start lo low b (above b x e)) (r.full b x (old b x e) (omega arith));
        safe = λ b x e h. rw (room_later c l.start lo low b (above b x e)) (r.safe b x (old b x e) (omega arith));
        owed_below = λ k e. impossible cc;
        now_saved = r.now_saved;
      }

  -- where a prune may stop: the ledger as it was, or with a start further up
  pub record PrunedTo (l : Ledger R) (most : ℕ) (d : Disk) (s : ℕ) : Type 0 where
    pub aligned : s % c.n ≡ 0
    pub above : l.start < s
    pub within : s ≤ most
    pub safe : Safe c enc d (moved l s l.end l.end l.far)

  abbrev pub PruneStops : Ledger R → ℕ → Disk → Type 0
  PruneStops l most d = Safe c enc d l ⊎ ((s : ℕ) × PrunedTo l most d s)

  pub record Pruned (l : Ledger R) (hi b : ℕ) (d : Disk) : Type 0 where
    pub more : ℕ
    pub tied : Tied c enc b more d (moved l (b * c.n) l.end l.end l.far) None
    pub top : b + more ≡ hi

  pub remove_chain : (k lo more s b hi : ℕ) (l : Ledger R) (d : Disk) → Tied c enc lo (k + more) d (moved l s l.end l.end l.far) None
      → lo + (k + more) ≡ hi → b ≡ lo + k → (k ≡ 0 → s ≡ lo * c.n) → l.start ≤ s → PruneStops l (b * c.n) d
      → Chain (PruneStops l (b * c.n)) (Pruned l hi b) (map Remove (count lo k)) d
  remove_chain zero lo more s b hi l d t i e z g h =
      let m : zero + more ≡ more = omega arith in
      let q : b ≡ lo = omega arith in
      let sb : s ≡ b * c.n = z refl ∙ ap (λ (j : ℕ). j * c.n) (sym q) in
      record {
        more = zero + more;
        tied = rw (← sb, q) t;
        top = omega arith;
      }
  remove_chain (suc k) lo more s b hi l d t i e z g h =
      let sk : suc k + more ≡ suc (k + more) = omega arith in
      let t' : Tied c enc lo (suc (k + more)) d (moved l s l.end l.end l.far) None =
      subst (λ (j : ℕ). Tied c enc lo j d (moved l s l.end l.end l.far) None) sk t in
      let low = t'.stand.rows.low in
      let f = blob_first c s lo low (lo + suc (k + more)) in
      let en = t'.ends in
      let gone : lo * c.n + c.n ≤ l.end = omega (arith, rows_apart c.n lo (lo + suc (k + more)) (omega arith)) in
      let t1 = tied_remove_low (moved l s l.end l.end l.far) d t' gone in
      let tn : (lo + (suc k + more)) * c.n ≡ (lo + 1 + (k + more)) * c.n = ap (λ (j : ℕ). j * c.n) (omega arith) in
      let up : l.start < lo * c.n + c.n = let a = low.below in omega arith in
      let st : PruneStops l (b * c.n) (done (Remove lo) d) = inr (
        lo * c.n + c.n,
        record {
          aligned = mul-add-mod_self_right lo c.n c.n ∙ mod_self c.n;
          above = up;
          within = rows_apart c.n lo b (omega arith);
          safe = inl (stands c enc (done (Remove lo) d) (moved l (lo * c.n + c.n) l.end l.end l.far) t1.stand);
        },
      ) in (
        plain (PruneStops l (b * c.n)) (Remove lo) d (listed_find d.blobs lo (suc (suc (k + more))) lo t'.stand.rows.listed (omega arith) (omega arith)) h st,
        remove_chain k (lo + 1) more (lo * c.n + c.n) b hi l (done (Remove lo) d) t1 (omega arith) (omega arith) (λ y. omega arith) (omega arith) st,
      )

  -- from a running log whose lowest blob is lo, up to a blob b that stays
  pub prune_chain : {lo more : ℕ} (l : Ledger R) (d : Disk) (o : Option ℕ) (b : ℕ) → Tied c enc lo more d l o → Inside c lo more l → lo < b → b ≤ lo + more
      → Chain (PruneStops l (b * c.n)) (Pruned l (lo + more) b) (committing c (record { start = l.start; end = l.end; owed = o }) ++ map Remove (count lo (b - lo))) d
  prune_chain {lo} {more} l d o b t i up within =
      let m : Ledger R = moved l l.start l.end l.end l.far in
      let kept : l.kept ≤ l.end = let a = t.stand.rows.kept_far in let f = t.whole in omega arith in
      let ops : List Op = committing c (record { start = l.start; end = l.end; owed = o }) in
      let S : Disk → Type 0 = PruneStops l (b * c.n) in
      chain_append S (Pruned l (lo + more) b) ops (map Remove (count lo (b - lo))) d
      (chain_stop (SafeFor c enc l) S (λ e. Chain S (Pruned l (lo + more) b) (map Remove (count lo (b - lo))) e) ops d (λ e w. inl w)
      (chain_then (SafeFor c enc l) (λ e. Tied c enc lo more e m None) (λ e. Chain S (Pruned l (lo + more) b) (map Remove (count lo (b - lo))) e) ops d
      (λ e q.
      let mk : more ≡ b - lo + (lo + more - b) = omega arith in
      let q' : Tied c enc lo (b - lo + (lo + more - b)) e m None = subst (λ (j : ℕ). Tied c enc lo j e m None) mk q in
      remove_chain (b - lo) lo (lo + more - b) l.start b (lo + more) l e q' (omega arith) (omega arith) (λ z. absurd (omega arith)) (omega arith)
      (inl (inl (record { lo = lo; more = more; sure = l.end; kept_sure = kept; standing = q.stand }))))
      (commit_chain c enc l d l.start o t i)))
