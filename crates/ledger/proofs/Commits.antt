-- The running log: what ties it to the disk and the ledger, and what its calls leave.
use Rattle.std.proofs.Common.{◌≡◌, ℕ, suc, ◌+◌, ◌*◌, ◌%◌, ◌<◌, ◌≤◌, Bool, true, false, cond, ◌⊎◌, List, [], ◌∷◌, ◌++◌, length, Some, None, Option, sym, refl, ap, ◌∙◌, subst, inl, inr, mul-le-mul_right, arith}
use Rattle.std.proofs.lemmas.Bool.{cases_eq, cases_lt, eqb-true}
use Rattle.store.specs.declared.keys.Key.{Key}
use Rattle.store.specs.declared.keys.Key.TheVariants.{Hint, Watermark}
use Rattle.store.specs.Disk.{Blob, Disk, find, change, synced, Sync, Put, DropKey, SyncKeys, done}
use Rattle.store.specs.declared.keys.Keys.{Keys}
use Rattle.rules.specs.Rules.{Config, blob_of, aligned, persist}
use Rattle.rules.specs.Calls.{committing}
use Rattle.ledger.specs.Ledger.{Ledger}
use Rattle.ledger.proofs.Blobs.{impossible, find_change, find_change_same, find_change_other, found_listed, listed_find}
use Rattle.ledger.proofs.Invariant.{first, room, blob_is, first_room, HintStands, Standing, stands, Safe, Rows, moved}
use Rattle.ledger.proofs.Writes.{standing_sync, standing_kept}
use Rattle.ledger.proofs.Chain.{Chain, chain_append, chain_then, plain}

pub record Tied {R : Type 0} (c : Config) (enc : R → List ℕ) (lo more : ℕ) (d : Disk) (l : Ledger R) (owed : Option ℕ) : Type 0 where
  pub stand : Standing c enc lo more d l
  pub whole : l.far ≡ l.end
  -- the highest blob holds the end
  pub have : ℕ
  pub ends : l.end ≡ first c l.start (lo + more) + have
  pub some_room : have ≤ room c l.start (lo + more)
  pub tail : Blob
  pub found : find d.blobs (lo + more) ≡ Some tail
  pub sound : tail.sound ≡ length tail.bytes
  pub bytes : length tail.bytes ≡ have * c.z
  -- those below it are full, and safe but for the one that is owed
  pub full : (b : ℕ) (x : Blob) → find d.blobs b ≡ Some x → b < lo + more → room c l.start b * c.z ≤ x.sound
  pub safe : (b : ℕ) (x : Blob) → find d.blobs b ≡ Some x → b < lo + more → (owed ≡ Some b) ⊎ (room c l.start b * c.z ≤ x.safe)
  pub owed_below : (b : ℕ) → owed ≡ Some b → (suc b ≡ lo + more) × (lo ≤ b)
  pub now_saved : d.present ≡ d.saved

-- where the highest blob has room for the next record
abbrev pub Inside : {R : Type 0} → Config → ℕ → ℕ → Ledger R → Type 0
Inside c lo more l = l.end < (lo + more) * c.n + c.n

module _ {R : Type 0} (c : Config) (enc : R → List ℕ) where
  abbrev pub SafeFor : Ledger R → Disk → Type 0
  SafeFor l d = Safe c enc d l

  -- a blob that is not below the highest is it
  pub tied_top : {lo more : ℕ} (l : Ledger R) (d : Disk) (o : Option ℕ) (r : Tied c enc lo more d l o) (b : ℕ) (x : Blob) → find d.blobs b ≡ Some x → lo + more ≤ b → (lo + more ≡ b) × (r.tail ≡ x)
  tied_top {lo} {more} l d o r b x f i =
      let a = found_listed d.blobs lo (suc more) b x r.stand.rows.listed f in
      let e : lo + more ≡ b = omega arith in
      (e, cc (r.found, f))

  -- all that is below the end is sound
  pub tied_covers : {lo more : ℕ} (l : Ledger R) (d : Disk) (o : Option ℕ) → Tied c enc lo more d l o → (b : ℕ) (x : Blob) (m : ℕ) → find d.blobs b ≡ Some x
      → m ≤ room c l.start b → first c l.start b + m ≤ l.end → m * c.z ≤ x.sound
  tied_covers {lo} {more} l d o r b x m f h g = elim (cases_lt b (lo + more)) [
    | inl i ↦ let a = r.full b x f i in let u = mul-le-mul_right c.z h in omega arith
    | inr i ↦
        let q = tied_top l d o r b x f i in
        let en = r.ends in let sn = r.sound in let bn = r.bytes in
        let fk : first c l.start (lo + more) ≡ first c l.start b = ap (λ (j : ℕ). first c l.start j) q.0 in
        let so : r.tail.sound ≡ x.sound = ap (λ (y : Blob). y.sound) q.1 in
        let mh : m ≤ r.have = omega arith in
        let mz = mul-le-mul_right c.z mh in
        omega arith
  ]

  -- commit ------------------------------------------------------------------------------------

  -- any sync: the log runs on
  pub tied_sync : {lo more : ℕ} (l : Ledger R) (d : Disk) (o : Option ℕ) (b : ℕ) → Tied c enc lo more d l o → Tied c enc lo more (done (Sync b) d) l o
  tied_sync {lo} {more} l d ow b r = record {
    stand = standing_sync c enc l d r.stand b;
    whole = r.whole;
    have = r.have;
    ends = r.ends;
    some_room = r.some_room;
    tail = at.0;
    found = at.1;
    sound = at.2;
    bytes = at.3;
    full = λ k x e h. elim (find_change synced b k d.blobs x e) [
      | inl o ↦ let q = o.1 in let f = r.full k q.0 q.1 h in let s : x.sound ≡ q.0.sound = ap (λ (y : Blob). y.sound) q.2 in omega arith
      | inr o ↦ r.full k x o.1 h
    ];
    safe = λ k x e h. elim (find_change synced b k d.blobs x e) [
      | inl o ↦ let q = o.1 in let f = r.full k q.0 q.1 h in let s : x.safe ≡ q.0.sound = ap (λ (y : Blob). y.safe) q.2 in inr (omega arith)
      | inr o ↦ r.safe k x o.1 h
    ];
    owed_below = r.owed_below;
    now_saved = r.now_saved;
  }
    where
      at : (t : Blob) × (find (change synced b d.blobs) (lo + more) ≡ Some t) × (t.sound ≡ length t.bytes) × (length t.bytes ≡ r.have * c.z)
      at = elim (cases_eq b (lo + more)) [
        | inl e ↦ (synced r.tail, subst (λ (k : ℕ). find (change synced b d.blobs) k ≡ Some (synced r.tail)) e (find_change_same synced b d.blobs r.tail (rw e r.found)), r.sound, r.bytes)
        | inr e ↦ (r.tail, find_change_other synced b (lo + more) d.blobs e ∙ r.found, r.sound, r.bytes)
      ]

  pub end_top : {lo more : ℕ} (l : Ledger R) (d : Disk) (o : Option ℕ) → Tied c enc lo more d l o → Inside c lo more l → blob_of c l.end ≡ lo + more
  end_top {lo} {more} l d o r i = let e = r.ends in let a = first_room c l.start lo r.stand.rows.low (lo + more) (omega arith) in blob_is c l.start lo r.stand.rows.low (lo + more) l.end (omega arith) (omega arith) (omega arith)

  -- once the owed blob is synced, none is owed
  pub tied_owed : {lo more : ℕ} (l : Ledger R) (d : Disk) (b : ℕ) → Tied c enc lo more d l (Some b) → Tied c enc lo more (done (Sync b) d) l None
  tied_owed {lo} {more} l d b r =
      let n = tied_sync l d (Some b) b r in
      record {
        stand = n.stand;
        whole = n.whole;
        have = n.have;
        ends = n.ends;
        some_room = n.some_room;
        tail = n.tail;
        found = n.found;
        sound = n.sound;
        bytes = n.bytes;
        full = n.full;
        safe = λ k x e h. elim (find_change synced b k d.blobs x e) [
          | inl o ↦ let q = o.1 in let f = r.full k q.0 q.1 h in let s : x.safe ≡ q.0.sound = ap (λ (y : Blob). y.safe) q.2 in inr (omega arith)
          | inr o ↦ elim (r.safe k x o.1 h) [
            | inl t ↦ absurd (o.0 cc)
            | inr t ↦ inr t
          ]
        ];
        owed_below = λ k e. impossible cc;
        now_saved = n.now_saved;
      }

  -- an owed blob that is safe after all
  pub tied_paid : {lo more : ℕ} (l : Ledger R) (d : Disk) (o : ℕ) → Tied c enc lo more d l (Some o) → ((x : Blob) → find d.blobs o ≡ Some x → room c l.start o * c.z ≤ x.safe) → Tied c enc lo more d l None
  tied_paid l d o n paid = record {
    stand = n.stand;
    whole = n.whole;
    have = n.have;
    ends = n.ends;
    some_room = n.some_room;
    tail = n.tail;
    found = n.found;
    sound = n.sound;
    bytes = n.bytes;
    full = n.full;
    safe = λ k x e h. elim (n.safe k x e h) [
      | inl t ↦ let i : o ≡ k = cc in inr (subst (λ (j : ℕ). room c l.start j * c.z ≤ x.safe) i (paid x (ap (λ (j : ℕ). find d.blobs j) i ∙ e)))
      | inr t ↦ inr t
    ];
    owed_below = λ k e. impossible cc;
    now_saved = n.now_saved;
  }

  -- all is safe once the highest is synced too: the whole log is kept
  pub tied_commit : {lo more : ℕ} (l : Ledger R) (d : Disk) (b : ℕ) (r : Tied c enc lo more d l None) → b ≡ lo + more → Tied c enc lo more (done (Sync b) d) (moved l l.start l.end l.end l.far) None
  tied_commit {lo} {more} l d b r bt =
      let n = tied_sync l d None b r in
      let up : l.kept ≤ l.end = let a = r.stand.rows.kept_far in let f = r.whole in omega arith in
      let to : l.end ≤ l.far = let f = r.whole in omega arith in
      let low = r.stand.rows.low in
      let rm = first_room c l.start (lo) low (lo + more) (omega arith) in
      let high : l.end ≤ (lo + more) * c.n + c.n = let e = r.ends in let s = r.some_room in omega arith in
      record {
        stand = standing_kept c enc l (done (Sync b) d) n.stand l.end l.end up to high (λ k x m e h g.
            elim (cases_lt k (lo + more)) [
              | inl i ↦ elim (n.safe k x e i) [
                | inl t ↦ impossible cc
                | inr t ↦ let u = mul-le-mul_right c.z h in omega arith
              ]
              | inr i ↦ tail_safe k x m e i h g
            ]);
        whole = n.whole;
        have = n.have;
        ends = n.ends;
        some_room = n.some_room;
        tail = n.tail;
        found = n.found;
        sound = n.sound;
        bytes = n.bytes;
        full = n.full;
        safe = n.safe;
        owed_below = n.owed_below;
        now_saved = n.now_saved;
      }
    where
      tail_safe : (k : ℕ) (x : Blob) (m : ℕ) → find (change synced b d.blobs) k ≡ Some x → lo + more ≤ k → m ≤ room c l.start k → first c l.start k + m ≤ l.end → m * c.z ≤ x.safe
      tail_safe k x m e i h g =
          let n = tied_sync l d None b r in
          let at = found_listed (change synced b d.blobs) lo (suc more) k x n.stand.rows.listed e in
          let kt : lo + more ≡ k = omega arith in
          let fk : first c l.start (lo + more) ≡ first c l.start k = ap (λ (j : ℕ). first c l.start j) kt in
          let s : find (change synced b d.blobs) k ≡ Some (synced r.tail) =
          subst (λ (j : ℕ). find (change synced b d.blobs) j ≡ Some (synced r.tail)) (bt ∙ kt) (find_change_same synced b d.blobs r.tail (rw bt r.found)) in
          let xs : x ≡ synced r.tail = cc (e, s) in
          let xf : x.safe ≡ r.tail.sound = ap (λ (y : Blob). y.safe) xs in
          let en = r.ends in
          let mh : m ≤ r.have = omega arith in
          let mz = mul-le-mul_right c.z mh in
          let sn = r.sound in
          let bn = r.bytes in
          omega arith

  -- committing, call by call
  commit_none : {lo more : ℕ} (l : Ledger R) (d : Disk) (s : ℕ) → Tied c enc lo more d l None → Inside c lo more l
      → Chain (SafeFor l) (λ e. Tied c enc lo more e (moved l l.start l.end l.end l.far) None) (committing c (record { start = s; end = l.end; owed = None })) d
  commit_none {lo} {more} l d s r i = (
    plain (SafeFor l) (Sync (blob_of c l.end)) d (r.tail, ap (λ (j : ℕ). find d.blobs j) (end_top l d None r i) ∙ r.found) (inl (stands c enc d l r.stand)) (inl (stands c enc (done (Sync (blob_of c l.end)) d) l (standing_sync c enc l d r.stand (blob_of c l.end)))),
    tied_commit l d (blob_of c l.end) r (end_top l d None r i),
  )

  pub commit_chain : {lo more : ℕ} (l : Ledger R) (d : Disk) (s : ℕ) (o : Option ℕ) → Tied c enc lo more d l o → Inside c lo more l
      → Chain (SafeFor l) (λ e. Tied c enc lo more e (moved l l.start l.end l.end l.far) None) (committing c (record { start = s; end = l.end; owed = o })) d
  commit_chain {lo} {more} l d s None r i = commit_none l d s r i
  commit_chain {lo} {more} l d s (Some b) r i =
      let n = tied_owed l d b r in
      (plain (SafeFor l) (Sync b) d (let u = r.owed_below b refl in listed_find d.blobs lo (suc more) b r.stand.rows.listed (omega arith) (omega arith)) (inl (stands c enc d l r.stand)) (inl (stands c enc (done (Sync b) d) l n.stand)), commit_none l (done (Sync b) d) s n i)

  -- the keys ----------------------------------------------------------------------------------

  -- only the blobs and the saved keys count
  pub safe_same : (l : Ledger R) (d e : Disk) → e.blobs ≡ d.blobs → e.saved ≡ d.saved → Safe c enc d l → Safe c enc e l
  safe_same l d e p q (inl w) = inl (record {
    lo = w.lo;
    more = w.more;
    sure = w.sure;
    kept_sure = w.kept_sure;
    standing = record { rows = rw p w.standing.rows; keys = rw q w.standing.keys };
  })
  safe_same l d e p q (inr (inl w)) = inr (inl (record {
    none = p ∙ w.none;
    start_zero = w.start_zero;
    kept_zero = w.kept_zero;
    target = rw q w.target;
    marked = rw q w.marked;
    hint = rw q w.hint;
  }))
  safe_same l d e p q (inr (inr w)) = inr (inr (record {
    goal = w.goal;
    target = rw q w.target;
    at_start = w.at_start;
    at_end = w.at_end;
    at_kept = w.at_kept;
    at_far = w.at_far;
    most = w.most;
  }))

  pub safe_put : (l : Ledger R) (d : Disk) (k : Key) (n : ℕ) → Safe c enc d l → Safe c enc (done (Put k n) d) l
  safe_put l d k n w = safe_same l d (done (Put k n) d) refl refl w

  pub safe_drop : (l : Ledger R) (d : Disk) (k : Key) → Safe c enc d l → Safe c enc (done (DropKey k) d) l
  safe_drop l d k w = safe_same l d (done (DropKey k) d) refl refl w

  pub record Persisted (lo more : ℕ) (d : Disk) (l : Ledger R) (e : Disk) : Type 0 where
    pub same : e.blobs ≡ d.blobs
    pub stand : Standing c enc lo more e l
    pub target : e.present.target ≡ None
    pub saved : e.saved ≡ e.present

  -- the keys are saved once all below the mark is sure, whatever the ledger has as kept, and whatever the old mark was
  pub persist_rows : {lo more : ℕ} (l : Ledger R) (d : Disk) (k mark : ℕ) → l.kept ≤ k → mark ≤ k → d.present.target ≡ None
      → Safe c enc d l → Rows c enc lo more d.blobs (moved l l.start l.end k l.far)
      → Chain (SafeFor l) (Persisted lo more d (moved l l.start l.end k l.far)) (persist c l.start mark) d
  persist_rows {lo} {more} l d k mark up under free sure w = go (aligned c l.start) refl
    where
      m : Ledger R
      m = moved l l.start l.end k l.far

      -- the last two calls, on a disk e of the same blobs and saved keys
      last : (e : Disk) → e.blobs ≡ d.blobs → e.saved ≡ d.saved → e.present.target ≡ None → HintStands c l.start e.present.hint
          → Chain (SafeFor l) (Persisted lo more d m) (Put Watermark mark ∷ (SyncKeys ∷ [])) e
      last e p q t h =
          let s = safe_same l d e p q sure in
          let s' = safe_put l e Watermark mark s in
          let st : Standing c enc lo more (done SyncKeys (done (Put Watermark mark) e)) m =
          record { rows = rw p w; keys = record { target = t; mark = mark; marked = refl; mark_kept = under; hint = h } } in (
            plain (SafeFor l) (Put Watermark mark) e tt s s',
            (
              plain (SafeFor l) SyncKeys (done (Put Watermark mark) e) tt s' (inl (record { lo = lo; more = more; sure = k; kept_sure = up; standing = st })),
              record { same = p; stand = st; target = t; saved = refl },
            ),
          )

      go : (t : Bool) → aligned c l.start ≡ t → Chain (SafeFor l) (Persisted lo more d m) (cond t (DropKey Hint) (Put Hint l.start) ∷ (Put Watermark mark ∷ (SyncKeys ∷ []))) d
      go true e = (plain (SafeFor l) (DropKey Hint) d tt sure (safe_drop l d Hint sure), last (done (DropKey Hint) d) refl refl free (inr (eqb-true (l.start % c.n) 0 e, inl refl)))
      go false e = (plain (SafeFor l) (Put Hint l.start) d tt sure (safe_put l d Hint l.start sure), last (done (Put Hint l.start) d) refl refl free (inl refl))

  pub persist_chain : {lo more : ℕ} (l : Ledger R) (d : Disk) (k mark : ℕ) → l.kept ≤ k → mark ≤ k → d.present.target ≡ None
      → Standing c enc lo more d (moved l l.start l.end k l.far)
      → Chain (SafeFor l) (Persisted lo more d (moved l l.start l.end k l.far)) (persist c l.start mark) d
  persist_chain {lo} {more} l d k mark up under free w =
      persist_rows l d k mark up under free (inl (record { lo = lo; more = more; sure = k; kept_sure = up; standing = w })) w.rows

  pub tied_persisted : {lo more : ℕ} (l : Ledger R) (d e : Disk) (o : Option ℕ) → Tied c enc lo more d l o → Persisted lo more d l e → Tied c enc lo more e l o
  tied_persisted l d e o r p = record {
    stand = p.stand;
    whole = r.whole;
    have = r.have;
    ends = r.ends;
    some_room = r.some_room;
    tail = r.tail;
    found = rw p.same r.found;
    sound = r.sound;
    bytes = r.bytes;
    full = rw p.same r.full;
    safe = rw p.same r.safe;
    owed_below = r.owed_below;
    now_saved = sym p.saved;
  }

  -- sync: commit, and then the keys
  pub sync_chain : {lo more : ℕ} (l : Ledger R) (d : Disk) (o : Option ℕ) → Tied c enc lo more d l o → Inside c lo more l
      → Chain (SafeFor l) (λ e. Tied c enc lo more e (moved l l.start l.end l.end l.far) None)
      (committing c (record { start = l.start; end = l.end; owed = o }) ++ persist c l.start l.end) d
  sync_chain {lo} {more} l d o r i =
      let m : Ledger R = moved l l.start l.end l.end l.far in
      let up : l.kept ≤ l.end = let a = r.stand.rows.kept_far in let f = r.whole in omega arith in
      chain_append (SafeFor l) (λ e. Tied c enc lo more e m None) (committing c (record { start = l.start; end = l.end; owed = o })) (persist c l.start l.end) d
      (chain_then (SafeFor l) (λ e. Tied c enc lo more e m None) (λ e. Chain (SafeFor l) (λ a. Tied c enc lo more a m None) (persist c l.start l.end) e)
      (committing c (record { start = l.start; end = l.end; owed = o })) d
      (λ e q. chain_then (SafeFor l) (Persisted lo more e m) (λ a. Tied c enc lo more a m None) (persist c l.start l.end) e
      (λ a p. tied_persisted m e a None q p)
      (persist_chain l e l.end l.end up (omega arith) (ap (λ (k : Keys). k.target) q.now_saved ∙ q.stand.keys.target) q.stand))
      (commit_chain l d l.start o r i))
