-- Publish, after the log is cut: all of it is synced, the tail is opened, and the log runs.
use Rattle.std.proofs.Common.{◌≡◌, ℕ, zero, suc, ◌+◌, ◌*◌, ◌<◌, ◌≤◌, min, Bool, true, false, cond, eqb, List, [], ◌∷◌, ◌++◌, map, length, Some, None, sym, refl, ap, ◌∙◌, subst, inl, inr, div-mul-le_self, arith}
use native.Mathlib.Nat.{lt-div-mul-add}
use Rattle.std.proofs.lemmas.Bool.{cases_lt, eq-eqb, and_from}
use Rattle.std.proofs.lemmas.Nat.{le-div, div_below}
use Rattle.store.specs.Disk.{Blob, Blobs, Disk, find, numbers, change, synced, Op, Open, Sync, done, insert}
use Rattle.store.specs.declared.keys.Keys.{Keys}
use Rattle.rules.specs.Rules.{Config, blob_of, persist, MAX}
use Rattle.rules.specs.Calls.{up_one_by_one, count}
use Rattle.ledger.specs.Ledger.{Ledger}
use Rattle.ledger.proofs.Blobs.{find_change, found_listed, find_insert_other, listed_find, numbers_insert_top, insert_here}
use Rattle.ledger.proofs.Invariant.{first_room, Standing, Rows, moved, SafeTo}
use Rattle.ledger.proofs.Chain.{Chain, Found, chain_then, plain}
use Rattle.ledger.proofs.Writes.{rows_far}
use Rattle.ledger.proofs.Commits.{tied_sync, Tied, tied_paid, Inside, SafeFor, Persisted, persist_rows}
use Rattle.ledger.proofs.Appends.{tied_open}

-- a row of syncs, over what every sync keeps
pub sync_rows : (S Q P : Disk → Type 0) → ((e : Disk) → P e → S e) → ((a : ℕ) (e : Disk) → P e → P (done (Sync a) e)) → (k a : ℕ) → ((j : ℕ) (f : Disk) → P f → a ≤ j → j < a + k → Found f.blobs j)
    → (ops : List Op) (e : Disk) → P e → SafeTo e.blobs a
    → ((f : Disk) → P f → SafeTo f.blobs (a + k) → Chain S Q ops f) → Chain S Q (map Sync (count a k) ++ ops) e
sync_rows S Q P safe keep zero a there ops e p t next = next e p (let z : a ≡ a + 0 = omega arith in subst (λ (j : ℕ). SafeTo e.blobs j) z t)
sync_rows S Q P safe keep (suc k) a there ops e p t next =
    let p1 = keep a e p in (
      plain S (Sync a) e (there a e p (omega arith) (omega arith)) (safe e p) (safe (done (Sync a) e) p1),
      sync_rows S Q P safe keep k (a + 1) (λ j f q h g. there j f q (omega arith) (omega arith)) ops (done (Sync a) e) p1 (safe_more a e t) (λ f q u. next f q (let z : a + 1 + k ≡ a + suc k = omega arith in subst (λ (j : ℕ). SafeTo f.blobs j) z u)),
    )
  where
    safe_more : (a : ℕ) (e : Disk) → SafeTo e.blobs a → SafeTo (change synced a e.blobs) (a + 1)
    safe_more a e t b x f h = elim (find_change synced a b e.blobs x f) [
      | inl o ↦ let q = o.1 in
          let s : x.sound ≡ q.0.sound = ap (λ (y : Blob). y.sound) q.2 in
          let u : x.safe ≡ q.0.sound = ap (λ (y : Blob). y.safe) q.2 in
          omega arith
      | inr o ↦ let n : a ≡ b → ⊥ = o.0 in t b x o.1 (omega arith)
    ]

one_by_one : (lo k b : ℕ) → b ≡ lo + k → up_one_by_one b (count lo (suc k)) ≡ true
one_by_one lo zero b h = eq-eqb lo b (omega arith)
one_by_one lo (suc k) b h = and_from (eqb (lo + 1) (lo + 1)) (up_one_by_one b (count (lo + 1) (suc k))) (eq-eqb (lo + 1) (lo + 1) refl) (one_by_one (lo + 1) k b (omega arith))

module _ {R : Type 0} (c : Config) (enc : R → List ℕ) (zp : 0 < c.z) (ez : (r : R) → length (enc r) ≡ c.z) (l : Ledger R) (size : ℕ) (from_start : l.start ≤ size) (to_far : size ≤ l.far) (fm : l.far ≤ MAX) where
  -- the ledger of a publish that is done, and of one that is stopped
  abbrev pub ran : Ledger R
  ran = moved l l.start size size size

  abbrev pub halted : Ledger R
  halted = moved l l.start l.end (min l.kept size) l.far

  abbrev S : Disk → Type 0
  S = SafeFor c enc halted

  far_again : {lo y : ℕ} (e : Disk) → Standing c enc lo y e ran → Rows c enc lo y e.blobs (moved l l.start l.end size l.far)
  far_again e w = rows_far c enc ran e.blobs l.far l.end w.rows to_far fm (λ b x m f q h. let i = (w.rows.held b x m f q h).inside in omega arith)

  pub safe_ran : {lo y : ℕ} (e : Disk) → Standing c enc lo y e ran → S e
  safe_ran {lo} {y} e w = inl (record {
    lo = lo;
    more = y;
    sure = size;
    kept_sure = omega arith;
    standing = record { rows = far_again e w; keys = let q = w.keys in record { target = q.target; mark = q.mark; marked = q.marked; mark_kept = q.mark_kept; hint = q.hint } };
  })

  abbrev pub TailSafe : ℕ → Disk → Type 0
  TailSafe b e = (t : Blob) → find e.blobs b ≡ Some t → t.sound ≤ t.safe

  tail_sync : (b a : ℕ) (e : Disk) → TailSafe b e → TailSafe b (done (Sync a) e)
  tail_sync b a e f t g = elim (find_change synced a b e.blobs t g) [
    | inl o ↦ let q = o.1 in
        let s : t.sound ≡ q.0.sound = ap (λ (v : Blob). v.sound) q.2 in
        let u : t.safe ≡ q.0.sound = ap (λ (v : Blob). v.safe) q.2 in
        omega arith
    | inr o ↦ f t o.1
  ]

  pub record Ran (lo : ℕ) (e : Disk) : Type 0 where
    pub more : ℕ
    pub tied : Tied c enc lo more e ran None
    pub inside : Inside c lo more ran

  module _ {lo y : ℕ} (e : Disk) (t : Tied c enc lo y e ran None) (ts : TailSafe (lo + y) e) (within : (lo + y) * c.n ≤ size) where
    abbrev b : ℕ
    b = blob_of c size

    np : 0 < c.n
    np = let x = t.stand.rows.low.from in let z = t.stand.rows.low.below in omega arith

    bounds : (size < b * c.n + c.n) × (b * c.n ≤ size) × (lo + y ≤ b) × (b ≤ suc (lo + y)) × (size ≤ (lo + y) * c.n + c.n)
    bounds =
        let u : size ≤ (lo + y) * c.n + c.n = let a = first_room c l.start lo t.stand.rows.low (lo + y) (omega arith) in let q = t.ends in let r = t.some_room in omega arith in (
          lt-div-mul-add {a = size} np,
          div-mul-le_self size c.n,
          le-div (lo + y) size c.n np within,
          (let q = div_below size c.n (suc (suc (lo + y))) np (let n = np in omega arith) in omega arith),
          u,
        )

    full_size : b ≡ suc (lo + y) → size ≡ (lo + y) * c.n + c.n
    full_size bt = let q = bounds in let n : b * c.n ≡ suc (lo + y) * c.n = ap (λ (j : ℕ). j * c.n) bt in omega arith

    -- the layout is as it should be
    pub in_line : up_one_by_one b (numbers (insert b e.blobs)) ≡ true
    in_line = elim (cases_lt b (lo + suc y)) [
      | inl i ↦
          let q = bounds in
          ap (λ (bs : Blobs). up_one_by_one b (numbers bs)) (insert_here e.blobs lo (suc y) b t.stand.rows.listed (omega arith) i)
          ∙ (ap (λ (r : List ℕ). up_one_by_one b r) t.stand.rows.listed ∙ one_by_one lo y b (omega arith))
      | inr i ↦
          let q = bounds in
          ap (λ (r : List ℕ). up_one_by_one b r) (numbers_insert_top e.blobs lo (suc y) b (omega arith) t.stand.rows.listed) ∙ one_by_one lo (suc y) b (omega arith)
    ]

    abbrev P : Disk → Type 0
    P f = Tied c enc lo y f ran None × TailSafe (lo + y) f

    open_tail : (f : Disk) → P f → Chain S (Ran lo) (Open b ∷ []) f
    open_tail f p = elim (cases_lt b (lo + suc y)) [
      | inl i ↦
          let q = bounds in
          let same : insert b f.blobs ≡ f.blobs = insert_here f.blobs lo (suc y) b p.0.stand.rows.listed (omega arith) i in
          let is : f ≡ done (Open b) f = λ k. record { blobs = sym same k; present = f.present; saved = f.saved } in
          let s : S f = safe_ran f p.0.stand in
          let bt : b * c.n ≡ (lo + y) * c.n = ap (λ (j : ℕ). j * c.n) (omega arith) in
          (plain S (Open b) f tt s (subst S is s), subst (Ran lo) is (record { more = y; tied = p.0; inside = omega arith }))
      | inr i ↦
          let q = bounds in
          let bt : b ≡ suc (lo + y) = omega arith in
          let opn : Tied c enc lo (suc y) (done (Open b) f) ran (Some (lo + y)) = tied_open c enc zp ez ran f b (lo + y) p.0 refl bt (full_size bt) in
          let n : b * c.n ≡ (lo + suc y) * c.n = ap (λ (j : ℕ). j * c.n) (omega arith) in (
            plain S (Open b) f tt (safe_ran f p.0.stand) (safe_ran (done (Open b) f) opn.stand),
            record {
              more = suc y;
              tied = tied_paid c enc ran (done (Open b) f) (lo + y) opn (λ v g.
                  let a = opn.full (lo + y) v g (omega arith) in
                  let s = p.1 v (sym (find_insert_other b (lo + y) f.blobs (λ k. omega arith)) ∙ g) in omega arith);
              inside = omega arith;
            },
          )
    ]

    -- synced and opened
    pub ran_chain : Chain S (Ran lo) (map Sync (numbers e.blobs) ++ (Open b ∷ [])) e
    ran_chain =
        subst (λ (r : List ℕ). Chain S (Ran lo) (map Sync r ++ (Open b ∷ [])) e) (sym t.stand.rows.listed)
        (sync_rows S (Ran lo) P (λ f p. safe_ran f p.0.stand) (λ a f p. (tied_sync c enc ran f None a p.0, tail_sync (lo + y) a f p.1)) (suc y) lo (λ j f p h g. listed_find f.blobs lo (suc y) j p.0.stand.rows.listed h g) (Open b ∷ []) e (t, ts)
        (λ i v f h. absurd (let a = found_listed e.blobs lo (suc y) i v t.stand.rows.listed f in omega arith))
        (λ f p u. open_tail f p))

  -- the watermark is raised to the end
  pub raise_chain : (lo : ℕ) (u : Bool) (e : Disk) → Ran lo e → Chain S (Ran lo) (cond u (persist c l.start size) []) e
  raise_chain lo false e k = k
  raise_chain lo true e k =
      chain_then S (Persisted c enc lo k.more e (moved halted l.start l.end size l.far)) (Ran lo) (persist c l.start size) e
      (λ a p. record {
        more = k.more;
        inside = k.inside;
        tied = let t = k.tied in let q = p.stand.keys in record {
          stand = record { rows = rw p.same t.stand.rows; keys = record { target = q.target; mark = q.mark; marked = q.marked; mark_kept = q.mark_kept; hint = q.hint } };
          whole = t.whole;
          have = t.have;
          ends = t.ends;
          some_room = t.some_room;
          tail = t.tail;
          found = rw p.same t.found;
          sound = t.sound;
          bytes = t.bytes;
          full = rw p.same t.full;
          safe = rw p.same t.safe;
          owed_below = t.owed_below;
          now_saved = sym p.saved;
        };
      })
      (persist_rows c enc halted e size size (omega arith) (omega arith) (ap (λ (j : Keys). j.target) k.tied.now_saved ∙ k.tied.stand.keys.target) (safe_ran e k.tied.stand) (far_again e k.tied.stand))
