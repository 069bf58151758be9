-- A log with no blobs.
use Rattle.std.proofs.Common.{◌≡◌, ℕ, ◌+◌, ◌-◌, ◌*◌, ◌/◌, ◌%◌, ◌<◌, ◌≤◌, min, Bool, true, false, cond, not, ◌&&◌, eqb, ltb, leb, List, [], ◌∷◌, ◌++◌, map, reverse, length, Some, None, Option, sym, refl, ap, ◌∙◌, subst, inl, inr, div-mul-le_self, arith}
use native.Mathlib.Nat.{zero-mod}
use Rattle.std.specs.List.{flat_map}
use Rattle.std.proofs.lemmas.Bool.{eqb-true, cases_Bool, cond-true, cond-false, eq-eqb, le-ltb, and_parts, and_right, and_left, not_from_true, le-leb, lt-leb}
use Rattle.std.proofs.lemmas.List.{append-nil}
use Rattle.store.specs.declared.keys.Key.TheVariants.{Hint, Watermark}
use Rattle.store.specs.Disk.{Blobs, Disk, find, numbers, Op, Open, Append, Sync, Remove, Put, DropKey, SyncKeys, done, done_all, blank, insert}
use Rattle.store.specs.declared.keys.Keys.{Keys}
use Rattle.rules.specs.Rules.{Config, blob_of, aligned, persist, first_in, MAX, Plan, answer, calls, refuse_if, ItemPruned, ask, Layout, SizeOverflow}
use Rattle.rules.specs.Calls.{Running, keys_first, same, has, anchored, anchor, goes, last_blob, truncating, open_if, publish_rule, up_one_by_one, truncate_rule, truncated, trimmed_append_rule, trimmed_sync_rule, trimmed_prune_rule}
use Rattle.rules.specs.Open.{Opened, no_edge}
use Rattle.ledger.specs.History.{Prune}
use Rattle.ledger.specs.Ledger.{Ledger, appended, entry, prune_to}
use Rattle.ledger.proofs.Blobs.{impossible}
use Rattle.ledger.proofs.Invariant.{first, HintFree, Standing, stands, Empty, Safe, moved, first_low}
use Rattle.ledger.proofs.Chain.{Chain, chain_append, chain_then, plain, chain_end}
use Rattle.ledger.proofs.Commits.{Tied, SafeFor, safe_same, safe_put, safe_drop}
use Rattle.ledger.proofs.Clears.{rows_blank, one_found}
use Rattle.ledger.proofs.Plans.{Leads, leads_unless, leads_calls}
use Rattle.ledger.proofs.Trimmeds.{Trim, KeptAll, safe_ahead, in_blob}
use Rattle.ledger.proofs.Recovers.{TrimAs, RunAs}

-- a disk with no blobs, whose keys say so
pub record Blank {R : Type 0} (c : Config) (l : Ledger R) (e : Disk) : Type 0 where
  pub empty : Empty c e l
  pub marked : e.saved.watermark ≡ Some 0
  pub now : e.present ≡ e.saved

-- an opened log with no blobs
pub record Bare {R : Type 0} (c : Config) (l : Ledger R) (o : Opened) (e : Disk) : Type 0 where
  pub empty : Empty c e l
  pub far : l.far ≡ 0
  pub start : o.start ≡ 0
  pub end : o.end ≡ 0
  pub now : e.present ≡ e.saved

-- a trimmed log with no blobs
pub record BlankAs {R : Type 0} (c : Config) (l : Ledger R) (o : Opened) (e : Disk) : Type 0 where
  pub blank : Blank c l e
  pub far : l.far ≡ 0
  pub ends : l.end ≡ 0
  pub start : o.start ≡ 0
  pub end : o.end ≡ 0
  pub mark : o.mark ≡ 0
  pub edge : o.edge ≡ no_edge

pub blank_bare : {R : Type 0} (c : Config) (l : Ledger R) (o : Opened) (e : Disk) → BlankAs c l o e → Bare c l o e
blank_bare c l o e b = record { empty = b.blank.empty; far = b.far; start = b.start; end = b.end; now = b.blank.now }

-- only the ledger's start and kept end count
pub empty_as : {R : Type 0} (c : Config) (l m : Ledger R) (e : Disk) → m.start ≡ 0 → m.kept ≡ 0 → Empty c e l → Empty c e m
empty_as c l m e s k w = record { none = w.none; start_zero = s; kept_zero = k; target = w.target; marked = w.marked; hint = w.hint }

module _ {R : Type 0} (c : Config) (enc : R → List ℕ) (np : 0 < c.n) (zp : 0 < c.z) (ez : (r : R) → length (enc r) ≡ c.z) where
  module _ (l : Ledger R) (far : l.far ≡ 0) where
    abbrev S : Disk → Type 0
    S e = Safe c enc e l

    abbrev B : Disk → Type 0
    B e = Blank c l e

    zero_aligned : 0 % c.n ≡ 0
    zero_aligned = zero-mod c.n

    pub empty_persist : (d : Disk) (mk : ℕ) → mk ≡ 0 → d.present ≡ d.saved → Empty c d l → Chain S B (persist c l.start mk) d
    empty_persist d mk mz now w = go (aligned c l.start)
      where
        free : d.present.target ≡ None
        free = ap (λ (k : Keys). k.target) now ∙ w.target

        sure : Safe c enc d l
        sure = inr (inl w)

        last : (e : Disk) → e.blobs ≡ d.blobs → e.saved ≡ d.saved → e.present.target ≡ None → HintFree c 0 e.present.hint → Chain S B (Put Watermark mk ∷ (SyncKeys ∷ [])) e
        last e p q t h =
            let s = safe_same c enc l d e p q sure in
            let s' = safe_put c enc l e Watermark mk s in
            let em : Empty c (done SyncKeys (done (Put Watermark mk) e)) l = record {
              none = p ∙ w.none;
              start_zero = w.start_zero;
              kept_zero = w.kept_zero;
              target = t;
              marked = inr (ap {B = Option ℕ} Some mz);
              hint = h;
            } in
            (plain S (Put Watermark mk) e tt s s', (plain S SyncKeys (done (Put Watermark mk) e) tt s' (inr (inl em)), record { empty = em; marked = ap {B = Option ℕ} Some mz; now = refl }))

        go : (u : Bool) → Chain S B (cond u (DropKey Hint) (Put Hint l.start) ∷ (Put Watermark mk ∷ (SyncKeys ∷ []))) d
        go true = (plain S (DropKey Hint) d tt sure (safe_drop c enc l d Hint sure), last (done (DropKey Hint) d) refl refl free (inl refl))
        go false = (
          plain S (Put Hint l.start) d tt sure (safe_put c enc l d Hint l.start sure),
          last (done (Put Hint l.start) d) refl refl free (inr (l.start, refl, inl (ap (λ (j : ℕ). j % c.n) w.start_zero ∙ zero_aligned))),
        )

    empty_keys : (d : Disk) (mk : ℕ) → mk ≡ 0 → d.present ≡ d.saved → Empty c d l → Chain S B (keys_first c d.present l.start mk) d
    empty_keys d mk mz now w = elim (cases_Bool test) [
      | inl e ↦ subst (λ (os : List Op). Chain S B os d) (sym (cond-true test [] (persist c l.start mk) e))
          (record { empty = w; marked = ap (λ (k : Keys). k.watermark) (sym now) ∙ (same_is d.present.watermark mk (and_parts _ _ e).0 ∙ ap {B = Option ℕ} Some mz); now = now })
      | inr e ↦ subst (λ (os : List Op). Chain S B os d) (sym (cond-false test [] (persist c l.start mk) e)) (empty_persist d mk mz now w)
    ]
      where
        test : Bool
        test = same d.present.watermark (Some mk) && same d.present.hint (cond (aligned c l.start) None (Some l.start))

        same_is : (v : Option ℕ) (m : ℕ) → same v (Some m) ≡ true → v ≡ Some m
        same_is None m e = impossible cc
        same_is (Some v) m e = ap {B = Option ℕ} Some (eqb-true v m e)

    -- the first blob is made
    pub first_stand : (e : Disk) (m : Ledger R) → Blank c l e → m.start ≡ 0 → m.kept ≡ 0 → m.far ≡ 0 → Standing c enc (0 / c.n) 0 (done (Open (0 / c.n)) e) m
    first_stand e m b ms mkz mf = record {
      rows = rw b.empty.none (rows_blank c enc np zp m 0 ms mkz mf (omega arith));
      keys = record {
        target = b.empty.target;
        mark = 0;
        marked = b.marked;
        mark_kept = omega arith;
        hint = inr (ap (λ (j : ℕ). j % c.n) ms ∙ zero_aligned, subst (λ (j : ℕ). HintFree c j e.saved.hint) (sym ms) b.empty.hint);
      };
    }

    pub first_tied : (e : Disk) → Blank c l e → l.start ≡ 0 → Tied c enc (0 / c.n) 0 (done (Open (0 / c.n)) e) (moved l l.start 0 0 0) None
    first_tied e b ls =
        let m : Ledger R = moved l l.start 0 0 0 in
        let st = first_stand e m b ls refl refl in
        let bl : insert (0 / c.n) e.blobs ≡ (0 / c.n, blank) ∷ [] = ap (λ (bs : Blobs). insert (0 / c.n) bs) b.empty.none in
        let zz : 0 / c.n + 0 ≡ 0 / c.n = omega arith in
        record {
          stand = st;
          whole = refl;
          have = 0;
          ends = let a = first_low c l.start (0 / c.n) st.rows.low in let z : first c l.start (0 / c.n + 0) ≡ first c l.start (0 / c.n) = ap (λ (j : ℕ). first c l.start j) zz in omega arith;
          some_room = omega arith;
          tail = blank;
          found = ap (λ (bs : Blobs). find bs (0 / c.n + 0)) bl ∙ cond-true (eqb (0 / c.n) (0 / c.n + 0)) (Some blank) None (eq-eqb (0 / c.n) (0 / c.n + 0) (sym zz));
          sound = refl;
          bytes = omega arith;
          full = λ k x f h. absurd (let o = one_found (0 / c.n) k x (subst (λ (bs : Blobs). find bs k ≡ Some x) bl f) in omega arith);
          safe = λ k x f h. absurd (let o = one_found (0 / c.n) k x (subst (λ (bs : Blobs). find bs k ≡ Some x) bl f) in omega arith);
          owed_below = λ k f. impossible cc;
          now_saved = b.now;
        }

    -- truncate: only the keys are written
    pub empty_truncate : (d : Disk) (o : Opened) → o.start ≡ l.start → d.present ≡ d.saved → Empty c d l → Chain S B (truncating c d o 0) d
    empty_truncate d o os now w =
        chain_append S B (F nums) (last_blob b n (find (done_all (F nums) d).blobs b)) d
        (chain_then S (λ e. (e ≡ done_all (F nums) d) × B e) (λ e. Chain S B (last_blob b n (find (done_all (F nums) d).blobs b)) e) (F nums) d
        (λ e q. subst (λ (a : Disk). Chain S B (last_blob b n (find a.blobs b)) e) q.0
        (subst (λ (bs : Blobs). Chain S B (last_blob b n (find bs b)) e) (sym q.1.empty.none) q.1))
        (chain_end S B (F nums) d (subst (λ (ns : List ℕ). Chain S B (F ns) d) (sym (ap (λ (bs : Blobs). numbers bs) w.none)) none)))
      where
        b : ℕ
        b = 0 / c.n

        n : ℕ
        n = (0 - first_in c o.start b) * c.z

        nums : List ℕ
        nums = numbers d.blobs

        K : List Op
        K = keys_first c d.present o.start (min o.mark 0)

        F : List ℕ → List Op
        F ns = K ++ (anchor c ns o 0 ++ map Remove (reverse (goes c ns o 0)))

        anchor_is : anchor c [] o 0 ≡ []
        anchor_is = cond-false (anchored c [] o 0 && true) _ [] (and_left (anchored c [] o 0) true (and_right (eqb 0 o.start) false refl))

        none : Chain S B (F []) d
        none = chain_append S B K (anchor c [] o 0 ++ []) d
            (chain_then S B (λ e. Chain S B (anchor c [] o 0 ++ []) e) K d
            (λ e q. subst (λ (a : List Op). Chain S B (a ++ []) e) (sym anchor_is) q)
            (subst (λ (s : ℕ). Chain S B (keys_first c d.present s (min o.mark 0)) d) (sym os) (empty_keys d (min o.mark 0) (omega arith) now w)))

    -- publish, after that: the first blob is made
    pub empty_run : (e : Disk) → Blank c l e → Chain S (λ a. Tied c enc (0 / c.n) 0 a (moved l l.start 0 0 0) None) (map Sync (numbers e.blobs) ++ (Open (0 / c.n) ∷ [])) e
    empty_run e k =
        subst (λ (bs : Blobs). Chain S (λ a. Tied c enc (0 / c.n) 0 a (moved l l.start 0 0 0) None) (map Sync (numbers bs) ++ (Open (0 / c.n) ∷ [])) e) (sym k.empty.none)
        (plain S (Open (0 / c.n)) e tt (inr (inl k.empty)) (inl (stands c enc (done (Open (0 / c.n)) e) l (first_stand e l k k.empty.start_zero k.empty.kept_zero far))), first_tied e k k.empty.start_zero)

  -- the rules ----------------------------------------------------------------------------------

  module _ (l : Ledger R) (o : Opened) (d : Disk) (b : Bare c l o d) where
    -- the ledger of a call that is stopped
    abbrev held_up : ℕ → Ledger R
    held_up j = moved l l.start l.end (min l.kept j) l.far

    abbrev gone : ℕ → Ledger R
    gone j = moved l l.start j j j

    abbrev T : Disk → Type 0
    T = SafeFor c enc (held_up 0)

    w : Empty c d (held_up 0)
    w = empty_as c l (held_up 0) d b.empty.start_zero (omega arith) b.empty

    begins : o.start ≡ l.start
    begins = b.start ∙ sym b.empty.start_zero

    cut_chain : Chain T (Blank c (held_up 0)) (truncating c d o 0) d
    cut_chain = empty_truncate (held_up 0) b.far d o begins b.now w

    pub bare_truncate_leads : (n : ℕ) → Leads (SafeFor c enc (held_up (min o.end n))) (BlankAs c (gone (min o.end n))) (truncate_rule c d o n) d
    bare_truncate_leads n =
        subst (λ (j : ℕ). Leads (SafeFor c enc (held_up j)) (BlankAs c (gone j)) (refuse_if (ltb j o.start) (ItemPruned j) (ask (calls (truncating c d o j) (answer (truncated o j))))) d)
        (let e = b.end in let q : 0 ≡ min o.end n = omega arith in q)
        (leads_unless T Q (ltb 0 o.start) (ItemPruned 0) _ d (le-ltb 0 o.start (let s = b.start in omega arith)) (
          inr (inl w),
          leads_calls T Q (truncating c d o 0) (answer (truncated o 0)) d
              (chain_then T (Blank c (held_up 0)) (λ e. Q (truncated o 0) e) (truncating c d o 0) d
              (λ e q. record {
                blank = record { empty = empty_as c (held_up 0) (gone 0) e b.empty.start_zero refl q.empty; marked = q.marked; now = q.now };
                far = refl;
                ends = refl;
                start = b.start;
                end = refl;
                mark = omega arith;
                edge = refl;
              }) cut_chain),
        ))
      where
        Q : Opened → Disk → Type 0
        Q = BlankAs c (gone 0)

    pub bare_publish_leads : (n : ℕ) → Leads (SafeFor c enc (held_up (min o.end n))) (RunAs c enc (gone (min o.end n))) (publish_rule c d o n) d
    bare_publish_leads n =
        subst (λ (j : ℕ). Leads (SafeFor c enc (held_up j)) (RunAs c enc (gone j)) (publishes j) d) (let e = b.end in let q : 0 ≡ min o.end n = omega arith in q)
        (leads_unless T Q (ltb 0 o.start) (ItemPruned 0) _ d (le-ltb 0 o.start (let s = b.start in omega arith)) (
          inr (inl w),
          leads_calls T Q (truncating c d o 0 ++ (map Sync (numbers (cut 0).blobs) ++ (Open (0 / c.n) ∷ []))) (rest 0) d
              (chain_append T (λ f. Leads T Q (rest 0) f) (truncating c d o 0) (map Sync (numbers (cut 0).blobs) ++ (Open (0 / c.n) ∷ [])) d
              (chain_then T (λ e. (e ≡ cut 0) × Blank c (held_up 0) e) (λ e. Chain T (λ f. Leads T Q (rest 0) f) (map Sync (numbers (cut 0).blobs) ++ (Open (0 / c.n) ∷ [])) e) (truncating c d o 0) d
              (λ e q.
              subst (λ (a : Disk). Chain T (λ f. Leads T Q (rest 0) f) (map Sync (numbers a.blobs) ++ (Open (0 / c.n) ∷ [])) e) q.0
              (chain_then T (λ a. Tied c enc (0 / c.n) 0 a (gone 0) None) (λ f. Leads T Q (rest 0) f) (map Sync (numbers e.blobs) ++ (Open (0 / c.n) ∷ [])) e
              (λ f p. goes_on f p (subst (λ (a : Disk). Blank c (held_up 0) a) q.0 q.1))
              (empty_run (held_up 0) b.far e q.1)))
              (chain_end T (Blank c (held_up 0)) (truncating c d o 0) d cut_chain))),
        ))
      where
        Q : Running → Disk → Type 0
        Q = RunAs c enc (gone 0)

        cut : ℕ → Disk
        cut j = done_all (truncating c d o j) d

        last : ℕ → Plan Running
        last j = answer (record { start = o.start; end = j; owed = None })

        raise : ℕ → Bool
        raise j = o.bounded && not (same (cut j).present.watermark (Some j))

        rest : ℕ → Plan Running
        rest j = refuse_if (not (up_one_by_one (blob_of c j) (numbers (insert (blob_of c j) (cut j).blobs)))) Layout (calls (cond (raise j) (persist c o.start j) []) (last j))

        publishes : ℕ → Plan Running
        publishes j = refuse_if (ltb j o.start) (ItemPruned j) (ask (calls (truncating c d o j ++ (map Sync (numbers (cut j).blobs) ++ (Open (blob_of c j) ∷ []))) (rest j)))

        -- the one blob is in line, and the watermark is at the end already
        goes_on : (f : Disk) → Tied c enc (0 / c.n) 0 f (gone 0) None → Blank c (held_up 0) (cut 0) → Leads T Q (rest 0) f
        goes_on f p k =
            leads_unless T Q (not (up_one_by_one (0 / c.n) (numbers (insert (0 / c.n) (cut 0).blobs)))) Layout _ f
            (not_from_true (up_one_by_one (0 / c.n) (numbers (insert (0 / c.n) (cut 0).blobs))) (ap (λ (bs : Blobs). up_one_by_one (0 / c.n) (numbers (insert (0 / c.n) bs))) k.empty.none ∙ eq-eqb (0 / c.n) (0 / c.n) refl))
            (subst (λ (os : List Op). Leads T Q (calls os (last 0)) f) (sym (cond-false (raise 0) (persist c o.start 0) [] still))
            (record { start = begins; end = refl; lo = 0 / c.n; more = 0; tied = p; inside = omega arith }))
          where
            at : (cut 0).present.watermark ≡ Some 0
            at = ap (λ (u : Keys). u.watermark) k.now ∙ k.marked

            still : raise 0 ≡ false
            still = and_right o.bounded (not (same (cut 0).present.watermark (Some 0))) (ap (λ (u : Option ℕ). not (same u (Some 0))) at)

  module _ (l : Ledger R) (o : Opened) (d : Disk) (b : BlankAs c l o d) where
    abbrev k : Opened
    k = record { start = l.start; end = l.end; mark = o.mark; bounded = o.bounded; edge = no_edge }

    is : o ≡ k
    is =
        let s : o.start ≡ l.start = b.start ∙ sym b.blank.empty.start_zero in
        let f : o.end ≡ l.end = b.end ∙ sym b.ends in
        let e = b.edge in
        λ i. record { start = s i; end = f i; mark = o.mark; bounded = o.bounded; edge = e i }

    pub blank_append_leads : (r : R) → Leads (SafeFor c enc (appended l (r ∷ []))) (TrimAs c enc (appended l (r ∷ []))) (trimmed_append_rule c d o (enc r)) d
    blank_append_leads r =
        subst (λ (j : Opened). Leads S Q (trimmed_append_rule c d j (enc r)) d) (sym is)
        (subst (λ (bs : List ℕ). Leads S Q (trimmed_append_rule c d k bs) d) (append-nil (enc r))
        (leads_unless S Q (leb MAX l.end) SizeOverflow _ d (lt-leb MAX l.end (let z = b.ends in omega arith)) (
          before,
          leads_calls S Q (ops (has at (numbers d.blobs))) last d
              (subst (λ (u : Bool). Chain S (λ e. Leads S Q last e) (ops u) d) (sym (ap (λ (bs : Blobs). has at (numbers bs)) b.blank.empty.none)) (
                plain S (Open at) d tt before (safe_ahead c enc zp ez l r most d1 tied),
                chain_then S (Trim c enc m) (λ e. Leads S Q last e) add d1
                    (λ e q. record { trim = q; start = refl; end = refl; mark = let z = b.mark in omega arith; edge = refl })
                    (in_blob c enc zp ez l r most d1 at tied (omega arith) (let z = b.ends in omega arith)),
              )),
        )))
      where
        m : Ledger R
        m = appended l (r ∷ [])

        S : Disk → Type 0
        S = SafeFor c enc m

        Q : Opened → Disk → Type 0
        Q = TrimAs c enc m

        most : l.end + 1 ≤ MAX
        most = let z = b.ends in omega arith

        at : ℕ
        at = blob_of c l.end

        d1 : Disk
        d1 = done (Open at) d

        before : S d
        before = inr (inl (empty_as c l m d b.blank.empty.start_zero b.blank.empty.kept_zero b.blank.empty))

        tied : Tied c enc at 0 d1 l None
        tied =
            let ez = b.ends in
            let kz = b.blank.empty.kept_zero in
            let fz = b.far in
            let le : moved l l.start 0 0 0 ≡ l = λ i. record { start = l.start; end = sym ez i; kept = sym kz i; far = sym fz i; handed = l.handed } in
            subst (λ (j : ℕ). Tied c enc (j / c.n) 0 (done (Open (j / c.n)) d) l None) (sym ez) (subst (λ (u : Ledger R). Tied c enc (0 / c.n) 0 (done (Open (0 / c.n)) d) u None) le (first_tied l b.far d b.blank b.blank.empty.start_zero))

        last : Plan Opened
        last = answer (record { start = l.start; end = l.end + 1; mark = o.mark; bounded = o.bounded; edge = no_edge })

        add : List Op
        add = Append at (flat_map enc (r ∷ [])) ∷ cond (aligned c (l.end + 1)) (Sync at ∷ []) []

        ops : Bool → List Op
        ops u = open_if u at ++ add

    pub blank_sync_leads : Leads (SafeFor c enc l) (BlankAs c (KeptAll c enc zp ez l)) (trimmed_sync_rule c d o) d
    blank_sync_leads =
        subst (λ (j : Opened). Leads S Q (trimmed_sync_rule c d j) d) (sym is) (
          inr (inl b.blank.empty),
          subst (λ (bs : Blobs). Leads S Q (calls (map Sync (numbers bs) ++ persist c l.start l.end) last) d) (sym b.blank.empty.none)
              (leads_calls S Q (persist c l.start l.end) last d
              (chain_then S (Blank c l) (λ e. Leads S Q last e) (persist c l.start l.end) d
              (λ e q. record {
                blank = record { empty = empty_as c l (KeptAll c enc zp ez l) e b.blank.empty.start_zero b.ends q.empty; marked = q.marked; now = q.now };
                far = b.far;
                ends = b.ends;
                start = b.blank.empty.start_zero;
                end = b.ends;
                mark = b.ends;
                edge = refl;
              })
              (empty_persist l b.far d l.end b.ends b.blank.now b.blank.empty))),
        )
      where
        S : Disk → Type 0
        S = SafeFor c enc l

        Q : Opened → Disk → Type 0
        Q = BlankAs c (KeptAll c enc zp ez l)

        last : Plan Opened
        last = answer (record { start = l.start; end = l.end; mark = l.end; bounded = o.bounded; edge = no_edge })

    -- there is nothing to prune
    pub blank_prune : (p : ℕ) → (trimmed_prune_rule c d o p ≡ answer (o, false)) × (entry c l (Prune p) ≡ l)
    blank_prune p =
        let e = b.end in
        let f = b.ends in
        let u = div-mul-le_self (min p o.end) c.n in
        let v = div-mul-le_self (min p l.end) c.n in (
          cond-true (leb (blob_of c (min p o.end) * c.n) o.start) _ _ (le-leb (blob_of c (min p o.end) * c.n) o.start (omega arith)),
          cond-false (ltb l.start (prune_to c l p)) _ l (le-ltb l.start (prune_to c l p) (omega arith)),
        )
