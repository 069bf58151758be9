-- The rules of the trimmed log and of a staged clear, each done or stopped anywhere.
use Rattle.std.proofs.Common.{◌≡◌, ℕ, ◌+◌, ◌*◌, ◌/◌, ◌<◌, ◌≤◌, min, Bool, true, false, cond, eqb, ltb, leb, ◌⊎◌, List, [], ◌∷◌, ◌++◌, map, length, Some, None, sym, refl, ap, ◌∙◌, subst, inl, inr, div-mul-le_self, arith}
use Rattle.std.specs.List.{flat_map}
use Rattle.std.proofs.lemmas.Bool.{cond-true, cond-false, cond_both, eq-eqb, lt-ltb, le-ltb, leb-true, leb-false, lt-leb}
use Rattle.std.proofs.lemmas.List.{append-nil}
use Rattle.store.specs.Disk.{Blobs, Disk, find, numbers, Op, Open, Append, Sync, Remove, insert, blank}
use Rattle.rules.specs.Rules.{Config, blob_of, aligned, persist, MAX, Plan, answer, calls, SizeOverflow, clearing, staging}
use Rattle.rules.specs.Calls.{has, up_to, open_if, trimmed_append_rule, trimmed_sync_rule, trimmed_prune_rule, complete_rule, stage_rule}
use Rattle.rules.specs.Open.{Opened, no_edge}
use Rattle.ledger.specs.History.{Prune}
use Rattle.ledger.specs.Ledger.{Ledger, appended, entry}
use Rattle.ledger.proofs.Blobs.{impossible}
use Rattle.ledger.proofs.Invariant.{first, stands, Staged, Safe, moved, first_low}
use Rattle.ledger.proofs.Chain.{chain_then}
use Rattle.ledger.proofs.Prunes.{PruneStops}
use Rattle.ledger.proofs.Commits.{Tied, SafeFor}
use Rattle.ledger.proofs.Plans.{Leads, leads_unless, leads_calls}
use Rattle.ledger.proofs.Trimmeds.{Trim, KeptAll, safe_ahead, trimmed_append_chain, trimmed_sync_done, trimmed_prune_chain}
use Rattle.ledger.proofs.Recovers.{TrimAs}
use Rattle.ledger.proofs.Clears.{Cleared, clear_chain, one_found, stage_chain}

module _ {R : Type 0} (c : Config) (enc : R → List ℕ) (zp : 0 < c.z) (ez : (r : R) → length (enc r) ≡ c.z) (l : Ledger R) (o : Opened) (d : Disk) (t : TrimAs c enc l o d) where
  abbrev k : Opened
  k = record { start = l.start; end = l.end; mark = o.mark; bounded = o.bounded; edge = no_edge }

  is : o ≡ k
  is = let a = t.start in let b = t.end in let e = t.edge in λ i. record { start = a i; end = b i; mark = o.mark; bounded = o.bounded; edge = e i }

  safe_now : SafeFor c enc l d
  safe_now = inl (stands c enc d l t.trim.tied.stand)

  pub trimmed_append_leads : (r : R) → l.end + 1 ≤ MAX → Leads (SafeFor c enc (appended l (r ∷ []))) (TrimAs c enc (appended l (r ∷ []))) (trimmed_append_rule c d o (enc r)) d
  trimmed_append_leads r most =
      subst (λ (j : Opened). Leads S Q (trimmed_append_rule c d j (enc r)) d) (sym is)
      (subst (λ (bs : List ℕ). Leads S Q (trimmed_append_rule c d k bs) d) (append-nil (enc r))
      (leads_unless S Q (leb MAX l.end) SizeOverflow _ d (lt-leb MAX l.end (omega arith)) (
        safe_ahead c enc zp ez l r most d t.trim.tied,
        leads_calls S Q ops last d
            (chain_then S (Trim c enc m) (λ e. Leads S Q last e) ops d
            (λ e q. record { trim = q; start = refl; end = refl; mark = t.mark; edge = refl })
            (trimmed_append_chain c enc zp ez l r most d t.trim)),
      )))
    where
      m : Ledger R
      m = appended l (r ∷ [])

      S : Disk → Type 0
      S = SafeFor c enc m

      Q : Opened → Disk → Type 0
      Q = TrimAs c enc m

      last : Plan Opened
      last = answer (record { start = l.start; end = l.end + 1; mark = o.mark; bounded = o.bounded; edge = no_edge })

      ops : List Op
      ops = open_if (has (blob_of c l.end) (numbers d.blobs)) (blob_of c l.end) ++ (Append (blob_of c l.end) (flat_map enc (r ∷ [])) ∷ cond (aligned c (l.end + 1)) (Sync (blob_of c l.end) ∷ []) [])

  pub trimmed_sync_leads : Leads (SafeFor c enc l) (TrimAs c enc (KeptAll c enc zp ez l)) (trimmed_sync_rule c d o) d
  trimmed_sync_leads =
      subst (λ (j : Opened). Leads (SafeFor c enc l) Q (trimmed_sync_rule c d j) d) (sym is) (
        safe_now,
        leads_calls (SafeFor c enc l) Q ops last d
            (chain_then (SafeFor c enc l) (Trim c enc (KeptAll c enc zp ez l)) (λ e. Leads (SafeFor c enc l) Q last e) ops d
            (λ e q. record { trim = q; start = refl; end = refl; mark = omega arith; edge = refl })
            (trimmed_sync_done c enc zp ez l d t.trim)),
      )
    where
      Q : Opened → Disk → Type 0
      Q = TrimAs c enc (KeptAll c enc zp ez l)

      last : Plan Opened
      last = answer (record { start = l.start; end = l.end; mark = l.end; bounded = o.bounded; edge = no_edge })

      ops : List Op
      ops = map Sync (numbers d.blobs) ++ persist c l.start l.end

  pub trimmed_prune_leads : (p : ℕ) → Leads (PruneStops c enc l (min p l.end / c.n * c.n)) (λ x e. TrimAs c enc (entry c l (Prune p)) x.0 e) (trimmed_prune_rule c d o p) d
  trimmed_prune_leads p =
      subst (λ (j : Opened). Leads S Q (trimmed_prune_rule c d j p) d) (sym is)
      (cond_both (leb (b * c.n) l.start) (answer (k, false)) (calls ops last) (λ (q : Plan (Opened × Bool)). Leads S Q q d)
      (λ e.
      let a = leb-true (b * c.n) l.start e in
      subst (λ (m : Ledger R). TrimAs c enc m k d) (sym (cond-false (ltb l.start (b * c.n)) (moved l (b * c.n) l.end l.end l.far) l (le-ltb l.start (b * c.n) a)))
      (record { trim = t.trim; start = refl; end = refl; mark = t.mark; edge = refl }))
      (λ e.
      let a = leb-false (b * c.n) l.start e in
      let u = div-mul-le_self (min p l.end) c.n in
      let mk = t.mark in
      let kf = t.trim.tied.stand.rows.kept_far in
      let wh = t.trim.tied.whole in
      leads_calls S Q ops last d
      (chain_then S (Trim c enc (moved l (b * c.n) l.end l.end l.far)) (λ f. Leads S Q last f) ops d
      (λ f q. subst (λ (m : Ledger R). TrimAs c enc m k' f) (sym (cond-true (ltb l.start (b * c.n)) (moved l (b * c.n) l.end l.end l.far) l (lt-ltb l.start (b * c.n) a)))
      (record { trim = q; start = refl; end = refl; mark = omega arith; edge = refl }))
      (trimmed_prune_chain c enc zp ez l d b t.trim a (omega arith)))))
    where
      b : ℕ
      b = blob_of c (min p l.end)

      S : Disk → Type 0
      S = PruneStops c enc l (b * c.n)

      Q : Opened × Bool → Disk → Type 0
      Q x e = TrimAs c enc (entry c l (Prune p)) x.0 e

      k' : Opened
      k' = record { start = b * c.n; end = l.end; mark = o.mark; bounded = o.bounded; edge = no_edge }

      last : Plan (Opened × Bool)
      last = answer (k', true)

      ops : List Op
      ops = Open b ∷ (map Sync (numbers (insert b d.blobs)) ++ map Remove (up_to b (numbers d.blobs)))

-- a staged clear, carried out
module _ {R : Type 0} (c : Config) (enc : R → List ℕ) (np : 0 < c.n) (zp : 0 < c.z) where
  pub cleared_trim : (l : Ledger R) (t : ℕ) (e : Disk) → l.start ≡ t → l.end ≡ t → l.far ≡ t → Cleared c enc np zp l t e → Trim c enc l e
  cleared_trim l t e ls le lf q = record {
    lo = b;
    more = 0;
    tied = td;
    within = let z : (b + 0) * c.n ≡ b * c.n = ap (λ (j : ℕ). j * c.n) (omega arith) in let u = div-mul-le_self t c.n in omega arith;
    sealed = λ f v g. let o = one_found b (b + 0) v (subst (λ (bs : Blobs). find bs (b + 0) ≡ Some v) q.blobs g) in omega arith;
  }
    where
      b : ℕ
      b = t / c.n

      td : Tied c enc b 0 e l None
      td = record {
        stand = q.stand;
        whole = omega arith;
        have = 0;
        ends = let a = first_low c l.start b q.stand.rows.low in let z : first c l.start (b + 0) ≡ first c l.start b = ap (λ (j : ℕ). first c l.start j) (omega arith) in omega arith;
        some_room = omega arith;
        tail = blank;
        found = ap (λ (bs : Blobs). find bs (b + 0)) q.blobs ∙ cond-true (eqb b (b + 0)) (Some blank) None (eq-eqb b (b + 0) (omega arith));
        sound = refl;
        bytes = omega arith;
        full = λ i x f h. absurd (let o = one_found b i x (subst (λ (bs : Blobs). find bs i ≡ Some x) q.blobs f) in omega arith);
        safe = λ i x f h. absurd (let o = one_found b i x (subst (λ (bs : Blobs). find bs i ≡ Some x) q.blobs f) in omega arith);
        owed_below = λ i f. impossible cc;
        now_saved = sym q.saved;
      }

  pub complete_leads : (l : Ledger R) (t : ℕ) (d : Disk) (w : Staged d l) → w.goal ≡ t → Leads (SafeFor c enc l) (TrimAs c enc l) (complete_rule c d t) d
  complete_leads l t d w e =
      let ls : l.start ≡ t = w.at_start ∙ e in
      let le : l.end ≡ t = w.at_end ∙ e in
      let lk : l.kept ≡ t = w.at_kept ∙ e in
      let lf : l.far ≡ t = w.at_far ∙ e in
      let last : Plan Opened = answer (record { start = t; end = t; mark = t; bounded = false; edge = no_edge }) in (
        inr (inr w),
        leads_calls (SafeFor c enc l) (TrimAs c enc l) (clearing c t (numbers d.blobs)) last d
            (clear_chain c enc np zp l t ls lk lf (let m = w.most in omega arith) (λ f. Leads (SafeFor c enc l) (TrimAs c enc l) last f)
            (λ f q. record { trim = cleared_trim l t f ls le lf q; start = sym ls; end = sym le; mark = omega arith; edge = refl }) d w),
      )

  pub stage_leads : (l : Ledger R) (t : ℕ) (d : Disk) → t < MAX → Safe c enc d l
      → Leads (λ e. Safe c enc e l ⊎ Safe c enc e (moved l t t t t)) (λ u e. Staged e (moved l t t t t) × (e.present ≡ e.saved)) (stage_rule d t) d
  stage_leads l t d h w =
      leads_unless S Q (leb MAX t) SizeOverflow _ d (lt-leb MAX t h) (inl w, leads_calls S Q (staging d.present t) (answer tt) d (stage_chain c enc np zp l t d (omega arith) w))
    where
      S : Disk → Type 0
      S e = Safe c enc e l ⊎ Safe c enc e (moved l t t t t)

      Q : Unit {0} → Disk → Type 0
      Q u e = Staged e (moved l t t t t) × (e.present ≡ e.saved)
