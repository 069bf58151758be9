-- The rules of the running log, commit, sync and prune, and what every log in hand reads.
use Rattle.std.proofs.Common.{◌≡◌, ℕ, suc, ◌+◌, ◌-◌, ◌*◌, ◌/◌, ◌<◌, ◌≤◌, min, Bool, true, false, ltb, leb, List, ◌++◌, map, None, sym, refl, ap, subst, mul-le-mul_right, div-mul-le_self, arith}
use Rattle.std.proofs.lemmas.Bool.{cond-true, cond-false, cond_both, lt-ltb, le-ltb, leb-true, leb-false}
use Rattle.std.proofs.lemmas.Nat.{div_below}
use Rattle.store.specs.Disk.{Disk, View, Op, Remove}
use Rattle.rules.specs.Rules.{Config, blob_of, persist, Plan, answer, calls}
use Rattle.rules.specs.Calls.{Running, committing, commit_rule, sync_rule, prune_rule, count}
use Rattle.rules.specs.Open.{Opened}
use Rattle.ledger.specs.History.{Prune}
use Rattle.ledger.specs.Ledger.{Ledger, entry}
use Rattle.ledger.proofs.Invariant.{moved, rows_apart}
use Rattle.ledger.proofs.Chain.{Chain, chain_then}
use Rattle.ledger.proofs.Prunes.{PruneStops, Pruned, prune_chain}
use Rattle.ledger.proofs.Commits.{Tied, SafeFor, commit_chain, sync_chain}
use Rattle.ledger.proofs.Plans.{Leads, leads_calls}
use Rattle.ledger.proofs.Recovers.{RunAs}
use Rattle.ledger.proofs.Opens.{start_blob}
use Rattle.ledger.proofs.Cuts.{Cuttable}
use Rattle.ledger.proofs.Readings.{Good, good}

module _ {R : Type 0} (c : Config) (enc : R → List ℕ) (l : Ledger R) (r : Running) (d : Disk) (t : RunAs c enc l r d) where
  abbrev k : Running
  k = record { start = l.start; end = l.end; owed = r.owed }

  is : r ≡ k
  is = let a = t.start in let b = t.end in λ i. record { start = a i; end = b i; owed = r.owed }

  abbrev all : Ledger R
  all = moved l l.start l.end l.end l.far

  abbrev last : Plan Running
  last = answer (record { start = l.start; end = l.end; owed = None })

  as_run : (e : Disk) → Tied c enc t.lo t.more e all None → RunAs c enc all (record { start = l.start; end = l.end; owed = None }) e
  as_run e q = record { start = refl; end = refl; lo = t.lo; more = t.more; tied = q; inside = t.inside }

  pub commit_leads : Leads (SafeFor c enc l) (RunAs c enc all) (commit_rule c r) d
  commit_leads =
      subst (λ (j : Running). Leads (SafeFor c enc l) (RunAs c enc all) (commit_rule c j) d) (sym is)
      (leads_calls (SafeFor c enc l) (RunAs c enc all) (committing c k) last d
      (chain_then (SafeFor c enc l) (λ e. Tied c enc t.lo t.more e all None) (λ e. Leads (SafeFor c enc l) (RunAs c enc all) last e) (committing c k) d as_run
      (commit_chain c enc l d l.start r.owed t.tied t.inside)))

  pub sync_leads : Leads (SafeFor c enc l) (RunAs c enc all) (sync_rule c r) d
  sync_leads =
      subst (λ (j : Running). Leads (SafeFor c enc l) (RunAs c enc all) (sync_rule c j) d) (sym is)
      (leads_calls (SafeFor c enc l) (RunAs c enc all) (committing c k ++ persist c l.start l.end) last d
      (chain_then (SafeFor c enc l) (λ e. Tied c enc t.lo t.more e all None) (λ e. Leads (SafeFor c enc l) (RunAs c enc all) last e) (committing c k ++ persist c l.start l.end) d as_run
      (sync_chain c enc l d r.owed t.tied t.inside)))

  pub prune_leads : (p : ℕ) → Leads (PruneStops c enc l (min p l.end / c.n * c.n)) (λ x e. RunAs c enc (entry c l (Prune p)) x.0 e) (prune_rule c r p) d
  prune_leads p =
      subst (λ (j : Running). Leads S Q (prune_rule c j p) d) (sym is)
      (cond_both (leb b (blob_of c l.start)) (answer (k, false)) (calls ops end) (λ (q : Plan (Running × Bool)). Leads S Q q d)
      (λ e.
      let a = leb-true b (blob_of c l.start) e in
      let m = mul-le-mul_right c.n a in
      let n = div-mul-le_self l.start c.n in
      subst (λ (j : Ledger R). RunAs c enc j k d) (sym (cond-false (ltb l.start (b * c.n)) (moved l (b * c.n) l.end l.end l.far) l (le-ltb l.start (b * c.n) (omega arith))))
      (record { start = refl; end = refl; lo = t.lo; more = t.more; tied = t.tied; inside = t.inside }))
      (λ e.
      let a = leb-false b (blob_of c l.start) e in
      let low = t.tied.stand.rows.low in
      let sb = start_blob c l.start t.lo low in
      let np : 0 < c.n = let x = low.from in let y = low.below in omega arith in
      let up : l.start < b * c.n = let z = low.below in omega (arith, rows_apart c.n t.lo b (omega arith)) in
      let ins = t.inside in
      let hi : b < suc (t.lo + t.more) = div_below (min p l.end) c.n (suc (t.lo + t.more)) np (omega arith) in
      leads_calls S Q ops end d
      (subst (λ (j : ℕ). Chain S (λ f. Leads S Q end f) (committing c k ++ map Remove (count j (b - j))) d) (sym sb)
      (chain_then S (Pruned c enc l (t.lo + t.more) b) (λ f. Leads S Q end f) (committing c k ++ map Remove (count t.lo (b - t.lo))) d
      (λ f q.
      let n : (b + q.more) * c.n ≡ (t.lo + t.more) * c.n = ap (λ (j : ℕ). j * c.n) q.top in
      subst (λ (j : Ledger R). RunAs c enc j r' f) (sym (cond-true (ltb l.start (b * c.n)) (moved l (b * c.n) l.end l.end l.far) l (lt-ltb l.start (b * c.n) up)))
      (record { start = refl; end = refl; lo = b; more = q.more; tied = q.tied; inside = omega arith }))
      (prune_chain c enc l d r.owed b t.tied t.inside (omega arith) (omega arith))))))
    where
      b : ℕ
      b = blob_of c (min p l.end)

      S : Disk → Type 0
      S = PruneStops c enc l (b * c.n)

      Q : Running × Bool → Disk → Type 0
      Q x e = RunAs c enc (entry c l (Prune p)) x.0 e

      r' : Running
      r' = record { start = b * c.n; end = l.end; owed = None }

      end : Plan (Running × Bool)
      end = answer (r', true)

      ops : List Op
      ops = committing c k ++ map Remove (count (blob_of c l.start) (b - blob_of c l.start))

-- an opened or trimmed log reads all of its span
pub cut_good : {R : Type 0} (c : Config) (enc : R → List ℕ) (l : Ledger R) (o : Opened) (v : View)
    → v.up ≡ true → Cuttable c enc l o v.disk → (p : ℕ) → l.start ≤ p → p < o.end → Good c enc l.start v l.handed p
cut_good c enc l o v up k p h g =
    let q = good c enc (moved l l.start l.end k.sure l.far) v o.end p up k.stand.rows k.covers k.top h g in
    record { given = q.given; was = q.was; reads = q.reads }
