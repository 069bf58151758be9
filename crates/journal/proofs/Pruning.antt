-- Blobs below a number.
use Rattle.std.proofs.Common.{◌≡◌, ℕ, suc, ◌+◌, ◌*◌, ◌<◌, ◌≤◌, min, Bool, true, false, cond, eqb, ltb, leb, List, [], ◌∷◌, ◌++◌, map, Some, None, Ok, Err, Result, sym, refl, ap, ◌∙◌, subst, inl, inr, arith}
use Rattle.std.proofs.lemmas.Bool.{lt-ltb, le-ltb, lt-leb, eq-eqb, cases_lt, cases_Bool}
use Rattle.store.specs.Disk.{Blobs, Disk, View, Op, Open, Remove, Sync, numbers, insert, without, at_or_above, synced}
use Rattle.rules.specs.Rules.{Config, Plan, answer, calls, answered, stopped, Follows, blob_of}
use Rattle.store.specs.Laws.{Below}
use Rattle.rules.specs.Open.{Opened, no_edge, below}
use Rattle.rules.specs.Calls.{up_to, trimmed_prune_rule}
use Rattle.journal.specs.declared.fault.Fault.TheVariants.{Store}
use Rattle.journal.specs.Logs.{Stops}
use Rattle.journal.specs.declared.fault.StoreFault.{StoreFault}
use Rattle.journal.specs.Steps.{AllDone, StopsIn, TookAll, Asks}
use Rattle.journal.proofs.Taken.{impossible, up_and_down, follows_done, follows_stop, told_stops}
use Rattle.journal.proofs.Walking.{Up}
use Rattle.journal.proofs.Listing.{numbers_change}

above : (b lo : ℕ) (xs : Blobs) → b ≤ lo → Up lo xs → up_to b (numbers xs) ≡ []
above b lo [] l u = refl
above b lo (x ∷ xs) l u = let k = u.0 in let t = le-ltb x.0 b (omega arith) in simp t (above b (x.0 + 1) xs (omega arith) u.1)

-- the lowest below an edge is the first of those up to it
pub up_to_none : (e : ℕ) (xs : Blobs) → Up 0 xs → at_or_above 0 (below e xs) ≡ None → up_to e (numbers xs) ≡ []
up_to_none e [] u q = refl
up_to_none e (x ∷ xs) u q = elim (cases_lt x.0 e) [
  | inl l ↦ let t = lt-ltb x.0 e l in let z = le-ltb x.0 0 (omega arith) in let p : Some x.0 ≡ None = simp (t, z) at q in impossible (let y : ◌≡◌ {A = ℕ} 0 1 = cc in y)
  | inr l ↦ above e x.0 (x ∷ xs) l (let r : x.0 ≤ x.0 = omega arith in r, u.1)
]

pub up_to_next : (e n : ℕ) (xs : Blobs) → at_or_above 0 (below e xs) ≡ Some n → up_to e (numbers xs) ≡ n ∷ up_to e (numbers (without n xs))
up_to_next e n [] q = impossible (let y : ◌≡◌ {A = ℕ} 0 1 = cc in y)
up_to_next e n (x ∷ xs) q = elim (cases_lt x.0 e) [
  | inl l ↦ let t = lt-ltb x.0 e l in
      let z = le-ltb x.0 0 (omega arith) in
      let p : Some x.0 ≡ Some n = simp (t, z) at q in
      let r : x.0 ≡ n = cc in
      let s = eq-eqb x.0 n r in
      simp (t, s) (ap (λ (k : ℕ). k ∷ up_to e (numbers xs)) r)
  | inr l ↦ let t = le-ltb x.0 e l in let p : None ≡ Some n = simp t at q in impossible (let y : ◌≡◌ {A = ℕ} 0 1 = cc in y)
]

-- an edge above every number
pub up_to_all : (e : ℕ) (ns : List ℕ) → Below e ns → up_to e ns ≡ ns
up_to_all e [] h = refl
up_to_all e (n ∷ ns) h = let t = lt-ltb n e (h 0 (omega arith)) in simp t (ap (λ (ms : List ℕ). n ∷ ms) (up_to_all e ns (λ k l. h (suc k) (omega arith))))

pub up_to_insert : (b : ℕ) (xs : Blobs) → up_to b (numbers (insert b xs)) ≡ up_to b (numbers xs)
up_to_insert b [] = let t = le-ltb b b (omega arith) in simp t
up_to_insert b (x ∷ xs) = elim (cases_Bool (ltb b x.0)) [
  | inl p ↦ let t = le-ltb b b (omega arith) in simp (p, t)
  | inr p ↦ elim (cases_Bool (eqb b x.0)) [
    | inl q ↦ simp (p, q)
    | inr q ↦ elim (cases_Bool (ltb x.0 b)) [
      | inl r ↦ simp (p, q, r) (ap (λ (ms : List ℕ). x.0 ∷ ms) (up_to_insert b xs))
      | inr r ↦ simp (p, q, r) (up_to_insert b xs)
    ]
  ]
]

-- syncing leaves the numbers
pub synced_numbers : (ns : List ℕ) (v w : View) → AllDone (map Sync ns) v w → numbers w.disk.blobs ≡ numbers v.disk.blobs
synced_numbers [] v w a = ap (λ (u : View). numbers u.disk.blobs) a
synced_numbers (n ∷ ns) v w a =
    synced_numbers ns a.0 w a.2 ∙ (ap (λ (k : Disk). numbers k.blobs) a.1.2 ∙ numbers_change synced n v.disk.blobs)

-- a store that is up answers the question
pub asks_took : {X : Type 0} (os : List Op) (v w : View) (r : Result X StoreFault) → v.up ≡ true → Asks os v r w → TookAll os v r w
asks_took os v w (Ok x) up a = a.1
asks_took os v w (Err e) up (inl h) = h.1
asks_took os v w (Err e) up (inr h) = up_and_down v.up up h.0

module _ (c : Config) (o : Opened) (v : View) (p b : ℕ) (eb : b ≡ blob_of c (min p o.end)) where
  abbrev pub pruning : List Op
  pruning = Open b ∷ (map Sync (numbers (insert b v.disk.blobs)) ++ map Remove (up_to b (numbers v.disk.blobs)))

  abbrev pub pruned_to : Opened
  pruned_to = record { start = b * c.n; end = o.end; mark = o.mark; bounded = o.bounded; edge = no_edge }

  abbrev rule_at : ℕ → Plan (Opened × Bool)
  rule_at k =
      cond {A = Plan (Opened × Bool)} (leb (k * c.n) o.start) (answer (o, false))
      (calls (Open k ∷ (map Sync (numbers (insert k v.disk.blobs)) ++ map Remove (up_to k (numbers v.disk.blobs))))
      (answer (record { start = k * c.n; end = o.end; mark = o.mark; bounded = o.bounded; edge = no_edge }, true)))

  rule_is : o.start < b * c.n → trimmed_prune_rule c v.disk o p ≡ calls pruning (answer (pruned_to, true))
  rule_is l =
      let t = lt-leb (b * c.n) o.start l in
      subst (λ (m : ℕ). rule_at m ≡ calls pruning (answer (pruned_to, true))) eb (simp t)

  pub prune_done : (w : View) → o.start < b * c.n → AllDone pruning v w → Follows (trimmed_prune_rule c v.disk o p) v (answered (pruned_to, true)) w
  prune_done w l a =
      subst (λ (q : Plan (Opened × Bool)). Follows q v (answered (pruned_to, true)) w) (sym (rule_is l)) (follows_done (answer (pruned_to, true)) pruning v w w (answered (pruned_to, true)) a (refl, refl))

  pub prune_stopped : (w : View) (e : StoreFault) → o.start < b * c.n → StopsIn pruning v e w → Stops (trimmed_prune_rule c v.disk o p) v (Store e) w
  prune_stopped w e l h =
      let q = told_stops (follows_stop (answer (pruned_to, true)) pruning v w e h) in
      (q.0, q.1, q.2, subst (λ (k : Plan (Opened × Bool)). Follows k v (stopped q.0 q.1) w) (sym (rule_is l)) q.3)
