-- The parts of opening, put together.
use Rattle.std.proofs.Common.{◌≡◌, ℕ, ◌≤◌, ◌*◌, min, true, false, cond, ltb, [], ◌∷◌, reverse, Some, None, Ok, Err, Option, Result, unwrap_or, sym, refl, ap, ◌∙◌, subst, inl, inr, arith}
use Rattle.std.proofs.lemmas.Bool.{lt-ltb, le-ltb}
use Rattle.store.specs.Disk.{Blobs, View, at_or_above, numbers}
use Rattle.store.specs.Laws.{Lawful}
use Rattle.rules.specs.Rules.{Config, MAX, Plan, answer, refuse, refuse_if, ask, clearing, Outcome, answered, refused, stopped, Follows}
use Rattle.rules.specs.Rules as rules
use Rattle.rules.specs.Open.{Opened, cleared, lowest, is_below, or_max, any_over, no_edge, below, edge_at, examine_two, Walked, walk_all, weigh}
use Rattle.journal.specs.declared.fault.Fault.{Fault}
use Rattle.journal.specs.declared.fault.Fault.TheVariants.{ItemPruned, Store}
use Rattle.journal.specs.declared.fault.StoreFault.{StoreFault}
use Rattle.journal.specs.Steps.{AllDone, Halts}
use Rattle.store.specs.declared.cause.Cause.{Cause}
use Rattle.store.specs.declared.cause.Cause.TheVariants.{Power}
use Rattle.store.specs.declared.keys.Key.{Key}
use Rattle.journal.specs.declared.fault.Step.TheVariants as at
use Rattle.journal.specs.Faults.{Means}
use Rattle.journal.specs.Logs.{empty_at}
use Rattle.journal.specs.Recovery.{Tells, Ends, Walks, First, admitted, spanned, highest}
use Rattle.journal.proofs.Taken.{asks_done, asks_stopped, refused_down, refuse_yes, refuse_not}
use Rattle.journal.proofs.Walking.{up_store}
use Rattle.journal.proofs.Highest.{last_none, any_over_lem, below_all}

pub lowest_is : (xs : Blobs) → at_or_above 0 xs ≡ lowest xs
lowest_is [] = refl
lowest_is (x ∷ xs) = let t = le-ltb x.0 0 (omega arith) in simp t

-- a refusal, and an answer
pub tells_ends : (p : Plan Opened) (v : View) (f : Fault) → Tells f p → Ends p v f v
tells_ends p v f t = (refused t.0, t.1, subst (λ (q : Plan Opened). Follows q v (refused t.0) v) (sym t.2) (refl, refl))

-- admission
module _ (c : Config) (s : ℕ) (ceiling : Option ℕ) (xs : Blobs) where
  pub admit_low : (f : Fault) → is_below ceiling s ≡ true → f ≡ ItemPruned (or_max ceiling) → (p : Plan Opened) → Tells f (admitted c s ceiling xs p)
  admit_low f l e p = rw e (rules.ItemPruned (or_max ceiling), refl, simp l)

pub none_over : (c : Config) (v : View) → Lawful v → highest (below no_edge v.disk.blobs) ≡ None → any_over c v.disk.blobs ≡ false
none_over c v laws q =
    let xs = v.disk.blobs in
    ap (any_over c) (last_none xs (ap highest (sym (below_all no_edge xs laws.fits)) ∙ q))

pub over_is : (c : Config) (v : View) (b : ℕ) → Lawful v → highest (below no_edge v.disk.blobs) ≡ Some b → any_over c v.disk.blobs ≡ ltb MAX (b * c.n)
over_is c v b laws q =
    let xs = v.disk.blobs in
    let e = below_all no_edge xs laws.fits in
    ap (any_over c) (sym e) ∙ any_over_lem c 0 b (below no_edge xs) (up_store v no_edge laws) q

-- the highest blob's first position tells of all
module _ (c : Config) (s : ℕ) (ceiling : Option ℕ) (v : View) (o : Option ℕ) (laws : Lawful v) (q : o ≡ highest (below no_edge v.disk.blobs)) (high : is_below ceiling s ≡ false) where
  pub admit_over : (f : Fault) → First c o (Err f) → (p : Plan Opened) → Tells f (admitted c s ceiling v.disk.blobs p)
  admit_over f h p = by_first o q h
    where
      by_first : (k : Option ℕ) → k ≡ highest (below no_edge v.disk.blobs) → First c k (Err f) → Tells f (admitted c s ceiling v.disk.blobs p)
      by_first None e h = absurd h
      by_first (Some b) e h = let a : any_over c v.disk.blobs ≡ true = over_is c v b laws (sym e) ∙ lt-ltb MAX (b * c.n) h.1 in rw h.0 (rules.OffsetOverflow, refl, simp (high, a))

  pub admit_ok : (n : ℕ) → First c o (Ok n) → (p : Plan Opened) → admitted c s ceiling v.disk.blobs p ≡ p
  admit_ok n h p = by_first o q h
    where
      by_first : (k : Option ℕ) → k ≡ highest (below no_edge v.disk.blobs) → First c k (Ok n) → admitted c s ceiling v.disk.blobs p ≡ p
      by_first None e h = let a = none_over c v laws (sym e) in simp (high, a)
      by_first (Some b) e h = let l : b * c.n ≤ MAX = omega (arith, h.0, h.1) in let a : any_over c v.disk.blobs ≡ false = over_is c v b laws (sym e) ∙ le-ltb MAX (b * c.n) l in simp (high, a)

-- the walk is weighed
pub weigh_wrong : (c : Config) (s e : ℕ) (ceiling m : Option ℕ) (q : Walked) (f : Fault) → Walks q (Err f) → Tells f (weigh c s ceiling e m q)
weigh_wrong c s e ceiling None q f (inl w) =
    (rules.Corruption 4, subst (λ (y : Fault). Means {A = Opened} y (refused (rules.Corruption 4))) (sym w.1) refl, ap (weigh c s ceiling e None) w.0)
weigh_wrong c s e ceiling (Some m) q f (inl w) =
    (rules.Corruption 4, subst (λ (y : Fault). Means {A = Opened} y (refused (rules.Corruption 4))) (sym w.1) refl, ap (weigh c s ceiling e (Some m)) w.0)
weigh_wrong c s e ceiling None q f (inr w) =
    (rules.OffsetOverflow, subst (λ (y : Fault). Means {A = Opened} y (refused rules.OffsetOverflow)) (sym w.1) refl, ap (weigh c s ceiling e None) w.0)
weigh_wrong c s e ceiling (Some m) q f (inr w) =
    (rules.OffsetOverflow, subst (λ (y : Fault). Means {A = Opened} y (refused rules.OffsetOverflow)) (sym w.1) refl, ap (weigh c s ceiling e (Some m)) w.0)

-- the span: its questions answer what the rule is told
module _ (c : Config) (s : ℕ) (ceiling : Option ℕ) (v w : View) (floor : ℕ) (m : Option ℕ)
    (em : m ≡ v.disk.present.watermark) (ef : floor ≡ min (unwrap_or m 0) (or_max ceiling)) where
  floor_is : floor ≡ min (unwrap_or v.disk.present.watermark 0) (or_max ceiling)
  floor_is = ef ∙ ap (λ (o : Option ℕ). min (unwrap_or o 0) (or_max ceiling)) em

  pub span_stops : (f : Fault) → ((k : Blobs → Plan Opened) → Ends (examine_two c s ceiling floor (reverse (below (edge_at c s ceiling) v.disk.blobs)) k) v f w) → Ends (spanned c s ceiling v.disk) v f w
  span_stops f h =
      let E = edge_at c s ceiling in
      let K : Blobs → Plan Opened = λ bs. weigh c s ceiling E v.disk.present.watermark (walk_all c s bs) in
      subst (λ (n : ℕ). Ends (examine_two c s ceiling n (reverse (below E v.disk.blobs)) K) v f w) floor_is (h K)

-- a clear is completed, and then the ceiling is looked at
module _ (c : Config) (ceiling : Option ℕ) (v w : View) (t : ℕ) where
  abbrev looked : Plan Opened
  looked = refuse_if (is_below ceiling t) (rules.ItemPruned (or_max ceiling)) (answer (empty_at t))

  pub cleared_low : (v.up ≡ true) × AllDone (clearing c t (numbers v.disk.blobs)) v w → is_below ceiling t ≡ true → Ends (ask (cleared c ceiling v.disk t)) v (ItemPruned (or_max ceiling)) w
  cleared_low a l =
      let f = refuse_yes (rules.ItemPruned (or_max ceiling)) (answer (empty_at t)) w (is_below ceiling t) l in
      (refused (rules.ItemPruned (or_max ceiling)), refl, asks_done looked (clearing c t (numbers v.disk.blobs)) v w w (refused (rules.ItemPruned (or_max ceiling))) a f)

  pub cleared_done : (v.up ≡ true) × AllDone (clearing c t (numbers v.disk.blobs)) v w → is_below ceiling t ≡ false
      → Follows (ask (cleared c ceiling v.disk t)) v (answered (empty_at t)) w
  cleared_done a l =
      asks_done looked (clearing c t (numbers v.disk.blobs)) v w w (answered (empty_at t)) a
      (refuse_not (rules.ItemPruned (or_max ceiling)) (answer (empty_at t)) w (is_below ceiling t) (answered (empty_at t)) w l (refl, refl))

  pub cleared_stops : (e : StoreFault) → Halts (clearing c t (numbers v.disk.blobs)) v e w → Ends (ask (cleared c ceiling v.disk t)) v (Store e) w
  cleared_stops e h = let s = asks_stopped looked (clearing c t (numbers v.disk.blobs)) v w e h in (stopped s.at e.cause, (s.at, s.step, refl), s.follows)

-- a plan that begins with a question to a store that is up
pub told_ends : (p : Plan Opened) (v : View) (f : Fault) → v.up ≡ true → Tells f p → Ends (ask p) v f v
told_ends p v f up t = let h = tells_ends p v f t in (h.0, h.1, inl (up, h.2))

-- and to one that is down
pub look_down : {X : Type 0} (p : Plan Opened) (v : View) (y : X) (e : StoreFault) (k : Key) → e.step ≡ at.Looked k → ◌≡◌ {A = Result X Cause} (cond v.up (Ok y) (Err Power)) (Err e.cause) → Ends (ask p) v (Store e) v
look_down p v y e k st q = let d = refused_down v.up y e.cause q in (stopped (rules.Looked k) e.cause, (rules.Looked k, st, refl), inr (d.0, (rules.Looked k, ap (stopped (rules.Looked k)) d.1), refl))
