-- Lists of writing calls, put together, and the plans that begin with them.
use Rattle.std.proofs.Common.{◌≡◌, ℕ, Bool, true, false, cond, List, [], ◌∷◌, ◌++◌, map, Ok, Err, Result, sym, refl, ap, ◌∙◌, subst, inl, inr, arith}
use Rattle.store.specs.declared.cause.Cause.{Cause}
use Rattle.store.specs.declared.cause.Cause.TheVariants.{Power}
use Rattle.store.specs.declared.keys.Key.{Key}
use Rattle.journal.specs.declared.fault.Step.TheVariants as at
use Rattle.store.specs.Disk.{View, Op, Does, Refuses}
use Rattle.rules.specs.Rules.{Plan, answer, ask, calls, refuse_if, Fault, Outcome, answered, refused, stopped, Follows, Wrote, Looked}
use Rattle.rules.specs.Rules.{Step as Rule}
use Rattle.journal.specs.declared.fault.StoreFault.{StoreFault}
use Rattle.journal.specs.declared.fault.Fault.{Fault as Said}
use Rattle.journal.specs.Faults.{Means, step_of, step_of_op}
use Rattle.journal.specs.declared.fault.Fault.TheVariants.{Store}
use Rattle.journal.specs.Logs.{Denies, Stops}
use Rattle.journal.specs.Steps.{Took, AllDone, StopsIn, TookAll, Halts, Asks}

pub impossible : {A : Type 0} → ◌≡◌ {A = ℕ} 0 1 → A
impossible e = absurd (omega arith)

pub up_and_down : {A : Type 0} (t : Bool) → t ≡ true → t ≡ false → A
up_and_down t p q = impossible cc

-- one call, and one call more
module _ {X : Type 0} where
  pub one : (o : Op) (v w : View) (r : Result X StoreFault) → Took o v r w → TookAll (o ∷ []) v r w
  one o v w (Ok x) t = (w, t, refl)
  one o v w (Err e) t = inl t

  pub next : (o : Op) (os : List Op) (v u w : View) (r : Result X StoreFault) → Does o v u → TookAll os u r w → TookAll (o ∷ os) v r w
  next o os v u w (Ok x) d t = (u, d, t)
  next o os v u w (Err e) d t = inr (u, d, t)

pub done_both : (os ps : List Op) (v u w : View) → AllDone os v u → AllDone ps u w → AllDone (os ++ ps) v w
done_both [] ps v u w a b = subst (λ (x : View). AllDone ps x w) a b
done_both (o ∷ os) ps v u w a b = (a.0, a.1, done_both os ps a.0 u w a.2 b)

pub stop_early : (os ps : List Op) (v w : View) (e : StoreFault) → StopsIn os v e w → StopsIn (os ++ ps) v e w
stop_early [] ps v w e s = absurd s
stop_early (o ∷ os) ps v w e (inl s) = inl s
stop_early (o ∷ os) ps v w e (inr s) = inr (s.0, s.1, stop_early os ps s.0 w e s.2)

pub stop_late : (os ps : List Op) (v u w : View) (e : StoreFault) → AllDone os v u → StopsIn ps u e w → StopsIn (os ++ ps) v e w
stop_late [] ps v u w e a s = subst (λ (x : View). StopsIn ps x e w) a s
stop_late (o ∷ os) ps v u w e a s = inr (a.0, a.1, stop_late os ps a.0 u w e a.2 s)

-- what is left of done calls is up
pub done_up : (os : List Op) (v w : View) → v.up ≡ true → AllDone os v w → w.up ≡ true
done_up [] v w u a = ap (λ (x : View). x.up) a ∙ u
done_up (o ∷ os) v w u a = done_up os a.0 w a.1.1 a.2

-- a question, calls, and more calls
module _ {X : Type 0} where
  pub asks_then : (os ps : List Op) (v u w : View) (r : Result X StoreFault) → (v.up ≡ true) × AllDone os v u → TookAll ps u r w → Asks (os ++ ps) v r w
  asks_then os ps v u w (Ok x) a t = (a.0, done_both os ps v u w a.1 t)
  asks_then os ps v u w (Err e) a t = inl (a.0, stop_late os ps v u w e a.1 t)

  pub asks_more : (o : Op) (os : List Op) (v u w : View) (r : Result X StoreFault) → v.up ≡ true → Does o v u → Asks os u r w → Asks (o ∷ os) v r w
  asks_more o os v u w (Ok x) up d a = (up, (u, d, a.1))
  asks_more o os v u w (Err e) up d (inl s) = inl (up, inr (u, d, s.1))
  asks_more o os v u w (Err e) up d (inr s) = up_and_down u.up d.1 s.0

pub asks_stop : (o : Op) (os : List Op) (v w : View) (e : StoreFault) → v.up ≡ true → (e.step ≡ step_of_op o) × Refuses o v e.cause w → Halts (o ∷ os) v e w
asks_stop o os v w e up t = inl (up, inl t)

pub asks_early : (os ps : List Op) (v w : View) (e : StoreFault) → Halts os v e w → Halts (os ++ ps) v e w
asks_early os ps v w e (inl s) = inl (s.0, stop_early os ps v w e s.1)
asks_early os ps v w e (inr s) = inr s

-- one call for each of some blobs: none is left, the first is done, or the first is refused
module _ (f : ℕ → Op) (ns : List ℕ) where
  pub turn_none : {X : Type 0} (v : View) (x : X) → ns ≡ [] → v.up ≡ true → Asks (map f ns) v (Ok x) v
  turn_none v x e up = (up, subst (λ (ks : List ℕ). AllDone (map f ks) v v) (sym e) refl)

  pub turn_done : {X : Type 0} (ms : List ℕ) (b : ℕ) (v u w : View) (r : Result X StoreFault) → ns ≡ b ∷ ms → v.up ≡ true → Does (f b) v u → Asks (map f ms) u r w → Asks (map f ns) v r w
  turn_done ms b v u w r e up d a = subst (λ (ks : List ℕ). Asks (map f ks) v r w) (sym e) (asks_more (f b) (map f ms) v u w r up d a)

  pub turn_stop : (ms : List ℕ) (b : ℕ) (v w : View) (y : StoreFault) → ns ≡ b ∷ ms → v.up ≡ true → (y.step ≡ step_of_op (f b)) × Refuses (f b) v y.cause w
      → Halts (map f ns) v y w
  turn_stop ms b v w y e up t = subst (λ (ks : List ℕ). Halts (map f ks) v y w) (sym e) (asks_stop (f b) (map f ms) v w y up t)

-- a question that is answered whatever the blobs are: the store is up, or it is down
module _ {X : Type 0} where
  pub answers : (b : Bool) (y : X) (x : X) → ◌≡◌ {A = Result X Cause} (cond b (Ok y) (Err Power)) (Ok x) → (b ≡ true) × (y ≡ x)
  answers true y x e = (refl, cc)
  answers false y x e = impossible (let z : ◌≡◌ {A = ℕ} 0 1 = cc in z)

  pub refused_down : (b : Bool) (y : X) (c : Cause) → ◌≡◌ {A = Result X Cause} (cond b (Ok y) (Err Power)) (Err c) → (b ≡ false) × (c ≡ Power)
  refused_down true y c e = impossible (let z : ◌≡◌ {A = ℕ} 0 1 = cc in z)
  refused_down false y c e = (refl, cc)

pub halts_looked : {X : Type 0} (os : List Op) (v : View) (k : Key) (y : X) (e : StoreFault) → e.step ≡ at.Looked k → ◌≡◌ {A = Result X Cause} (cond v.up (Ok y) (Err Power)) (Err e.cause) → Halts os v e v
halts_looked os v k y e st q = let h = refused_down v.up y e.cause q in inr (h.0, h.1, (Looked k, st), refl)

-- plans -----------------------------------------------------------------------------------------

-- a fault that tells the step and the cause of a stop
pub record Told {A : Type 0} (p : Plan A) (v : View) (e : StoreFault) (w : View) : Type 0 where
  pub at : Rule
  pub step : e.step ≡ step_of at
  pub follows : Follows p v (stopped at e.cause) w

module _ {A : Type 0} (f : Fault) (p : Plan A) (v : View) where
  pub refuse_yes : (b : Bool) → b ≡ true → Follows (refuse_if b f p) v (refused f) v
  refuse_yes true e = (refl, refl)
  refuse_yes false e = impossible (let z : ◌≡◌ {A = ℕ} 0 1 = cc in z)

  pub refuse_not : (b : Bool) (r : Outcome A) (w : View) → b ≡ false → Follows p v r w → Follows (refuse_if b f p) v r w
  refuse_not true r w e h = impossible (let z : ◌≡◌ {A = ℕ} 0 1 = cc in z)
  refuse_not false r w e h = h

module _ {A : Type 0} (p : Plan A) where
  pub follows_done : (os : List Op) (v u w : View) (r : Outcome A) → AllDone os v u → Follows p u r w → Follows (calls os p) v r w
  follows_done [] v u w r a f = subst (λ (x : View). Follows p x r w) a f
  follows_done (o ∷ os) v u w r a f = inl (a.0, a.1, follows_done os a.0 u w r a.2 f)

  pub follows_stop : (os : List Op) (v w : View) (e : StoreFault) → StopsIn os v e w → Told (calls os p) v e w
  follows_stop [] v w e s = absurd s
  follows_stop (o ∷ os) v w e (inl s) = record { at = Wrote o; step = s.0; follows = inr (e.cause, refl, s.1) }
  follows_stop (o ∷ os) v w e (inr s) =
      let t = follows_stop os s.0 w e s.2 in
      record { at = t.at; step = t.step; follows = inl (s.0, s.1, t.follows) }

  pub asks_done : (os : List Op) (v u w : View) (r : Outcome A) → (v.up ≡ true) × AllDone os v u → Follows p u r w → Follows (ask (calls os p)) v r w
  asks_done os v u w r a f = inl (a.0, follows_done os v u w r a.1 f)

  pub asks_stopped : (os : List Op) (v w : View) (e : StoreFault) → Halts os v e w → Told (ask (calls os p)) v e w
  asks_stopped os v w e (inl s) =
      let t = follows_stop os v w e s.1 in
      record { at = t.at; step = t.step; follows = inl (s.0, t.follows) }
  asks_stopped os v w e (inr s) = record {
    at = s.2.0;
    step = s.2.1;
    follows = inr (s.0, (s.2.0, ap (stopped s.2.0) s.1), s.3);
  }

pub told_stops : {A : Type 0} {p : Plan A} {v w : View} {e : StoreFault} → Told p v e w → Stops p v (Store e) w
told_stops {A} {p} {v} {w} {e} t = (t.at, e.cause, (t.at, t.step, refl), t.follows)

-- calls after a question, unless they are refused
module _ {A : Type 0} (b : Bool) (f : Fault) (os : List Op) (x : A) (v : View) where
  abbrev guarded : Plan A
  guarded = refuse_if b f (ask (calls os (answer x)))

  pub guard_refused : (e : Said) → Means {A = A} e (refused f) → b ≡ true → Denies guarded v e
  guard_refused e m t = (f, m, refuse_yes f (ask (calls os (answer x))) v b t)

  pub guard_done : (w : View) → b ≡ false → (v.up ≡ true) × AllDone os v w → Follows guarded v (answered x) w
  guard_done w t a = refuse_not f (ask (calls os (answer x))) v b (answered x) w t (asks_done (answer x) os v w w (answered x) a (refl, refl))

  pub guard_stopped : (w : View) (e : StoreFault) → b ≡ false → Halts os v e w → Stops guarded v (Store e) w
  guard_stopped w e t h =
      let q = told_stops (asks_stopped (answer x) os v w e h) in
      (q.0, q.1, q.2, refuse_not f (ask (calls os (answer x))) v b _ w t q.3)
