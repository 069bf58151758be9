-- Calls of the store, whose refusals name the step.
use Rattle.std.specs.Prelude.{◌≡◌, ℕ, true, false, ◌⊎◌, List, [], ◌∷◌, Ok, Err, Result}
use Rattle.store.specs.declared.cause.Cause.{Cause}
use Rattle.store.specs.declared.cause.Cause.TheVariants.{Power}
use Rattle.store.specs.Disk.{View, Op, Does, Refuses}
use Rattle.journal.specs.declared.fault.Step.{Step}
use Rattle.journal.specs.declared.fault.Step.TheVariants.{Copied}
use Rattle.journal.specs.declared.fault.StoreFault.{StoreFault}
use Rattle.rules.specs.Rules.{Step as Rule}
use Rattle.journal.specs.Faults.{step_of, step_of_op}

-- what the store answers, where a refusal names its step
abbrev pub named : {X : Type 0} → Step → Result X Cause → Result X StoreFault
named s (Ok x) = Ok x
named s (Err y) = Err (record { cause = y; step = s })

-- one writing call
abbrev pub Took : {X : Type 0} → Op → View → Result X StoreFault → View → Type 0
Took o v (Ok x) w = Does o v w
Took o v (Err e) w = (e.step ≡ step_of_op o) × Refuses o v e.cause w

-- a question, and what the store answers to it
abbrev pub Asked : {X : Type 0} → Step → Result X Cause → Result X StoreFault → Type 0
Asked s q (Ok x) = q ≡ Ok x
Asked s q (Err e) = (e.step ≡ s) × (q ≡ Err e.cause)

-- writing calls in order: all of them are done
abbrev pub AllDone : List Op → View → View → Type 0
AllDone [] v w = w ≡ v
AllDone (o ∷ os) v w = (u : View) × Does o v u × AllDone os u w

-- or one is refused, those before it done
abbrev pub StopsIn : List Op → View → StoreFault → View → Type 0
StopsIn [] v e w = ⊥
StopsIn (o ∷ os) v e w = ((e.step ≡ step_of_op o) × Refuses o v e.cause w) ⊎ ((u : View) × Does o v u × StopsIn os u e w)

abbrev pub TookAll : {X : Type 0} → List Op → View → Result X StoreFault → View → Type 0
TookAll os v (Ok x) w = AllDone os v w
TookAll os v (Err e) w = StopsIn os v e w

-- the store is down, and a question says so
abbrev pub Down : View → StoreFault → View → Type 0
Down v e w = (v.up ≡ false) × (e.cause ≡ Power) × ((s : Rule) × (e.step ≡ step_of s)) × (w ≡ v)

abbrev pub Halts : List Op → View → StoreFault → View → Type 0
Halts os v e w = ((v.up ≡ true) × StopsIn os v e w) ⊎ Down v e w

-- a question, and then writing calls in order
abbrev pub Asks : {X : Type 0} → List Op → View → Result X StoreFault → View → Type 0
Asks os v (Ok x) w = (v.up ≡ true) × AllDone os v w
Asks os v (Err e) w = Halts os v e w

-- bytes that are read out
abbrev pub Read : {X : Type 0} → ℕ → Result (List ℕ) Cause → Result X StoreFault → List ℕ → Type 0
Read b asked (Ok x) new = asked ≡ Ok new
Read b asked (Err e) new = (e.step ≡ Copied b) × (asked ≡ Err e.cause)
