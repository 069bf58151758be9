-- The logs by their meaning, and how a call of one ends.
use Rattle.std.specs.Prelude.{◌≡◌, ℕ, false, Some, None, Ok, Err, Option, Result}
use Rattle.store.specs.declared.cause.Cause.{Cause}
use Rattle.store.specs.Disk.{View}
use Rattle.rules.specs.Rules.{Plan, Step, answered, refused, stopped, Follows}
use Rattle.rules.specs.Rules.{Fault as Ruled}
use Rattle.rules.specs.Open.{Opened as Rule, no_edge}
use Rattle.journal.specs.declared.fault.Fault.{Fault}
use Rattle.journal.specs.declared.log.Held.{Held}
use Rattle.journal.specs.declared.log.Stop.{Stop}
use Rattle.journal.specs.declared.log.Stop.TheVariants.{Refused, Ended}
use Rattle.journal.specs.Faults.{Means}

abbrev pub edge_of : Option ℕ → ℕ
edge_of None = no_edge
edge_of (Some e) = e

abbrev pub held_of : Held → Rule
held_of h = record { start = h.start; end = h.end; mark = h.mark; bounded = h.bounded; edge = edge_of h.edge }

-- a log of no positions, the first to come at t
abbrev pub empty_at : ℕ → Rule
empty_at t = record { start = t; end = t; mark = t; bounded = false; edge = no_edge }

-- a plan is followed to a refusal that changes nothing, and a fault tells it
abbrev pub Denies : {A : Type 0} → Plan A → View → Fault → Type 0
Denies {A = A} p v f = (x : Ruled) × Means {A = A} f (refused x) × Follows p v (refused x) v

-- or to a stop by the store
abbrev pub Stops : {A : Type 0} → Plan A → View → Fault → View → Type 0
Stops {A = A} p v f w = (s : Step) × (y : Cause) × Means {A = A} f (stopped s y) × Follows p v (stopped s y) w

-- a call of the log l on its store v that follows p; of what it gives, means x is the plan's answer, and store x the store.
-- Refused, it hands the log back, and stopped, the store
abbrev pub Calls : {S L X A : Type 0} → (S → View) → (X → S) → (X → A) → (X → Type 0) → Plan A → View → L → Result X (Stop L S) → Type 0
Calls view store means Kept p v l (Ok x) = Follows p v (answered (means x)) (view (store x)) × Kept x
Calls view store means Kept p v l (Err (Refused k f)) = (k ≡ l) × Denies p v f
Calls view store means Kept p v l (Err (Ended s f)) = Stops p v f (view s)
