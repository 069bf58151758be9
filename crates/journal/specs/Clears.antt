-- A clear that is staged, and one that is completed.
use Rattle.std.specs.Prelude.{◌≡◌, ℕ, Ok, Err, Result}
use Rattle.store.specs.Disk.{View}
use Rattle.rules.specs.Rules.{answered, Follows}
use Rattle.rules.specs.Calls.{stage_rule, complete_rule}
use Rattle.journal.specs.declared.config.Config.{Config}
use Rattle.journal.specs.declared.log.Stop.{Stop}
use Rattle.journal.specs.declared.log.Lost.{Lost}
use Rattle.journal.specs.declared.log.Log.{Log}
use Rattle.journal.specs.declared.staged.StagedClear.{StagedClear}
use Rattle.journal.specs.Configs.{ruled}
use Rattle.journal.specs.Logs.{held_of, Stops, Calls}

abbrev pub Staged : {S K L : Type 0} → (S → View) → Config → ℕ → View → L → Result (S × StagedClear K) (Stop L S) → Type 0
Staged view c t v l r = Calls view (λ x. x.0) (λ x. tt) (λ x. (x.1.target ≡ t) × (x.1.config ≡ c)) (stage_rule v.disk t) v l r

abbrev pub Completed : {P S K : Type 0} → (S → View) → StagedClear K → View → Result (Log P S K) (Lost S) → Type 0
Completed view t v (Ok x) = Follows (complete_rule (ruled t.config) v.disk t.target) v (answered (held_of x.held)) (view x.store) × (x.config ≡ t.config)
Completed view t v (Err e) = Stops (complete_rule (ruled t.config) v.disk t.target) v e.fault (view e.store)
