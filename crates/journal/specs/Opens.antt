-- Opening, by the rule.
use Rattle.std.specs.Prelude.{◌≡◌, ℕ, Ok, Err, Option, Result}
use Rattle.store.specs.Disk.{View}
use Rattle.rules.specs.Rules.{answered, Follows}
use Rattle.rules.specs.Open.{open_rule}
use Rattle.journal.specs.declared.config.Config.{Config}
use Rattle.journal.specs.declared.log.Lost.{Lost}
use Rattle.journal.specs.declared.log.Log.{Log}
use Rattle.journal.specs.Configs.{ruled}
use Rattle.journal.specs.Logs.{held_of}
use Rattle.journal.specs.Recovery.{Ends}

abbrev pub Opens : {P S K : Type 0} → (S → View) → Config → Option ℕ → View → Result (Log P S K) (Lost S) → Type 0
Opens view c ceiling v (Ok o) = Follows (open_rule (ruled c) ceiling v.disk) v (answered (held_of o.held)) (view o.store) × (o.config ≡ c)
Opens view c ceiling v (Err l) = Ends (open_rule (ruled c) ceiling v.disk) v l.fault (view l.store)
