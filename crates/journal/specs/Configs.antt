-- A checked configuration, and the one of the rules that it stands for.
use Rattle.std.specs.Prelude.{◌≡◌, true, false, Ok, Err, Result}
use Rattle.store.specs.declared.config.BadConfig.{BadConfig}
use Rattle.rules.specs.Rules.{bad_config, Config as Rule}
use Rattle.journal.specs.declared.config.Config.{Config}

abbrev pub ruled : Config → Rule
ruled c = record { n = c.records; page = c.page; z = c.size }

abbrev pub Checked : Rule → Result Config BadConfig → Type 0
Checked c (Ok x) = (bad_config c ≡ false) × (ruled x ≡ c)
Checked c (Err e) = bad_config c ≡ true
