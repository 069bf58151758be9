-- The causes as text.
use Rattle.std.specs.Prelude.{ℕ, List, codes}
use Rattle.store.specs.declared.cause.Cause.{Cause}
use Rattle.store.specs.declared.cause.Cause.TheVariants.{Power, Missing, Range, Torn, NoRoom}

abbrev pub cause_text : Cause → List ℕ
cause_text Power = codes "power"
cause_text Missing = codes "missing"
cause_text Range = codes "range"
cause_text Torn = codes "torn"
cause_text NoRoom = codes "no room"
