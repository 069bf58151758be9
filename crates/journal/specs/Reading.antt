-- A read of one record, by the rules.
use Rattle.std.specs.Prelude.{◌≡◌, [], ◌∷◌, Ok, Err, Result}
use Rattle.rules.specs.Rules.{answered}
use Rattle.rules.specs.Reads.{Reading}
use Rattle.journal.specs.declared.fault.Fault.{Fault}
use Rattle.journal.specs.Faults.{Means}

abbrev pub ReadOne : {R : Type 0} → Reading R → Result R Fault → Type 0
ReadOne x (Ok k) = (x.records ≡ k ∷ []) × (x.outcome ≡ answered tt)
ReadOne x (Err f) = Means f x.outcome
