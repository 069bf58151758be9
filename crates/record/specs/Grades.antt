-- The four grades and their numbers.
use Rattle.std.specs.Prelude.{ℕ, cond, Some, None, Option, ◌==◌}
use Rattle.record.specs.declared.distance.Grade.{Grade}
use Rattle.record.specs.declared.distance.Grade.TheVariants.{Zero, One, Two, Three}

abbrev pub grade_number : Grade → ℕ
grade_number Zero = 0
grade_number One = 1
grade_number Two = 2
grade_number Three = 3

abbrev pub grade_of : ℕ → Option Grade
grade_of n = cond (n == 0) (Some Zero) (cond (n == 1) (Some One) (cond (n == 2) (Some Two) (cond (n == 3) (Some Three) None)))
