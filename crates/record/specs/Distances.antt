-- A distance record has 7 bytes, the highest of each number first: station 4, reading 2, grade 1. A grade above 3 is no record.
use Rattle.std.specs.Prelude.{ℕ, ◌^◌, ◌<◌, cond, List, [], ◌∷◌, ◌++◌, length, take, drop, Some, None, Option, ◌==◌, slice_index}
use Rattle.octets.specs.BigEndian.{digits, number_of}
use Rattle.record.specs.declared.distance.Grade.{Grade}
use Rattle.record.specs.declared.distance.Distance.{Distance}
use Rattle.record.specs.Grades.{grade_number, grade_of}

abbrev pub encode_distance : Distance → List ℕ
encode_distance d = digits 4 d.station ++ (digits 2 d.reading ++ grade_number d.grade ∷ [])

abbrev pub graded : List ℕ → Option Grade → Option Distance
graded bs None = None
graded bs (Some g) = Some (record { station = number_of (take 4 bs); reading = number_of (take 2 (drop 4 bs)); grade = g })

abbrev pub decode_distance : List ℕ → Option Distance
decode_distance bs = cond (length bs == 7) (graded bs (grade_of (slice_index bs 6))) None

pub record FitsDistance (d : Distance) : Type 0 where
  pub station : d.station < 2 ^ 32
  pub reading : d.reading < 2 ^ 16
