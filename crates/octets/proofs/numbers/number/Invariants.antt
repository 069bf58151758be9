use Rattle.std.proofs.Common.{◌≡◌, ◌^◌, ◌<◌, take}
use Rattle.octets.specs.BigEndian.{number_of}
use Rattle.octets.proofs.numbers.number.Given as goal

abbrev pub invariant-loop-b : goal.invariant-loop-b
invariant-loop-b l = (l.n ≡ number_of (take l.b-index l.bytes)) × (l.n < 256 ^ l.b-index)
