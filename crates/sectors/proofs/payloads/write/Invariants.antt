use Rattle.std.proofs.Common.{◌≡◌, length, take}
use Rattle.sectors.specs.Sectors.{next_of, after}
use Rattle.sectors.specs.Chains.{Filled}
use Rattle.sectors.proofs.Pieces.{done}
use Rattle.sectors.proofs.payloads.write.Given as goal

abbrev pub invariant-loop-k : goal.invariant-loop-k
invariant-loop-k l =
    (l.s ≡ after l.k (next_of l.fn.memory) l.fn.c.first)
    × Filled l.fn.memory l.fn.c l.at (take (done l.at (length l.bytes) l.k) l.bytes) l.memory
