use Rattle.std.proofs.Common.{◌≡◌, replicate}
use Rattle.sectors.specs.Sectors.{next_of, after}
use Rattle.sectors.specs.Chains.{Filled}
use Rattle.sectors.proofs.Pieces.{done}
use Rattle.sectors.proofs.payloads.fill.Given as goal

abbrev pub invariant-loop-k : goal.invariant-loop-k
invariant-loop-k l =
    (l.s ≡ after l.k (next_of l.fn.memory) l.fn.c.first)
    × Filled l.fn.memory l.fn.c l.at (replicate (done l.at l.many l.k) l.value) l.memory
