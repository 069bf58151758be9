use Rattle.std.proofs.Common.{◌≡◌, length, take, drop}
use Rattle.sectors.specs.Sectors.{next_of, after}
use Rattle.sectors.specs.Chains.{joint}
use Rattle.sectors.proofs.Pieces.{done}
use Rattle.sectors.proofs.payloads.read.Given as goal

abbrev pub invariant-loop-k : goal.invariant-loop-k
invariant-loop-k l =
    let n = done l.at (length l.fn.out) l.k in
    (l.s ≡ after l.k (next_of l.memory) l.fn.c.first) × (take n l.out ≡ take n (drop l.at (joint l.memory l.fn.c)))
