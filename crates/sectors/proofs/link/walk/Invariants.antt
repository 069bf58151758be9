use Rattle.std.proofs.Common.{◌≡◌}
use Rattle.sectors.specs.Sectors.{next_of, after}
use Rattle.sectors.proofs.link.walk.Given as goal

abbrev pub invariant-loop-i : goal.invariant-loop-i
invariant-loop-i l = l.s ≡ after l._i (next_of l.memory) l.first
