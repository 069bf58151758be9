use Rattle.std.proofs.Common.{◌≡◌, ℕ, ◌+◌, ◌<◌, ◌≤◌, ◌⊎◌}
use Rattle.sectors.specs.Sectors.{next_of, payload}
use Rattle.sectors.proofs.set_up.link_all.Given as goal

abbrev pub invariant-loop-s : goal.invariant-loop-s
invariant-loop-s l =
    ((q : ℕ) → 1 ≤ q → q < l.s → next_of l.memory q ≡ q + 1)
    × ((q : ℕ) → payload l.memory q ≡ payload l.initial.memory q)
    × ((q : ℕ) → (q ≡ 0) ⊎ (l.s ≤ q) → next_of l.memory q ≡ next_of l.initial.memory q)
