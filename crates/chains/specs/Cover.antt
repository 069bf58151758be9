-- The chains of all blobs and the free chain: every sector but 0 stands in one of them.
use Rattle.std.specs.Prelude.{◌≡◌, ℕ, ◌+◌, ◌-◌, cond, List, [], ◌∷◌, nat_le}
use Rattle.store.specs.Occurs.{occurs}
use Rattle.catalog.specs.declared.row.Row.{Row}
use Rattle.sectors.specs.declared.chain.Chain.{Chain}
use Rattle.sectors.specs.Sectors.{once, need}
use Rattle.sectors.specs.Chains.{list}

-- how many of the memory's sectors are put to use: none if there are too few or too many
abbrev pub usable : ℕ → ℕ
usable m = cond (nat_le 2 m) (cond (nat_le m 65536) m 0) 0

-- the chain of a row: as many sectors as its bytes need
abbrev pub chain_of : Row → Chain
chain_of r = record { first = r.place; last = r.tail; count = need r.len }

abbrev pub total : (Row → ℕ) → List Row → ℕ
total h [] = 0
total h (r ∷ rs) = h r + total h rs

-- each of the sectors 1 to n − 1 stands at one place of one chain, of these rows' and the free one, and no other does
abbrev pub Covers : ℕ → List ℕ → List Row → Chain → Type 0
Covers n mem rs free = (p : ℕ) → total (λ r. occurs p (list mem (chain_of r))) rs + occurs p (list mem free) ≡ once n p

-- and they are that many
abbrev pub Counted : ℕ → List Row → Chain → Type 0
Counted n rs free = total (λ r. need r.len) rs + free.count ≡ n - 1

-- the same row with its bytes in another chain
abbrev pub placed_row : Row → Chain → Row
placed_row r c = record { number = r.number; place = c.first; tail = c.last; len = r.len; sound = r.sound; safe = r.safe }
