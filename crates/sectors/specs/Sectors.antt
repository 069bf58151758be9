-- Sectors of 64 bytes: four bytes of next sector number, big-endian, then 60 bytes of payload.
-- A chain goes by the next numbers alone, as a function from sectors to sectors, and not by the memory:
-- a write to the memory is then a change of that function at one sector, or none.
use Rattle.std.specs.Prelude.{◌≡◌, ℕ, zero, suc, ◌+◌, ◌*◌, ◌/◌, ◌≤◌, min, cond, List, [], ◌∷◌, length, take, drop, ◌≢◌, nat_lt}
use Rattle.octets.specs.BigEndian.{number_of}
use Rattle.octets.specs.Written.{written}
use Rattle.store.specs.Occurs.{occurs}

unfoldable pub next_of : List ℕ → ℕ → ℕ
next_of mem s = number_of (take 4 (drop (64 * s) mem))

unfoldable pub payload : List ℕ → ℕ → List ℕ
payload mem s = take 60 (drop (64 * s + 4) mem)

-- the first k sectors of the chain that begins at s
abbrev pub sectors : ℕ → (ℕ → ℕ) → ℕ → List ℕ
sectors zero next s = []
sectors (suc k) next s = s ∷ sectors k next (next s)

-- where k steps lead: 0 after the last sector of a chain of k
abbrev pub after : ℕ → (ℕ → ℕ) → ℕ → ℕ
after zero next s = s
after (suc k) next s = after k next (next s)

-- the last of k sectors, or 0 if there is none
abbrev pub last_of : ℕ → (ℕ → ℕ) → ℕ → ℕ
last_of zero next s = 0
last_of (suc k) next s = after k next s

-- 1 for each number from 1 to n − 1, and 0 for every other
abbrev pub once : ℕ → ℕ → ℕ
once n p = cond (nat_lt 0 p) (cond (nat_lt p n) 1 0) 0

-- sectors of the memory, none of them twice and none of them sector 0
abbrev pub Apart : List ℕ → List ℕ → Type 0
Apart mem xs = (p : ℕ) → occurs p xs ≤ once (min (length mem / 64) 65536) p

-- how many sectors n bytes need
abbrev pub need : ℕ → ℕ
need n = (n + 59) / 60

-- sector s got the next number n, and nothing else changed
pub record Linked (mem : List ℕ) (s n : ℕ) (new : List ℕ) : Type 0 where
  pub here : next_of new s ≡ n
  pub others : (q : ℕ) → (q ≢ s) → next_of new q ≡ next_of mem q
  pub payloads : (q : ℕ) → payload new q ≡ payload mem q

-- sector s got the bytes bs in its payload, from `from` on, and nothing else changed
pub record Stored (mem : List ℕ) (s from : ℕ) (bs new : List ℕ) : Type 0 where
  pub here : payload new s ≡ written (payload mem s) from bs
  pub others : (q : ℕ) → (q ≢ s) → payload new q ≡ payload mem q
  pub nexts : (q : ℕ) → next_of new q ≡ next_of mem q
