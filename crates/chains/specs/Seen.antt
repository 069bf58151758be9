-- The bytes of a blob, and the room that is left.
use Rattle.std.specs.Prelude.{ℕ, ◌+◌, ◌-◌, ◌*◌, List, [], ◌∷◌, length, take, Some, None, Option}
use Rattle.std.specs.List.{flat_map}
use Rattle.store.specs.Disk.{Blob, Blobs, find}
use Rattle.catalog.specs.Seen.{Content}
use Rattle.sectors.specs.Sectors.{next_of, payload, sectors, need}

-- the first n bytes of the chain that begins at sector p: the payloads of as many sectors as they need, one after another
abbrev pub chain_bytes : List ℕ → Content
chain_bytes mem p n = take n (flat_map (payload mem) (sectors (need n) (next_of mem) p))

-- how many sectors the blobs are in
abbrev pub sectors_of : Blobs → ℕ
sectors_of [] = 0
sectors_of (x ∷ xs) = need (length x.1.bytes) + sectors_of xs

-- what the last sector has left; a blob that is not there has none
abbrev pub unused : Option Blob → ℕ
unused None = 0
unused (Some x) = 60 * need (length x.bytes) - length x.bytes

-- that, and 60 bytes for each free sector, of n sectors but sector 0
abbrev pub room_in : ℕ → Blobs → ℕ → ℕ
room_in n xs b = unused (find xs b) + 60 * (n - 1 - sectors_of xs)
