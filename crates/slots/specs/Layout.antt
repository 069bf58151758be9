-- How blobs stand in the parts.
use Rattle.std.specs.Prelude.{◌≡◌, ℕ, ◌+◌, ◌-◌, ◌*◌, ◌/◌, ◌<◌, ◌≤◌, ◌⊎◌, List, [], ◌∷◌, length, take, drop, Some, None, vec_items, vec_len, Option, slice_index}
use Rattle.std.specs.Coded.{×_prop, Π_prop, le_prop}
use Rattle.std.specs.Global.{Vec}
use Rattle.store.specs.Disk.{Blob, Blobs, find}
use Rattle.catalog.specs.declared.table.Table.{Table}
use Rattle.catalog.specs.Blobs.{live}
use Rattle.catalog.specs.Rows.{Each, places_of}
use Rattle.catalog.specs.Seen.{Content}
use Rattle.built.specs.Layout.{Layout}
use Rattle.slots.specs.declared.parts.Parts.{Parts}
use Rattle.slots.specs.Shares.{EachOnce}

-- the first n bytes of part p, each part `each` bytes long
abbrev pub part_of : List ℕ → ℕ → Content
part_of mem each p n = take n (drop (p * each) mem)

abbrev pub content_of : Parts → Content
content_of m = part_of (vec_items m.memory) m.each

-- the bytes of a part less the blob's length; a blob that is not there would have a whole part
abbrev pub room_by : ℕ → Option Blob → ℕ
room_by each None = each
room_by each (Some x) = each - length x.bytes

abbrev pub room_in : ℕ → Blobs → ℕ → ℕ
room_in each xs b = room_by each (find xs b)

-- byte k is not in part p
abbrev pub Apart : ℕ → ℕ → ℕ → Type 0
Apart each p k = (k < p * each) ⊎ (p * each + each ≤ k)

-- each blob lies within its part, and no part is in two rows
abbrev pub Holds : Parts → Table → Type 0
Holds m t = Each (λ r. r.len ≤ m.each) (live t) × EachOnce (places_of t.rows)

pub holds_prop : (m : Parts) (t : Table) → IsProp (Holds m t)
holds_prop m t = ×_prop (Π_prop (λ k. Π_prop (λ l. le_prop))) (Π_prop (λ p. le_prop))

-- any memory is taken as it is, and cut into 64
pub record Laid (v : Vec ℕ) (m : Parts) : Type 0 where
  pub memory : m.memory ≡ v
  pub each : m.each ≡ vec_len v / 64

abbrev pub layout : Layout Parts
layout =
    record {
      memory = λ m. m.memory;
      piece = λ m k. slice_index (vec_items m.memory) k ∷ [];
      content = content_of;
      room = λ m. room_in m.each;
      limit = λ m n. m.each;
      Holds = Holds;
      one = holds_prop;
      Outside = λ m p n k. Apart m.each p k;
      Fit = λ v. 64 ≤ vec_len v;
      Laid = Laid;
      Dropped = λ m w. w.memory ≡ m.memory;
    }
