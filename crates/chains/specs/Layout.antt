-- How blobs stand in sectors.
use Rattle.std.specs.Prelude.{◌≡◌, ℕ, ◌+◌, ◌*◌, ◌/◌, ◌≤◌, [], ◌∷◌, vec_items, vec_len}
use Rattle.store.specs.Occurs.{occurs}
use Rattle.catalog.specs.Blobs.{live}
use Rattle.sectors.specs.Sectors.{next_of, payload, sectors, need}
use Rattle.sectors.specs.Chains.{list, Relinked}
use Rattle.built.specs.Layout.{Layout}
use Rattle.chains.specs.declared.chains.Sectors.{Sectors}
use Rattle.chains.specs.Cover.{usable}
use Rattle.chains.specs.Covering.{Chained}
use Rattle.chains.specs.Seen.{chain_bytes, room_in}
use Rattle.std.proofs.Props.{props}

-- on an unfit memory no blob has room
abbrev pub in_sectors : Layout Sectors
in_sectors = record {
  memory = λ m. m.memory;
  piece = λ m q. next_of (vec_items m.memory) q ∷ payload (vec_items m.memory) q;
  content = λ m. chain_bytes (vec_items m.memory);
  room = λ m. room_in m.sectors;
  limit = λ m n. 60 * (need n + m.free.count);
  Holds = λ m t. Chained m.sectors (vec_items m.memory) (live t) m.free;
  one = λ m t. Prim.hlevel props;
  Outside = λ m p n q. (occurs q (list (vec_items m.memory) m.free) ≡ 0) × (occurs q (sectors (need n) (next_of (vec_items m.memory)) p) ≡ 0);
  Fit = λ v. (2 ≤ vec_len v / 64) × (vec_len v / 64 ≤ 65536);
  Laid = λ v m. Relinked (vec_items v) (list (vec_items m.memory) m.free) (vec_items m.memory)
      × (vec_len m.memory ≡ vec_len v)
      × (m.sectors ≡ usable (vec_len v / 64))
      × (usable (vec_len v / 64) ≡ 0 → (b : ℕ) → room_in m.sectors [] b ≡ 0);
  Dropped = λ m w. Unit {0};
}
