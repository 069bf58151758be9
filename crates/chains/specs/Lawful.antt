-- The laws of blobs in sectors.
use Rattle.std.specs.Prelude.{◌≡◌, ℕ, ◌+◌, ◌*◌, List, Some, None, vec_items, Option, refl}
use Rattle.std.proofs.Common.{arith, ap}
use Rattle.store.specs.Disk.{Blob, find}
use Rattle.store.specs.Built.{bytes_there}
use Rattle.catalog.specs.declared.table.Table.{Table}
use Rattle.catalog.specs.Blobs.{live, blobs_by}
use Rattle.catalog.specs.Seen.{blob_at}
use Rattle.sectors.specs.declared.chain.Chain.{Chain}
use Rattle.sectors.specs.Sectors.{need}
use Rattle.built.specs.Laws.{Laws}
use Rattle.chains.specs.Covering.{Chained}
use Rattle.chains.specs.Contents.{sized, free_sectors, room_of}
use Rattle.chains.specs.Changes.{chained_same}
use Rattle.chains.specs.Layout.{in_sectors}
use Rattle.chains.specs.Seen.{chain_bytes, unused, room_in}

-- a blob's room and its bytes are what it can come to have
limited : (n : ℕ) (mem : List ℕ) (t : Table) (free : Chain) → Chained n mem (live t) free → (b : ℕ) (o : Option Blob) → find (blobs_by (blob_at (chain_bytes mem)) t) b ≡ o
    → room_in n (blobs_by (blob_at (chain_bytes mem)) t) b + bytes_there o ≡ 60 * (need (bytes_there o) + free.count)
limited n mem t free h b None e = omega (arith, ap unused e, free_sectors n mem t free h)
limited n mem t free h b (Some x) e = room_of n mem t free h b x e

pub lawful : Laws in_sectors
lawful =
    record {
      stands = λ m t h. sized m.sectors (vec_items m.memory) t m.free h;
      same = λ m t u h e. chained_same m.sectors (vec_items m.memory) t m.free h u e;
      stays = λ m. tt;
      room = λ m t h b. limited m.sectors (vec_items m.memory) t m.free h b (find (blobs_by (blob_at (chain_bytes (vec_items m.memory))) t) b) refl;
    }
