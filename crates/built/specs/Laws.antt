-- The laws of a layout.
use Rattle.std.specs.Prelude.{◌≡◌, ℕ, ◌+◌}
use Rattle.store.specs.Built.{bytes_there}
use Rattle.store.specs.Disk.{find}
use Rattle.catalog.specs.declared.table.Table.{Table}
use Rattle.catalog.specs.Blobs.{blobs_by, SameRows}
use Rattle.catalog.specs.Seen.{Stands, blob_at}
use Rattle.built.specs.Layout.{Layout}

pub record Laws {S : Type 0} (L : Layout S) : Type 0 where
  -- the bytes of each row are as many as it says
  pub stands : (m : S) (t : Table) → L.Holds m t → Stands (L.content m) t
  -- only sound and safe lengths change
  pub same : (m : S) (t u : Table) → L.Holds m t → SameRows t u → L.Holds m u
  -- no bytes dropped
  pub stays : (m : S) → L.Dropped m m
  -- the room of a blob and its bytes are its limit
  pub room : (m : S) (t : Table) → L.Holds m t → (b : ℕ)
      → L.room m (blobs_by (blob_at (L.content m)) t) b + bytes_there (find (blobs_by (blob_at (L.content m)) t) b) ≡ L.limit m (bytes_there (find (blobs_by (blob_at (L.content m)) t) b))
