-- What a lookup by number tells.
use Rattle.std.specs.Prelude.{◌≡◌, ℕ, ◌^◌, ◌<◌, ◌≤◌, Some, None, Ok, Err, Option, Result, slice_index}
use Rattle.store.specs.declared.cause.Cause.{Cause}
use Rattle.store.specs.declared.cause.Cause.TheVariants.{Missing}
use Rattle.store.specs.Disk.{Blob, find}
use Rattle.catalog.specs.declared.row.Row.{Row}
use Rattle.catalog.specs.declared.table.Table.{Table}
use Rattle.catalog.specs.Rows.{numbers_of}
use Rattle.catalog.specs.Blobs.{live, row_at, blobs_by}

pub record Here (b : ℕ) (t : Table) (i : ℕ) : Type 0 where
  pub within : i < t.count
  pub before : (k : ℕ) → k < i → slice_index (numbers_of (live t)) k < b
  pub number : (row_at t i).number ≡ b
  pub safe_within : (row_at t i).safe ≤ (row_at t i).sound
  pub sound_within : (row_at t i).sound ≤ (row_at t i).len
  pub fits : (row_at t i).len < 2 ^ 64
  pub found : (g : Row → Blob) → find (blobs_by g t) b ≡ Some (g (row_at t i))

abbrev pub FoundAt : ℕ → Table → Option ℕ → Type 0
FoundAt b t None = (g : Row → Blob) → find (blobs_by g t) b ≡ None
FoundAt b t (Some i) = Here b t i

abbrev pub FoundOr : ℕ → Table → Result ℕ Cause → Type 0
FoundOr b t (Ok i) = Here b t i
FoundOr b t (Err c) = (c ≡ Missing) × ((g : Row → Blob) → find (blobs_by g t) b ≡ None)
