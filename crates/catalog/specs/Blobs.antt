-- The blobs of a table, where g says what blob a row stands for.
use Rattle.std.specs.Prelude.{◌≡◌, ℕ, List, map, take, slice_index_or}
use Rattle.store.specs.Disk.{Blob, Blobs}
use Rattle.catalog.specs.declared.row.Row.{Row}
use Rattle.catalog.specs.declared.table.Table.{Table}
use Rattle.catalog.specs.Rows.{none, sized}

abbrev pub live : Table → List Row
live t = take t.count t.rows

abbrev pub row_at : Table → ℕ → Row
row_at t i = slice_index_or t.rows i none

abbrev pub entry_by : (Row → Blob) → Row → ℕ × Blob
entry_by g r = (r.number, g r)

abbrev pub blobs_by : (Row → Blob) → Table → Blobs
blobs_by g t = map (entry_by g) (live t)

-- a row without its sound and safe lengths
abbrev pub bare : Row → Row
bare r = sized r r.len 0 0

-- the same blobs at the same places, of the same lengths
pub record SameRows (t u : Table) : Type 0 where
  pub count : u.count ≡ t.count
  pub rows : map bare u.rows ≡ map bare t.rows
