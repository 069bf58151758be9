-- The view of a built store.
use Rattle.std.specs.Prelude.{ℕ}
use Rattle.store.specs.Disk.{Blob, Blobs, View}
use Rattle.catalog.specs.declared.row.Row.{Row}
use Rattle.catalog.specs.Blobs as table
use Rattle.catalog.specs.Blobs.{blobs_by}
use Rattle.catalog.specs.Seen.{Content, blob_at, view_by}
use Rattle.built.specs.declared.medium.Medium.{Ghosts}
use Rattle.built.specs.declared.built.Built.{Built}

module _ {S : Type 0} {M : Ghosts S} where
  abbrev pub content_of : Built S M → Content
  content_of s = M.layout.content s.medium

  abbrev pub room_in : Built S M → Blobs → ℕ → ℕ
  room_in s = M.layout.room s.medium

  abbrev pub row_at : Built S M → ℕ → Row
  row_at s i = table.row_at s.catalog.table i

  -- what a row of this store stands for
  abbrev pub blob_in : Built S M → Row → Blob
  blob_in s = blob_at (content_of s)

  abbrev pub blobs : Built S M → Blobs
  blobs s = blobs_by (blob_in s) s.catalog.table

  abbrev pub seen : Built S M → View
  seen s = view_by (content_of s) (room_in s) s.catalog
