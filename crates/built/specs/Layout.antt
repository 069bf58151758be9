-- How the blobs of a table stand in a memory, as a medium of type S has it.
use Rattle.std.specs.Prelude.{ℕ, List}
use Rattle.std.specs.Global.{Vec}
use Rattle.store.specs.Disk.{Blobs}
use Rattle.catalog.specs.declared.table.Table.{Table}
use Rattle.catalog.specs.Seen.{Content}

pub record Layout (S : Type 0) : Type 1 where
  -- the memory, as a whole and by its pieces: bytes, or sectors
  pub memory : S → Vec ℕ
  pub piece : S → ℕ → List ℕ
  -- the first n bytes of the blob at place p
  pub content : S → Content
  -- how many bytes more each blob takes, among given blobs
  pub room : S → Blobs → ℕ → ℕ
  -- how many bytes a blob of n bytes can come to have; a new one has none
  pub limit : S → ℕ → ℕ
  -- the rows of a table stand in it
  pub Holds : S → Table → Type 0
  pub one : (m : S) (t : Table) → IsProp (Holds m t)
  -- piece q is neither free nor one of those of the n bytes at place p
  pub Outside : S → ℕ → ℕ → ℕ → Type 0
  -- the memories that are fit, and what is made of any
  pub Fit : Vec ℕ → Type 0
  pub Laid : Vec ℕ → S → Type 0
  -- what remains where bytes are only dropped
  pub Dropped : S → S → Type 0
