-- One blob becomes another.
use Rattle.std.specs.Prelude.{◌≡◌, ℕ, ◌<◌, length, slice_set}
use Rattle.store.specs.Disk.{Blob}
use Rattle.built.specs.declared.medium.Medium.{Ghosts}
use Rattle.built.specs.declared.built.Built.{Built}
use Rattle.built.specs.Calls.{Kept}
use Rattle.built.specs.Seen.{row_at, blobs}
use Rattle.built.specs.Untouched.{Apart, UntouchedBut}

module _ {S : Type 0} {M : Ghosts S} where
  -- the blob of row i is x now; only its pieces and free ones are written, and it has no others now, but for free ones
  pub record Rewritten (i : ℕ) (x : Blob) (s t : Built S M) : Type 0 where
    pub blobs : blobs t ≡ slice_set (blobs s) i ((row_at s i).number, x)
    pub count : t.catalog.table.count ≡ s.catalog.table.count
    pub len : (row_at t i).len ≡ length x.bytes
    pub number : (row_at t i).number ≡ (row_at s i).number
    pub kept : Kept s t
    pub limit : M.layout.limit t.medium (length x.bytes) ≡ M.layout.limit s.medium (row_at s i).len
    pub memory : UntouchedBut (λ k. k ≡ i) s t
    pub apart : (k q : ℕ) → k < s.catalog.table.count → Apart s i q → Apart s k q → Apart t k q
    pub back : (q : ℕ) → Apart t i q → Apart s i q
