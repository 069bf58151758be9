-- What a call leaves of the memory.
use Rattle.std.specs.Prelude.{◌≡◌, ℕ, ◌<◌, vec_len}
use Rattle.built.specs.declared.medium.Medium.{Ghosts}
use Rattle.built.specs.declared.built.Built.{Built}
use Rattle.built.specs.Seen.{row_at}

module _ {S : Type 0} {M : Ghosts S} where
  -- piece q is neither free nor in the blob of row i
  abbrev pub Apart : Built S M → ℕ → ℕ → Type 0
  Apart s i q = M.layout.Outside s.medium (row_at s i).place (row_at s i).len q

  -- the rows P and the free pieces aside, every piece of the memory is as it was, and there are as many
  pub record UntouchedBut (P : ℕ → Type 0) (s t : Built S M) : Type 0 where
    pub long : vec_len (M.layout.memory t.medium) ≡ vec_len (M.layout.memory s.medium)
    pub same : (q : ℕ) → ((i : ℕ) → i < s.catalog.table.count → P i → Apart s i q) → M.layout.piece t.medium q ≡ M.layout.piece s.medium q

  -- outside the pieces of blob b and the free ones, the memory is as it was
  abbrev pub Untouched : ℕ → Built S M → Built S M → Type 0
  Untouched b s t = UntouchedBut (λ i. (row_at s i).number ≡ b) s t
