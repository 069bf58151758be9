-- What becomes of the blob of one row, and of the rest.
use Rattle.std.specs.Prelude.{◌≡◌, ℕ, suc, ◌+◌, ◌-◌, ◌<◌, ◌≤◌, List, [], ◌∷◌, ◌++◌, drop, Some, None, Option, ◌≢◌, slice_set, vec_len}
use Rattle.std.specs.List.{insert, remove}
use Rattle.catalog.specs.declared.row.Row.{Row}
use Rattle.catalog.specs.declared.table.Table.{Table}
use Rattle.catalog.specs.Rows.{fresh_row, sized}
use Rattle.catalog.specs.Blobs.{live, row_at}
use Rattle.built.specs.Layout.{Layout}

-- the length of the blob in a row; a blob with no row has none
abbrev pub len_at : Table → Option ℕ → ℕ
len_at t None = 0
len_at t (Some i) = (row_at t i).len

-- the bytes of row i
abbrev pub bytes_at : {S : Type 0} → Layout S → S → Table → ℕ → List ℕ
bytes_at L m t i = L.content m (row_at t i).place (row_at t i).len

-- the same row with its bytes at another place
abbrev pub moved : ℕ → ℕ → Row → Row
moved p q r = record { number = r.number; place = p; tail = q; len = r.len; sound = r.sound; safe = r.safe }

-- p is a place for a new blob
pub record Comes {S : Type 0} (L : Layout S) (m : S) (t : Table) (p : ℕ) : Type 0 where
  pub empty : L.content m p 0 ≡ []
  pub holds : (u : Table) (i b : ℕ) → i ≤ t.count → u.count ≡ t.count + 1 → u.rows ≡ insert (live t) i (fresh_row b p) ++ drop (suc t.count) t.rows → L.Holds m u

-- the blob of row i has the n bytes ys now, at the place that r says, and every other blob stays as it is
pub record Recast {S : Type 0} (L : Layout S) (m : S) (t : Table) (i n : ℕ) (ys : List ℕ) (w : S) (r : Row) : Type 0 where
  pub row : r ≡ moved r.place r.tail (row_at t i)
  pub bytes : L.content w r.place n ≡ ys
  pub others : (k : ℕ) → k < t.count → (k ≢ i) → bytes_at L w t k ≡ bytes_at L m t k
  pub limit : L.limit w n ≡ L.limit m (row_at t i).len
  -- the table holds once it says so, or once the row is gone
  pub holds : (u : Table) (sound safe : ℕ) → u.count ≡ t.count → u.rows ≡ slice_set t.rows i (sized r n sound safe) → L.Holds w u
  pub gone : n ≡ 0 → (u : Table) → u.count ≡ t.count - 1 → u.rows ≡ remove (live t) i ++ row_at t i ∷ drop t.count t.rows → L.Holds w u
  -- outside the pieces of the blob and the free ones the memory is as it was, and as long
  pub long : vec_len (L.memory w) ≡ vec_len (L.memory m)
  pub same : (q : ℕ) → L.Outside m (row_at t i).place (row_at t i).len q → L.piece w q ≡ L.piece m q
  -- and these pieces, together, are the same ones
  pub here : (q : ℕ) → L.Outside m (row_at t i).place (row_at t i).len q → L.Outside w r.place n q
  pub back : (q : ℕ) → L.Outside w r.place n q → L.Outside m (row_at t i).place (row_at t i).len q
  pub apart : (k q : ℕ) → k < t.count → (k ≢ i) → L.Outside m (row_at t i).place (row_at t i).len q
      → L.Outside m (row_at t k).place (row_at t k).len q → L.Outside w (row_at t k).place (row_at t k).len q
