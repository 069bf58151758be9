-- The blobs of a chain store: their bytes, and the room that is left.
use Rattle.std.specs.Prelude.{◌≡◌, ℕ, suc, ◌+◌, ◌-◌, ◌*◌, ◌<◌, List, [], ◌∷◌, map, length, take, Some, ◌≢◌, slice_index_or, refl}
use Rattle.std.proofs.Common.{arith, sym, ap, subst}
use Rattle.std.proofs.lemmas.List.{length-take-le}
use Rattle.store.specs.Disk.{Blob, find}
use Rattle.catalog.specs.declared.row.Row.{Row}
use Rattle.catalog.specs.declared.table.Table.{Table}
use Rattle.catalog.specs.Rows.{none}
use Rattle.catalog.specs.Blobs as table
use Rattle.catalog.specs.Blobs.{live, entry_by, blobs_by}
use Rattle.catalog.specs.Seen.{Stands, blob_at}
use Rattle.catalog.proofs.Lookup.{length_rows, row_live}
use Rattle.sectors.specs.declared.chain.Chain.{Chain}
use Rattle.sectors.specs.Sectors.{need}
use Rattle.sectors.specs.Chains.{joint, Both, Moved}
use Rattle.sectors.proofs.Pieces.{length_joint}
use Rattle.chains.specs.Cover.{chain_of, total}
use Rattle.chains.specs.Seen.{chain_bytes, sectors_of, unused, room_in}
use Rattle.chains.specs.Covering.{Chained, both_of, apart_of, other_bytes}

module _ (n : ℕ) (mem : List ℕ) (t : Table) (free : Chain) (h : Chained n mem (live t) free) where
  inside : (i : ℕ) → i < t.count → i < length (live t)
  inside i l = omega (arith, length_rows t)

  pub both_at : (i : ℕ) → i < t.count → Both mem (chain_of (table.row_at t i)) free
  both_at i l = subst (λ (r : Row). Both mem (chain_of r) free) (row_live t i l) (both_of n mem (live t) free h i (inside i l))

  -- a chain has as many bytes as its row says
  pub sized : Stands (chain_bytes mem) t
  sized i l =
      let r = slice_index_or (live t) i none in
      let e : length (joint mem (chain_of r)) ≡ 60 * need r.len = length_joint mem (chain_of r) (apart_of n mem (live t) free h i (inside i l)) in
      let k : length (take r.len (joint mem (chain_of r))) ≡ r.len = length-take-le r.len (joint mem (chain_of r)) (omega arith) in
      subst (λ (x : Row). length (take x.len (joint mem (chain_of x))) ≡ x.len) (row_live t i l) k

  sectors_rows : (rs : List Row) → ((k : ℕ) → k < length rs → length (chain_bytes mem (slice_index_or rs k none).place (slice_index_or rs k none).len) ≡ (slice_index_or rs k none).len)
      → sectors_of (map (entry_by (blob_at (chain_bytes mem))) rs) ≡ total (λ (r : Row). need r.len) rs
  sectors_rows [] e = refl
  sectors_rows (r ∷ rs) e = omega (arith, ap need (e 0 (omega arith)), sectors_rows rs (λ k l. e (suc k) (omega arith)))

  -- the free sectors, as the view has them
  pub free_sectors : n - 1 - sectors_of (blobs_by (blob_at (chain_bytes mem)) t) ≡ free.count
  free_sectors =
      let e : sectors_of (blobs_by (blob_at (chain_bytes mem)) t) ≡ total (λ (r : Row). need r.len) (live t) =
      sectors_rows (live t) (λ k l.
      let m : k < t.count = omega (arith, length_rows t) in
      subst (λ (x : Row). length (chain_bytes mem x.place x.len) ≡ x.len) (sym (row_live t k m)) (sized k m)) in
      omega (arith, h.counts)

  -- the room of a blob that is there
  pub room_of : (b : ℕ) (x : Blob) → find (blobs_by (blob_at (chain_bytes mem)) t) b ≡ Some x
      → room_in n (blobs_by (blob_at (chain_bytes mem)) t) b + length x.bytes ≡ 60 * (need (length x.bytes) + free.count)
  room_of b x f = omega (arith, ap unused f, free_sectors)

  -- the other blobs, when the chain of row i and the free chain are moved
  pub other_blobs : (i : ℕ) → i < t.count → (new : List ℕ) (d g : Chain) → length new ≡ length mem → Moved mem (chain_of (table.row_at t i)) free new d g
      → (k : ℕ) → k < t.count → (k ≢ i) → blob_at (chain_bytes new) (table.row_at t k) ≡ blob_at (chain_bytes mem) (table.row_at t k)
  other_blobs i l new d g long moved k m e =
      let moved' = subst (λ (r : Row). Moved mem (chain_of r) free new d g) (sym (row_live t i l)) moved in
      let b = other_bytes n mem (live t) free h i (inside i l) new d g long moved' k (inside k m) e in
      subst (λ (x : Row). blob_at (chain_bytes new) x ≡ blob_at (chain_bytes mem) x) (row_live t k m)
      (ap (λ ys. let y : Blob = record { bytes = take (slice_index_or (live t) k none).len ys; sound = (slice_index_or (live t) k none).sound; safe = (slice_index_or (live t) k none).safe } in y) b)
