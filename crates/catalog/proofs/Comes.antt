-- A blob comes, and a blob goes: what the blobs are then.
use Rattle.std.proofs.Common.{◌≡◌, ℕ, ◌+◌, ◌-◌, ◌<◌, ◌≤◌, List, ◌++◌, map, length, get_or, take, drop, set, suc, sym, refl, ap, ◌∙◌, subst, arith}
use Rattle.std.specs.List.{insert as inserted, remove}
use Rattle.std.proofs.lemmas.List.{take_at, take-set, drop-set-lt, set-get_or}
use Rattle.std.proofs.lemmas.List.Edits.{length-insert, length-remove, get_or-insert_at}
use Rattle.store.specs.Disk.{Blob, Blobs, blank, numbers, insert, without}
use Rattle.store.specs.Place.{Sought}
use Rattle.store.proofs.Places.{insert_here, insert_new, without_here}
use Rattle.catalog.specs.declared.row.Row.{Row}
use Rattle.catalog.specs.declared.table.Table.{Table}
use Rattle.catalog.specs.Rows.{none, numbers_of, Each, fresh_row}
use Rattle.catalog.specs.Blobs.{live, row_at, entry_by, blobs_by}
use Rattle.catalog.specs.Found.{Here}
use Rattle.catalog.proofs.Change.{set_blob}
use Rattle.catalog.proofs.Lookup.{numbers_blobs, length_rows, row_live, length_blobs, number_at, sought_blobs, above_b}
use Rattle.catalog.proofs.Moves.{map_inserted, map_removed, inserted_each, removed_each}

-- the blob is there already
pub opened_here : (g : Row → Blob) (t : Table) (b i : ℕ) → Here b t i → blobs_by g t ≡ insert b (blobs_by g t)
opened_here g t b i h =
    let before : (k : ℕ) → k < i → get_or (numbers (blobs_by g t)) k 0 < b = rw (numbers_blobs g t) h.before in
    sym (insert_here b (blobs_by g t) i (omega (arith, length_blobs g t, h.within)) before (number_at g t i h.within ∙ h.number))

module _ (t : Table) (b i p : ℕ) (u : Table) (C : List Row) (count : u.count ≡ t.count + 1) (rows : u.rows ≡ inserted (live t) i (fresh_row b p) ++ C) (l : i ≤ t.count) where
  live_opened : live u ≡ inserted (live t) i (fresh_row b p)
  live_opened =
      ap (λ k. take k u.rows) count
      ∙ ap (take (t.count + 1)) rows
      ∙ take_at (inserted (live t) i (fresh_row b p)) C (t.count + 1)
      (length-insert (live t) i (fresh_row b p) (omega (arith, length_rows t)) ∙ ap (λ k. k + 1) (length_rows t))

  pub opened : (g : Row → Blob) → g (fresh_row b p) ≡ blank → Sought b (numbers_of (live t)) i → (i < t.count → (row_at t i).number ≡ b → ⊥)
      → blobs_by g u ≡ insert b (blobs_by g t)
  opened g empty f e =
      ap (map (entry_by g)) live_opened
      ∙ map_inserted (entry_by g) (live t) i (fresh_row b p)
      ∙ ap (λ (x : Blob). inserted (blobs_by g t) i (b, x)) empty
      ∙ sym (insert_new b (blobs_by g t) i (omega (arith, length_blobs g t)) (sought_blobs g t b i f).1 (above_b g t b i f e))

  -- the new row
  pub row_opened : row_at u i ≡ fresh_row b p
  row_opened =
      sym (row_live u i (omega (arith, count)))
      ∙ ap (λ rs. get_or rs i none) live_opened
      ∙ get_or-insert_at (live t) i (fresh_row b p) none (omega (arith, length_rows t))

  pub each_opened : (P : Row → Type 0) → P (fresh_row b p) → Each P (live t) → Each P (live u)
  each_opened P q h = subst (Each P) (sym live_opened) (inserted_each P none (live t) i (fresh_row b p) (omega (arith, length_rows t)) h q)

module _ (t : Table) (i : ℕ) (u : Table) (C : List Row) (count : u.count ≡ t.count - 1) (rows : u.rows ≡ remove (live t) i ++ C) (l : i < t.count) where
  live_gone : live u ≡ remove (live t) i
  live_gone =
      ap (λ k. take k u.rows) count
      ∙ ap (take (t.count - 1)) rows
      ∙ take_at (remove (live t) i) C (t.count - 1)
      (let m : i < length (live t) = omega (arith, length_rows t) in omega (arith, length-remove (live t) i m, length_rows t))

  pub gone : (g : Row → Blob) (b : ℕ) → Here b t i → blobs_by g u ≡ without b (blobs_by g t)
  gone g b h =
      let before : (k : ℕ) → k < i → get_or (numbers (blobs_by g t)) k 0 < b = rw (numbers_blobs g t) h.before in
      ap (map (entry_by g)) live_gone
      ∙ map_removed (entry_by g) (live t) i
      ∙ sym (without_here b (blobs_by g t) i (omega (arith, length_blobs g t)) before (number_at g t i h.within ∙ h.number))

  -- where the other blobs, g before, are h after
  pub gone_but : (g h : Row → Blob) (b : ℕ) → Here b t i → ((k : ℕ) → k < t.count → (k ≡ i → ⊥) → h (row_at t k) ≡ g (row_at t k)) → blobs_by h u ≡ without b (blobs_by g t)
  gone_but g h b at others =
      let x = entry_by h (row_at t i) in
      let xs = blobs_by g t in
      let same : blobs_by h t ≡ set xs i x = set_blob t i (row_at t i) t (sym (set-get_or t.rows i none)) refl g h l others in
      ap (map (entry_by h)) live_gone
      ∙ map_removed (entry_by h) (live t) i
      ∙ ap (λ (ys : Blobs). remove ys i) same
      ∙ ap (λ (ys : Blobs). ys ++ drop (suc i) (set xs i x)) (take-set xs i x)
      ∙ ap (λ (ys : Blobs). take i xs ++ ys) (drop-set-lt (suc i) xs i x (omega arith))
      ∙ sym (ap (map (entry_by g)) live_gone ∙ map_removed (entry_by g) (live t) i)
      ∙ gone g b at

  pub each_gone : (P : Row → Type 0) → Each P (live t) → Each P (live u)
  each_gone P h = subst (Each P) (sym live_gone) (removed_each P none (live t) i (omega (arith, length_rows t)) h)
