-- What a table keeps when a row comes or goes.
use Rattle.std.proofs.Common.{◌≡◌, ℕ, suc, ◌+◌, ◌-◌, ◌^◌, ◌<◌, ◌≤◌, List, ◌∷◌, ◌++◌, length, get_or, take, drop, ap, ◌∙◌, arith, lit<, length-append, length-drop}
use Rattle.std.specs.List.{insert, remove}
use Rattle.std.proofs.lemmas.List.{take_at, length-take-le}
use Rattle.std.proofs.lemmas.List.Edits.{length-insert, length-remove}
use Rattle.store.specs.Laws.{Rising, Below}
use Rattle.store.specs.Place.{Sought}
use Rattle.catalog.specs.declared.row.Row.{Row}
use Rattle.catalog.specs.declared.table.Table.{Table}
use Rattle.catalog.specs.Rows.{none, numbers_of, Each, Ordered, fresh_row}
use Rattle.catalog.specs.Blobs.{live, row_at}
use Rattle.catalog.proofs.Live.{length_live, number_live}
use Rattle.catalog.proofs.Moves.{map_inserted, map_removed, inserted_each, removed_each, rising_inserted, rising_removed}

-- the ghost fields of a table, over its plain ones
pub record Kept (rs : List Row) (n : ℕ) : Type 0 where
  pub long : length rs ≡ 64
  pub few : n ≤ 64
  pub rising : Rising (numbers_of (take n rs))
  pub fit : Below (2 ^ 64) (numbers_of (take n rs))
  pub ordered : Each Ordered (take n rs)

module _ (t : Table) (i : ℕ) where
  pub kept_inserted : (b p : ℕ) → t.count < 64 → i ≤ t.count → b < 2 ^ 64 → Sought b (numbers_of (live t)) i → (i < t.count → (row_at t i).number ≡ b → ⊥)
      → Kept (insert (live t) i (fresh_row b p) ++ drop (suc t.count) t.rows) (t.count + 1)
  kept_inserted b p few within fits place fresh =
      let n = t.count in
      let L = live t in
      let y = fresh_row b p in
      let C = drop (suc n) t.rows in
      let many : n ≤ length t.rows = omega (arith, t.long) in
      let len : length L ≡ n = length-take-le n t.rows many in
      let len_i : length (insert L i y) ≡ n + 1 = length-insert L i y (omega arith) ∙ ap (λ k. k + 1) len in
      let now : take (n + 1) (insert L i y ++ C) ≡ insert L i y = take_at (insert L i y) C (n + 1) len_i in
      let ns : numbers_of (take (n + 1) (insert L i y ++ C)) ≡ insert (numbers_of L) i b =
      ap numbers_of now ∙ map_inserted (λ (r : Row). r.number) L i y in
      let len_n : length (numbers_of L) ≡ n = length_live t.rows n many in
      let after : i < length (numbers_of L) → b < get_or (numbers_of L) i 0 =
      λ l. let m : i < n = omega arith in
      let q = place.2 l in
      let u : get_or (numbers_of L) i 0 ≡ (row_at t i).number = number_live t.rows n many i m in
      let v : (row_at t i).number ≡ b → ⊥ = fresh m in
      omega arith in
      record {
        long = length-append (insert L i y) C ∙ (let d = length-drop (suc n) t.rows in omega (arith, t.long));
        few = omega arith;
        rising = rw ns (rising_inserted (numbers_of L) i b (omega arith) t.rising place.1 after);
        fit = rw ns (inserted_each (λ (x : ℕ). x < 2 ^ 64) 0 (numbers_of L) i b (omega arith) t.fit fits);
        ordered = rw now (inserted_each Ordered none L i y (omega arith) t.ordered (omega arith, omega arith, lit< tt));
      }

  pub kept_removed : i < t.count → Kept (remove (live t) i ++ row_at t i ∷ drop t.count t.rows) (t.count - 1)
  kept_removed within =
      let n = t.count in
      let L = live t in
      let C = row_at t i ∷ drop n t.rows in
      let many : n ≤ length t.rows = omega (arith, t.long, t.few) in
      let len : length L ≡ n = length-take-le n t.rows many in
      let len_r : length (remove L i) ≡ n - 1 = omega (arith, length-remove L i (omega arith)) in
      let now : take (n - 1) (remove L i ++ C) ≡ remove L i = take_at (remove L i) C (n - 1) len_r in
      let ns : numbers_of (take (n - 1) (remove L i ++ C)) ≡ remove (numbers_of L) i = ap numbers_of now ∙ map_removed (λ (r : Row). r.number) L i in
      let len_n : length (numbers_of L) ≡ n = length_live t.rows n many in
      record {
        long = length-append (remove L i) C ∙ (let d = length-drop n t.rows in omega (arith, t.long, t.few));
        few = omega (arith, t.few);
        rising = rw ns (rising_removed (numbers_of L) i (omega arith) t.rising);
        fit = rw ns (removed_each (λ (x : ℕ). x < 2 ^ 64) 0 (numbers_of L) i (omega arith) t.fit);
        ordered = rw now (removed_each Ordered none L i (omega arith) t.ordered);
      }
