-- A row more, a row less, and a row changed.
use Rattle.std.proofs.Common.{◌≡◌, ℕ, ◌+◌, ◌-◌, ◌<◌, ◌≤◌, List, ◌++◌, map, length, get_or, take, set, sym, refl, ap, ◌∙◌, subst, arith}
use Rattle.std.specs.List.{insert, remove, flat_map}
use Rattle.std.proofs.lemmas.List.{take_at, take-map}
use Rattle.std.proofs.lemmas.List.Edits.{length-insert, length-remove}
use Rattle.store.specs.Occurs.{occurs}
use Rattle.catalog.specs.declared.row.Row.{Row}
use Rattle.catalog.specs.declared.table.Table.{Table}
use Rattle.catalog.specs.Rows.{none, fresh_row}
use Rattle.catalog.specs.Blobs as table
use Rattle.catalog.specs.Blobs.{live, bare, SameRows}
use Rattle.catalog.proofs.Live.{take_set_in}
use Rattle.catalog.proofs.Lookup.{length_rows, row_live}
use Rattle.catalog.proofs.Same.{same_at}
use Rattle.sectors.specs.declared.chain.Chain.{Chain}
use Rattle.sectors.specs.Sectors.{next_of, payload, sectors, need}
use Rattle.sectors.specs.Chains.{list, joint, Stands, Moved}
use Rattle.chains.specs.Cover.{chain_of, placed_row, total}
use Rattle.chains.specs.Seen.{chain_bytes}
use Rattle.chains.specs.Totals.{total_map}
use Rattle.chains.specs.Covering.{Chained, chained_moved, chained_gone, chained_come}

-- a row with its bytes in chain c
pub placed_chain : (r : Row) (c : Chain) → c.count ≡ need r.len → chain_of (placed_row r c) ≡ c
placed_chain r c e = ap (λ k. let x : Chain = record { first = c.first; last = c.last; count = k } in x) (sym e)

pub placed_bytes : (mem : List ℕ) (c : Chain) (n : ℕ) → c.count ≡ need n → chain_bytes mem c.first n ≡ take n (joint mem c)
placed_bytes mem c n e = ap (λ k. take n (flat_map (payload mem) (sectors k (next_of mem) c.first))) (sym e)

-- a row more, a row less, and a row changed -------------------------------------------------------

module _ (n : ℕ) (mem : List ℕ) (t : Table) (f : Chain) (h : Chained n mem (live t) f) (u : Table) where
  -- the chain of row i is moved into that of r
  module _ (i : ℕ) (l : i < t.count) (new : List ℕ) (d g : Chain) (long : length new ≡ length mem) (moved : Moved mem (chain_of (table.row_at t i)) f new d g) where
    in_live : i < length (live t)
    in_live = omega (arith, length_rows t)

    moved_live : Moved mem (chain_of (get_or (live t) i none)) f new d g
    moved_live = subst (λ (r : Row). Moved mem (chain_of r) f new d g) (sym (row_live t i l)) moved

    pub chained_changed : (r : Row) → chain_of r ≡ d → u.rows ≡ set t.rows i r → u.count ≡ t.count → Chained n new (live u) g
    chained_changed r e rows count =
        let q : live u ≡ set (live t) i r = ap (λ k. take k u.rows) count ∙ ap (take t.count) rows ∙ take_set_in t.count t.rows i r l in
        subst (λ (rs : List Row). Chained n new rs g) (sym q) (chained_moved n mem (live t) f h i in_live new d g long moved_live r e)

    live_removed : (C : List Row) → u.count ≡ t.count - 1 → u.rows ≡ remove (live t) i ++ C → live u ≡ remove (live t) i
    live_removed C count rows =
        ap (λ k. take k u.rows) count ∙ ap (take (t.count - 1)) rows
        ∙ take_at (remove (live t) i) C (t.count - 1) (omega (arith, length-remove (live t) i in_live, length_rows t))

    pub chained_removed : (C : List Row) → d.count ≡ 0 → u.count ≡ t.count - 1 → u.rows ≡ remove (live t) i ++ C → Chained n new (live u) g
    chained_removed C z count rows =
        subst (λ (rs : List Row). Chained n new rs g) (sym (live_removed C count rows)) (chained_gone n mem (live t) f h i in_live new d g long moved_live z)

  pub chained_opened : (i b : ℕ) (C : List Row) → i ≤ t.count → u.count ≡ t.count + 1 → u.rows ≡ insert (live t) i (fresh_row b 0) ++ C → Chained n mem (live u) f
  chained_opened i b C l count rows =
      let m : i ≤ length (live t) = omega (arith, length_rows t) in
      let q : live u ≡ insert (live t) i (fresh_row b 0) =
      ap (λ k. take k u.rows) count ∙ ap (take (t.count + 1)) rows
      ∙ take_at (insert (live t) i (fresh_row b 0)) C (t.count + 1) (omega (arith, length-insert (live t) i (fresh_row b 0) m, length_rows t)) in
      subst (λ (rs : List Row). Chained n mem rs f) (sym q) (chained_come n mem (live t) f h i b m)

  -- the same blobs at the same places
  pub chained_same : SameRows t u → Chained n mem (live u) f
  chained_same e =
      let q : map bare (live u) ≡ map bare (live t) =
      sym (take-map bare u.count u.rows) ∙ ap (λ k. take k (map bare u.rows)) e.count ∙ ap (take t.count) e.rows ∙ take-map bare t.count t.rows in
      let same : (k : Row → ℕ) → ((r : Row) → k (bare r) ≡ k r) → total k (live u) ≡ total k (live t) =
      λ k b. sym (total_map k bare b (live u)) ∙ ap (total k) q ∙ total_map k bare b (live t) in
      record {
        within = h.within;
        rows = λ k l.
            let m : k < u.count = omega (arith, length_rows u) in
            let m' : k < t.count = omega (arith, e.count) in
            let c : chain_of (get_or (live u) k none) ≡ chain_of (get_or (live t) k none) =
            ap chain_of (row_live u k m) ∙ same_at t u e chain_of (λ r. refl) k m' ∙ sym (ap chain_of (row_live t k m')) in
            subst (λ (x : Chain). Stands mem x) (sym c) (h.rows k (omega (arith, length_rows t)));
        spare = h.spare;
        covers = λ p. omega (arith, h.covers p, same (λ r. occurs p (list mem (chain_of r))) (λ r. refl));
        counts = omega (arith, h.counts, same (λ r. need r.len) (λ r. refl));
      }
