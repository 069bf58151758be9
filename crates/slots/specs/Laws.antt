-- The laws of the parts.
use Rattle.std.specs.Prelude.{◌≡◌, ℕ, suc, ◌+◌, ◌*◌, ◌<◌, ◌≤◌, Bool, true, false, List, [], ◌∷◌, map, length, take, drop, Some, None, vec_items, vec_len, Option, ◌≢◌, slice_index, slice_index_or, refl}
use Rattle.std.proofs.Common.{arith, sym, ap, ◌∙◌, inl, inr, eqb, length-take}
use Rattle.std.proofs.lemmas.List.{get_or-map, length-map}
use Rattle.std.proofs.lemmas.Bool.{cases_order}
use Rattle.store.specs.Built.{bytes_there}
use Rattle.store.specs.Disk.{Blob, find}
use Rattle.octets.proofs.Writes.{length_part, bytes_of}
use Rattle.catalog.specs.declared.row.Row.{Row}
use Rattle.catalog.specs.declared.table.Table.{Table}
use Rattle.catalog.specs.Rows.{none, places_of}
use Rattle.catalog.specs.Blobs.{live, row_at, entry_by, SameRows}
use Rattle.catalog.specs.Seen.{Stands, blob_at}
use Rattle.catalog.proofs.Lookup.{many, length_rows, row_live, at_row}
use Rattle.catalog.proofs.Same.{same_map, same_at}
use Rattle.built.specs.Laws.{Laws}
use Rattle.slots.specs.declared.parts.Parts.{Parts}
use Rattle.slots.specs.Layout.{layout, content_of, room_by, Holds}
use Rattle.slots.specs.Shares.{part_below, part_twice}
use Rattle.slots.specs.Memory.{part_in}

-- bytes of a blob are bytes of the memory
pub part_bytes : (m : Parts) (p len at n : ℕ) → at + n ≤ len → take n (drop at (content_of m p len)) ≡ take n (drop (p * m.each + at) (vec_items m.memory))
part_bytes m p len at n l = bytes_of (vec_items m.memory) (p * m.each) len at n l

module _ (m : Parts) (t : Table) (h : Holds m t) where
  part_at : (i : ℕ) → i < t.count → slice_index (places_of t.rows) i ≡ (row_at t i).place
  part_at i l = get_or-map (λ (r : Row). r.place) t.rows i none 0 (omega (arith, many t))

  pub len_within : (i : ℕ) → i < t.count → (row_at t i).len ≤ m.each
  len_within i l = at_row t (λ (r : Row). r.len ≤ m.each) h.0 i l

  pub part_within : (i : ℕ) → i < t.count → (row_at t i).place * m.each + m.each ≤ vec_len m.memory
  part_within i l =
      let ps = places_of t.rows in
      let n : length ps ≡ length t.rows = length-map t.rows (λ (r : Row). r.place) in
      part_in (row_at t i).place m.each (vec_len m.memory) (omega (arith, part_at i l, part_below ps h.1 i (omega (arith, many t)))) m.cut

  -- two rows have two parts
  pub parts_differ : (i k : ℕ) → i < t.count → k < t.count → (k ≢ i) → (row_at t k).place ≢ (row_at t i).place
  parts_differ i k l n d e =
      let ps = places_of t.rows in
      let z : length ps ≡ length t.rows = length-map t.rows (λ (r : Row). r.place) in
      let p = part_twice ps h.1 in
      elim (cases_order k i) [
        | inl x ↦ d x
        | inr (inl x) ↦ p k i x (omega (arith, many t)) (part_at k n ∙ e ∙ sym (part_at i l))
        | inr (inr x) ↦ p i k x (omega (arith, many t)) (part_at i l ∙ sym e ∙ sym (part_at k n))
      ]

  stands : Stands (content_of m) t
  stands i l = length_part (vec_items m.memory) ((row_at t i).place * m.each) (row_at t i).len (omega (arith, m.memory.ok, part_within i l, len_within i l))

  same : (u : Table) → SameRows t u → Holds m u
  same u e = (
    λ k l.
        let a : k < u.count = omega (arith, length_rows u) in
        let b : k < t.count = omega (arith, e.count) in
        omega (arith, ap (λ (r : Row). r.len) (row_live u k a), same_at t u e (λ (r : Row). r.len) (λ r. refl) k b, len_within k b),
    rw (same_map t u e (λ (r : Row). r.place) (λ r. refl)) h.1,
  )

-- no blob is longer than its part
there_by : (g : Row → Blob) (each : ℕ) (rs : List Row) → ((k : ℕ) → k < length rs → length (g (slice_index_or rs k none)).bytes ≤ each) → (b : ℕ)
    → bytes_there (find (map (entry_by g) rs) b) ≤ each
there_by g each [] h b = omega arith
there_by g each (r ∷ rs) h b = by_test (eqb r.number b) refl (there_by g each rs (λ k l. h (suc k) (omega arith)) b)
  where
    by_test : (t : Bool) → eqb r.number b ≡ t → bytes_there (find (map (entry_by g) rs) b) ≤ each → bytes_there (find (map (entry_by g) (r ∷ rs)) b) ≤ each
    by_test true e rest = simp e (h 0 (omega arith))
    by_test false e rest = simp e rest

room_sum : (each : ℕ) (o : Option Blob) → bytes_there o ≤ each → room_by each o + bytes_there o ≡ each
room_sum each None l = omega arith
room_sum each (Some x) l = omega arith

pub laws : Laws layout
laws =
    record {
      stands = stands;
      same = λ m t u h. same m t h u;
      stays = λ m. refl;
      room = λ m t h b.
          let g = blob_at (content_of m) in
          room_sum m.each (find (map (entry_by g) (live t)) b)
          (there_by g m.each (live t)
          (λ k n.
          let r = slice_index_or (live t) k none in
          let z : length (g r).bytes ≤ r.len = simp length-take (omega arith) in
          omega (arith, h.0 k n))
          b);
    }
