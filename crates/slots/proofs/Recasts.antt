-- Bytes written within one part.
use Rattle.std.proofs.Common.{◌≡◌, ℕ, ◌+◌, ◌*◌, ◌/◌, ◌<◌, ◌≤◌, ◌⊎◌, List, [], ◌∷◌, ◌++◌, length, get_or, take, drop, vec_items, vec_len, sym, refl, ap, ◌∙◌, subst, inl, inr, arith, add-zero, take-append-drop}
use Rattle.std.specs.Global.{Vec}
use Rattle.std.proofs.lemmas.List.{take-take}
use Rattle.octets.specs.Written.{written}
use Rattle.octets.proofs.Writes.{part_outside, part_grown, byte_outside}
use Rattle.catalog.specs.declared.row.Row.{Row}
use Rattle.catalog.specs.declared.table.Table.{Table}
use Rattle.catalog.specs.Rows.{sized}
use Rattle.catalog.specs.Blobs.{row_at}
use Rattle.catalog.proofs.Change.{each_changed, map_changed}
use Rattle.catalog.proofs.Comes.{each_gone}
use Rattle.built.specs.Recast.{Recast, bytes_at}
use Rattle.slots.specs.declared.parts.Parts.{Parts}
use Rattle.slots.specs.Layout.{layout, Holds}
use Rattle.slots.specs.Laws.{len_within, part_within, parts_differ}
use Rattle.slots.specs.Memory.{parts_meet_not}
use Rattle.slots.specs.Shares.{parts_removed}

-- a blob's bytes from `keep` on
module _ (m : Parts) (t : Table) (h : Holds m t) (i : ℕ) (l : i < t.count) (keep : ℕ) (bs : List ℕ) (kept : keep ≤ (row_at t i).len) (fits : keep + length bs ≤ m.each)
    (new : Vec ℕ) (cut : m.each ≡ vec_len new / 64) (items : vec_items new ≡ written (vec_items m.memory) ((row_at t i).place * m.each + keep) bs) (long : vec_len new ≡ vec_len m.memory) where
  abbrev r : Row
  r = row_at t i

  abbrev w : Parts
  w = record { memory = new; each = m.each; cut = cut }

  inside : r.place * m.each + keep + length bs ≤ length (vec_items m.memory)
  inside = omega (arith, part_within m t h i l, m.memory.ok)

  other : (k : ℕ) → k < t.count → (k ≡ i → ⊥) → bytes_at layout w t k ≡ bytes_at layout m t k
  other k n d =
      let e = len_within m t h k n in
      let o : ((row_at t k).place * m.each + (row_at t k).len ≤ r.place * m.each + keep) ⊎ (r.place * m.each + keep + length bs ≤ (row_at t k).place * m.each) =
      elim (parts_meet_not (row_at t k).place r.place m.each (parts_differ m t h i k l n d)) [ inl x ↦ inl (omega arith) | inr x ↦ inr (omega arith) ] in
      ap (λ mem. take (row_at t k).len (drop ((row_at t k).place * m.each) mem)) items
      ∙ part_outside (vec_items m.memory) (r.place * m.each + keep) bs inside ((row_at t k).place * m.each) (row_at t k).len o

  outside : (q : ℕ) → (q < r.place * m.each) ⊎ (r.place * m.each + m.each ≤ q) → layout.piece w q ≡ layout.piece m q
  outside q o =
      let p : (q < r.place * m.each + keep) ⊎ (r.place * m.each + keep + length bs ≤ q) = elim o [ inl x ↦ inl (omega arith) | inr x ↦ inr (omega arith) ] in
      ap (λ mem. get_or mem q 0 ∷ []) items ∙ ap (λ x. x ∷ []) (byte_outside (vec_items m.memory) (r.place * m.each + keep) bs inside q 0 p)

  bytes : take (keep + length bs) (drop (r.place * m.each) (vec_items new)) ≡ take keep (bytes_at layout m t i) ++ bs
  bytes =
      ap (λ mem. take (keep + length bs) (drop (r.place * m.each) mem)) items
      ∙ part_grown (vec_items m.memory) (r.place * m.each + keep) bs inside (r.place * m.each) keep refl
      ∙ ap (λ zs. zs ++ bs) (sym (take-take keep r.len (drop (r.place * m.each) (vec_items m.memory)) kept))

  pub recast : Recast layout m t i (keep + length bs) (take keep (bytes_at layout m t i) ++ bs) w r
  recast =
      record {
        row = refl;
        bytes = bytes;
        others = other;
        limit = refl;
        holds = λ u sound safe count rows. (
          each_changed t i (sized r (keep + length bs) sound safe) u rows count (λ (x : Row). x.len ≤ m.each) l fits h.0,
          rw (map_changed t i (sized r (keep + length bs) sound safe) u rows count (λ (x : Row). x.place) refl) h.1,
        );
        gone = λ z u count rows. (
          each_gone t i u _ count rows l (λ (x : Row). x.len ≤ m.each) h.0,
          parts_removed t i u.rows l h.1 rows,
        );
        long = long;
        same = outside;
        here = λ q o. o;
        back = λ q o. o;
        apart = λ k q n d o p. p;
      }

-- no bytes written
pub written_none : (mem : List ℕ) (at : ℕ) → mem ≡ written mem at []
written_none mem at = sym (ap (λ k. take at mem ++ drop k mem) (add-zero at) ∙ take-append-drop at mem)

pub recast_as : (m w : Parts) (t : Table) (i n k : ℕ) (ys zs : List ℕ) → n ≡ k → ys ≡ zs → Recast layout m t i n ys w (row_at t i) → Recast layout m t i k zs w (row_at t i)
recast_as m w t i n k ys zs e f h = subst (λ x. Recast layout m t i x zs w (row_at t i)) e (subst (λ xs. Recast layout m t i n xs w (row_at t i)) f h)
