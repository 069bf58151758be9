-- The chain of one row and the free chain are moved: what that makes of the blobs.
use Rattle.std.proofs.Common.{◌≡◌, ℕ, ◌+◌, ◌<◌, List, ◌∷◌, length, get_or, take, Some, None, Option, vec_items, vec_len, sym, refl, ap, ◌∙◌, subst, arith}
use Rattle.std.specs.Option.{ForSome}
use Rattle.store.specs.Disk.{Blob}
use Rattle.store.specs.Occurs.{occurs}
use Rattle.catalog.specs.declared.row.Row.{Row}
use Rattle.catalog.specs.declared.table.Table.{Table}
use Rattle.catalog.specs.Rows.{none, sized}
use Rattle.catalog.specs.Blobs.{live, row_at}
use Rattle.catalog.proofs.Lookup.{length_rows, row_live}
use Rattle.sectors.specs.declared.chain.Chain.{Chain}
use Rattle.sectors.specs.Sectors.{next_of, payload, sectors, need}
use Rattle.sectors.specs.Chains.{list, joint, Moved}
use Rattle.built.specs.Recast.{len_at, Recast}
use Rattle.chains.specs.declared.chains.Sectors.{Sectors}
use Rattle.chains.specs.Cover.{chain_of, placed_row}
use Rattle.chains.specs.Covering.{Chained, other_uses}
use Rattle.chains.specs.Contents.{both_at, other_blobs}
use Rattle.chains.specs.Changes.{placed_chain, placed_bytes, chained_changed, chained_removed}
use Rattle.chains.specs.Layout.{in_sectors}

-- the sectors of a blob, or of a new one, and the free ones
pub few : (m : Sectors) (t : Table) → Chained m.sectors (vec_items m.memory) (live t) m.free → (o : Option ℕ) → ForSome o (λ k. k < t.count) → need (len_at t o) + m.free.count < 65536
few m t h None w = omega (arith, h.counts, h.within)
few m t h (Some i) w = omega (arith, (both_at m.sectors (vec_items m.memory) t m.free h i (w i refl)).few)

module _ (m w : Sectors) (t : Table) (i n : ℕ) (l : i < t.count) (h : Chained m.sectors (vec_items m.memory) (live t) m.free) (d : Chain) (ys : List ℕ)
    (moved : Moved (vec_items m.memory) (chain_of (row_at t i)) m.free (vec_items w.memory) d w.free) (long : vec_len w.memory ≡ vec_len m.memory)
    (many : w.sectors ≡ m.sectors) (count : d.count ≡ need n) (bytes : take n (joint (vec_items w.memory) d) ≡ ys) where
  abbrev mem : List ℕ
  mem = vec_items m.memory

  abbrev new : List ℕ
  new = vec_items w.memory

  lengths : length new ≡ length mem
  lengths = sym w.memory.ok.0 ∙ long ∙ m.memory.ok.0

  same_chain : sectors (need n) (next_of new) d.first ≡ list new d
  same_chain = ap (λ k. sectors k (next_of new) d.first) (sym count)

  row_before : get_or (live t) i none ≡ row_at t i
  row_before = row_live t i l

  moved_live : Moved mem (chain_of (get_or (live t) i none)) m.free new d w.free
  moved_live = subst (λ (r : Row). Moved mem (chain_of r) m.free new d w.free) (sym row_before) moved

  -- sectors of another row's chain
  same_sectors : (k q : ℕ) → k < t.count → (k ≡ i → ⊥) → occurs q (list new (chain_of (row_at t k))) ≡ occurs q (list mem (chain_of (row_at t k)))
  same_sectors k q lk d' =
      let a = other_uses m.sectors mem (live t) m.free h i (omega (arith, length_rows t)) new d w.free lengths moved_live q k (omega (arith, length_rows t)) d' in
      subst (λ (r : Row). occurs q (list new (chain_of r)) ≡ occurs q (list mem (chain_of r))) (row_live t k lk) a

  recast : Recast in_sectors m t i n ys w (placed_row (row_at t i) d)
  recast =
      record {
        row = refl;
        bytes = placed_bytes new d n count ∙ bytes;
        others = λ k lk e. ap (λ (x : Blob). x.bytes) (other_blobs m.sectors mem t m.free h i l new d w.free lengths moved k lk e);
        limit = omega (arith, moved.count, count);
        holds = λ u sound safe same rows.
            subst (λ j. Chained j new (live u) w.free) (sym many)
            (chained_changed m.sectors mem t m.free h u i l new d w.free lengths moved (sized (placed_row (row_at t i) d) n sound safe)
            (placed_chain (sized (row_at t i) n sound safe) d count) rows same);
        gone = λ z u same rows.
            subst (λ j. Chained j new (live u) w.free) (sym many)
            (chained_removed m.sectors mem t m.free h u i l new d w.free lengths moved _ (count ∙ ap need z) same rows);
        long = long;
        same = λ q o. let z = moved.nexts q (omega (arith, o.0, o.1)) in let y = moved.payloads q (omega (arith, o.0, o.1)) in
            ap (λ a. a ∷ payload new q) z ∙ ap (λ zs. next_of mem q ∷ zs) y;
        here = λ q o. (omega (arith, moved.same q, o.0, o.1), ap (occurs q) same_chain ∙ omega (arith, moved.same q, o.0, o.1));
        back = λ q o. let c = sym (ap (occurs q) same_chain) ∙ o.1 in (omega (arith, moved.same q, o.0, c), omega (arith, moved.same q, o.0, c));
        apart = λ k q lk e a b. (omega (arith, moved.same q, a.0, a.1), same_sectors k q lk e ∙ b.1);
      }

  pub recast_as : (r : Row) → r ≡ placed_row (row_at t i) d → Recast in_sectors m t i n ys w r
  recast_as r e = subst (λ (x : Row). Recast in_sectors m t i n ys w x) (sym e) recast
