-- What a recast of one row makes of the store.
use Rattle.std.proofs.Common.{◌≡◌, ℕ, ◌<◌, List, length, get_or, set, sym, refl, ap, ◌∙◌, subst, inl, inr, arith}
use Rattle.std.proofs.lemmas.Bool.{cases_eq}
use Rattle.std.proofs.lemmas.List.{get_or-set_same, get_or-set_other}
use Rattle.store.specs.Disk.{Blob}
use Rattle.catalog.specs.declared.row.Row.{Row}
use Rattle.catalog.specs.Rows.{none, sized}
use Rattle.catalog.proofs.Change.{set_blob}
use Rattle.catalog.proofs.Lookup.{many}
use Rattle.built.specs.declared.medium.Medium.{Ghosts}
use Rattle.built.specs.declared.built.Built.{Built}
use Rattle.built.specs.Laws.{Laws}
use Rattle.built.specs.Recast.{Recast}
use Rattle.built.specs.Calls.{Kept}
use Rattle.built.specs.Seen.{row_at, blob_in, blobs}
use Rattle.built.specs.Untouched.{Apart}
use Rattle.built.specs.Rewritten.{Rewritten}
use Rattle.built.proofs.Facts.{long}

module _ {S : Type 0} {M : Ghosts S} (w : Laws M.layout) (s t : Built S M) (i n : ℕ) (ys : List ℕ) (r : Row) (sound safe : ℕ) (l : i < s.catalog.table.count)
    (e : Recast M.layout s.medium s.catalog.table i n ys t.medium r)
    (rows : t.catalog.table.rows ≡ set s.catalog.table.rows i (sized r n sound safe)) (count : t.catalog.table.count ≡ s.catalog.table.count) (kept : Kept s t) where
  at_i : row_at t i ≡ sized r n sound safe
  at_i = ap (λ rs. get_or rs i none) rows ∙ get_or-set_same s.catalog.table.rows i (sized r n sound safe) none (omega (arith, many s.catalog.table))

  at_k : (k : ℕ) → (k ≡ i → ⊥) → row_at t k ≡ row_at s k
  at_k k d = ap (λ rs. get_or rs k none) rows ∙ get_or-set_other s.catalog.table.rows i k (sized r n sound safe) none d

  number : r.number ≡ (row_at s i).number
  number = ap (λ (x : Row). x.number) e.row

  here_i : (q : ℕ) → Apart s i q → Apart t i q
  here_i q o = subst (λ (x : Row). M.layout.Outside t.medium x.place x.len q) (sym at_i) (e.here q o)

  as_long : length ys ≡ n
  as_long = ap length (sym e.bytes) ∙ subst (λ (x : Row). length (M.layout.content t.medium x.place x.len) ≡ x.len) at_i (long w t i (omega (arith, count)))

  pub rewritten : Rewritten i (record { bytes = ys; sound = sound; safe = safe }) s t
  rewritten =
      record {
        blobs =
            set_blob s.catalog.table i (sized r n sound safe) t.catalog.table rows count (blob_in s) (blob_in t) l
            (λ k m d. ap (λ (zs : List ℕ). let y : Blob = record { bytes = zs; sound = (row_at s k).sound; safe = (row_at s k).safe } in y) (e.others k m d))
            ∙ ap (set (blobs s) i)
            (ap (λ (k : ℕ). let y : ℕ × Blob = (k, blob_in t (sized r n sound safe)) in y) number
            ∙ ap (λ (zs : List ℕ). let y : ℕ × Blob = ((row_at s i).number, record { bytes = zs; sound = sound; safe = safe }) in y) e.bytes);
        count = count;
        len = ap (λ (x : Row). x.len) at_i ∙ sym as_long;
        number = ap (λ (x : Row). x.number) at_i ∙ number;
        kept = kept;
        limit =
            ap (M.layout.limit t.medium) as_long ∙ e.limit;
        memory = record { long = e.long; same = λ q h. e.same q (h i l refl) };
        apart = λ k q m o p.
            elim (cases_eq k i) [
              | inl z ↦ subst (λ j. Apart t j q) (sym z) (here_i q o)
              | inr z ↦ subst (λ (x : Row). M.layout.Outside t.medium x.place x.len q) (sym (at_k k z)) (e.apart k q m z o p)
            ];
        back = λ q o. e.back q (subst (λ (x : Row). M.layout.Outside t.medium x.place x.len q) at_i o);
      }

  pub rewritten_as : (y : Blob) → ◌≡◌ {A = Blob} (record { bytes = ys; sound = sound; safe = safe }) y → Rewritten i y s t
  rewritten_as y z = subst (λ (b : Blob). Rewritten i b s t) z rewritten
