-- Tables with the same blobs at the same places, of the same lengths.
use Rattle.std.proofs.Common.{◌≡◌, ℕ, ◌<◌, List, [], ◌∷◌, map, get_or, set, sym, refl, ap, ◌∙◌, arith}
use Rattle.std.proofs.lemmas.List.{get_or-map}
use Rattle.catalog.specs.declared.row.Row.{Row}
use Rattle.catalog.specs.declared.table.Table.{Table}
use Rattle.catalog.specs.Rows.{none}
use Rattle.catalog.specs.Blobs.{row_at, bare, SameRows}
use Rattle.catalog.proofs.Live.{map_same}

-- what a row has apart from its sound and safe lengths
through_bare : {B : Type 0} (f : Row → B) → ((r : Row) → f (bare r) ≡ f r) → (rs : List Row) → map f (map bare rs) ≡ map f rs
through_bare f h [] = refl
through_bare f h (r ∷ rs) = ap (λ x. x ∷ map f (map bare rs)) (h r) ∙ ap (λ xs. f r ∷ xs) (through_bare f h rs)

module _ (t u : Table) (same : SameRows t u) where
  pub same_map : {B : Type 0} (f : Row → B) → ((r : Row) → f (bare r) ≡ f r) → map f u.rows ≡ map f t.rows
  same_map f h = sym (through_bare f h u.rows) ∙ ap (map f) same.rows ∙ through_bare f h t.rows

  pub same_at : {B : Type 0} (f : Row → B) → ((r : Row) → f (bare r) ≡ f r) → (k : ℕ) → k < t.count → f (row_at u k) ≡ f (row_at t k)
  same_at f h k l =
      let d = f none in
      sym (get_or-map f u.rows k none d (omega (arith, u.long, t.few, t.long))) ∙ ap (λ xs. get_or xs k d) (same_map f h)
      ∙ get_or-map f t.rows k none d (omega (arith, t.few, t.long))

pub same_refl : (t u : Table) → u ≡ t → SameRows t u
same_refl t u e = record { count = ap (λ (x : Table). x.count) e; rows = ap (λ (x : Table). map bare x.rows) e }

-- one row changed, but for its sound and safe lengths
pub same_set : (t u : Table) (i : ℕ) (r : Row) → u.rows ≡ set t.rows i r → u.count ≡ t.count → bare r ≡ bare (row_at t i) → SameRows t u
same_set t u i r rows count e = record { count = count; rows = ap (map bare) rows ∙ map_same bare t.rows i r e }
