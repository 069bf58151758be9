-- Sums over rows.
use Rattle.std.specs.Prelude.{◌≡◌, ℕ, zero, suc, ◌+◌, ◌<◌, ◌≤◌, List, [], ◌∷◌, ◌++◌, map, length, take, drop, ◌≢◌, slice_index_or, slice_set, refl}
use Rattle.std.proofs.Common.{arith, add-one, ap, ◌∙◌}
use Rattle.std.specs.List.{insert, remove}
use Rattle.std.proofs.lemmas.List.{take-append-drop, drop_more}
use Rattle.catalog.specs.declared.row.Row.{Row}
use Rattle.catalog.specs.Rows.{none}
use Rattle.chains.specs.Cover.{total}

pub total_at : (h : Row → ℕ) (rs : List Row) (i : ℕ) → i < length rs → h (slice_index_or rs i none) ≤ total h rs
total_at h [] i l = absurd (omega arith)
total_at h (r ∷ rs) zero l = omega arith
total_at h (r ∷ rs) (suc i) l = omega (arith, total_at h rs i (omega arith))

-- two rows together
pub total_two : (h : Row → ℕ) (rs : List Row) (i k : ℕ) → i < length rs → k < length rs → (k ≢ i) → h (slice_index_or rs i none) + h (slice_index_or rs k none) ≤ total h rs
total_two h [] i k l m d = absurd (omega arith)
total_two h (r ∷ rs) zero zero l m d = absurd (d refl)
total_two h (r ∷ rs) zero (suc k) l m d = omega (arith, total_at h rs k (omega arith))
total_two h (r ∷ rs) (suc i) zero l m d = omega (arith, total_at h rs i (omega arith))
total_two h (r ∷ rs) (suc i) (suc k) l m d = omega (arith, total_two h rs i k (omega arith) (omega arith) (λ e. d (ap suc e)))

total_agree : (h g : Row → ℕ) (rs : List Row) → ((k : ℕ) → k < length rs → g (slice_index_or rs k none) ≡ h (slice_index_or rs k none)) → total g rs ≡ total h rs
total_agree h g [] a = refl
total_agree h g (r ∷ rs) a = omega (arith, a 0 (omega arith), total_agree h g rs (λ k l. a (suc k) (omega arith)))

-- row i becomes r, and what is counted stays the same of the other rows
pub total_set : (h g : Row → ℕ) (rs : List Row) (i : ℕ) (r : Row) → i < length rs
    → ((k : ℕ) → k < length rs → (k ≢ i) → g (slice_index_or rs k none) ≡ h (slice_index_or rs k none)) → total g (slice_set rs i r) + h (slice_index_or rs i none) ≡ total h rs + g r
total_set h g [] i r l a = absurd (omega arith)
total_set h g (x ∷ rs) zero r l a = omega (arith, total_agree h g rs (λ k m. a (suc k) (omega arith) (λ e. omega arith)))
total_set h g (x ∷ rs) (suc i) r l a =
    omega (arith, a 0 (omega arith) (λ e. omega arith), total_set h g rs i r (omega arith) (λ k m d. a (suc k) (omega arith) (λ e. d (omega arith))))

total_append : (h : Row → ℕ) (xs ys : List Row) → total h (xs ++ ys) ≡ total h xs + total h ys
total_append h [] ys = omega arith
total_append h (x ∷ xs) ys = omega (arith, total_append h xs ys)

pub total_map : (h : Row → ℕ) (f : Row → Row) → ((r : Row) → h (f r) ≡ h r) → (rs : List Row) → total h (map f rs) ≡ total h rs
total_map h f e [] = refl
total_map h f e (r ∷ rs) = omega (arith, e r, total_map h f e rs)

pub total_inserted : (h : Row → ℕ) (rs : List Row) (i : ℕ) (r : Row) → total h (insert rs i r) ≡ h r + total h rs
total_inserted h rs i r =
    let a = total_append h (take i rs) (r ∷ drop i rs) in
    let b = total_append h (take i rs) (drop i rs) in
    let c = ap (total h) (take-append-drop i rs) in
    omega arith

pub total_removed : (h : Row → ℕ) (rs : List Row) (i : ℕ) → i < length rs → total h (remove rs i) + h (slice_index_or rs i none) ≡ total h rs
total_removed h rs i l =
    let a = total_append h (take i rs) (drop (suc i) rs) in
    let b = total_append h (take i rs) (drop i rs) in
    let c = ap (total h) (take-append-drop i rs) in
    let d = ap (total h) (drop_more rs i none l ∙ ap (λ k. slice_index_or rs i none ∷ drop k rs) (add-one i)) in
    omega arith
