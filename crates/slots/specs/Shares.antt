-- The parts of all rows, in use or free: each of the 64 at most once, and nothing else.
use Rattle.std.specs.Prelude.{◌≡◌, ℕ, suc, ◌+◌, ◌<◌, ◌≤◌, Bool, true, false, cond, List, [], ◌∷◌, ◌++◌, length, drop, ◌≢◌, nat_lt, slice_index, slice_index_or, refl}
use Rattle.std.proofs.Common.{arith, add-one, sym, ap, ◌∙◌}
use Rattle.std.specs.List.{insert, remove}
use Rattle.std.proofs.lemmas.List.{map-append, drop_more, get_or-map, get_or-take, length-take-le, take-append-drop, length-map}
use Rattle.std.proofs.lemmas.Bool.{ltb-true, ltb-false}
use Rattle.store.specs.Occurs.{occurs}
use Rattle.store.proofs.Occurs.{occurs_append, occurs_at, occurs_twice, occurs_none, occurs_once}
use Rattle.catalog.specs.declared.row.Row.{Row}
use Rattle.catalog.specs.declared.table.Table.{Table}
use Rattle.catalog.specs.Rows.{none, places_of, fresh_row}
use Rattle.catalog.specs.Blobs.{live, row_at}
use Rattle.catalog.proofs.Moves.{map_inserted, map_removed, occurs_inserted, occurs_removed}

abbrev pub EachOnce : List ℕ → Type 0
EachOnce ps = (p : ℕ) → occurs p ps ≤ cond (nat_lt p 64) 1 0

pub at_most_one : (b : Bool) → cond b 1 0 ≤ 1
at_most_one true = omega arith
at_most_one false = omega arith

pub part_below : (ps : List ℕ) → EachOnce ps → (k : ℕ) → k < length ps → slice_index ps k < 64
part_below ps h k l = by_test (nat_lt (slice_index ps k) 64) refl
  where
    by_test : (t : Bool) → nat_lt (slice_index ps k) 64 ≡ t → slice_index ps k < 64
    by_test true e = ltb-true (slice_index ps k) 64 e
    by_test false e =
        let o = occurs_at (slice_index ps k) ps k l refl in
        let q : occurs (slice_index ps k) ps ≤ 0 = simp e at (h (slice_index ps k)) in
        absurd (omega arith)

pub part_twice : (ps : List ℕ) → EachOnce ps → (j k : ℕ) → j < k → k < length ps → slice_index ps j ≢ slice_index ps k
part_twice ps h j k m l e =
    let o = occurs_twice (slice_index ps j) ps j k m l refl (sym e) in
    omega (arith, h (slice_index ps j), at_most_one (nat_lt (slice_index ps j) 64))

-- row k has part k
pub parts_new : (ps : List ℕ) → length ps ≡ 64 → ((k : ℕ) → k < 64 → slice_index ps k ≡ k) → EachOnce ps
parts_new ps n h p = by_test (nat_lt p 64) refl
  where
    by_test : (t : Bool) → nat_lt p 64 ≡ t → occurs p ps ≤ cond (nat_lt p 64) 1 0
    by_test true e = simp e (occurs_once p ps (λ j k m l f. omega (arith, h j (omega arith), h k (omega arith))))
    by_test false e =
        simp e (let z = occurs_none p ps (λ k l f. omega (arith, h k (omega arith), ltb-false p 64 e)) in omega arith)

-- a row comes with the place of the first free row, and a row goes: the same places, in another order
places_append : (xs ys : List Row) → places_of (xs ++ ys) ≡ places_of xs ++ places_of ys
places_append xs ys = map-append (λ (r : Row). r.place) xs ys

pub parts_inserted : (t : Table) (i b : ℕ) (rs : List Row) → t.count < 64 → EachOnce (places_of t.rows)
    → rs ≡ insert (live t) i (fresh_row b (row_at t t.count).place) ++ drop (suc t.count) t.rows → EachOnce (places_of rs)
parts_inserted t i b rs few h rows p =
    let n = t.count in
    let L = live t in
    let y = (row_at t n).place in
    let C = drop (suc n) t.rows in
    let e : occurs p (places_of rs) ≡ occurs p (insert (places_of L) i y) + occurs p (places_of C) =
    ap (λ xs. occurs p (places_of xs)) rows
    ∙ ap (occurs p) (places_append (insert L i (fresh_row b y)) C ∙ ap (λ zs. zs ++ places_of C) (map_inserted (λ (r : Row). r.place) L i (fresh_row b y)))
    ∙ occurs_append p (insert (places_of L) i y) (places_of C) in
    let f : occurs p (places_of t.rows) ≡ occurs p (places_of L) + occurs p (y ∷ places_of C) =
    ap (λ xs. occurs p (places_of xs))
    (sym (take-append-drop n t.rows) ∙ ap (λ zs. L ++ zs) (drop_more t.rows n none (omega (arith, t.long)) ∙ ap (λ k. row_at t n ∷ drop k t.rows) (add-one n)))
    ∙ ap (occurs p) (places_append L (row_at t n ∷ C))
    ∙ occurs_append p (places_of L) (y ∷ places_of C) in
    omega (arith, h p, occurs_inserted p (places_of L) i y)

pub parts_removed : (t : Table) (i : ℕ) (rs : List Row) → i < t.count → EachOnce (places_of t.rows)
    → rs ≡ remove (live t) i ++ row_at t i ∷ drop t.count t.rows → EachOnce (places_of rs)
parts_removed t i rs l h rows p =
    let n = t.count in
    let L = live t in
    let C = drop n t.rows in
    let len : length L ≡ n = length-take-le n t.rows (omega (arith, t.long, t.few)) in
    let len_p : length (places_of L) ≡ length L = length-map L (λ (r : Row). r.place) in
    let e : occurs p (places_of rs) ≡ occurs p (remove (places_of L) i) + occurs p ((row_at t i).place ∷ places_of C) =
    ap (λ xs. occurs p (places_of xs)) rows
    ∙ ap (occurs p) (places_append (remove L i) (row_at t i ∷ C) ∙ ap (λ zs. zs ++ places_of (row_at t i ∷ C)) (map_removed (λ (r : Row). r.place) L i))
    ∙ occurs_append p (remove (places_of L) i) (places_of (row_at t i ∷ C)) in
    let f : occurs p (places_of t.rows) ≡ occurs p (places_of L) + occurs p (places_of C) =
    ap (λ xs. occurs p (places_of xs)) (sym (take-append-drop n t.rows))
    ∙ ap (occurs p) (places_append L C)
    ∙ occurs_append p (places_of L) (places_of C) in
    let g : slice_index_or (places_of L) i 0 ≡ (row_at t i).place =
    get_or-map (λ (r : Row). r.place) L i none 0 (omega arith) ∙ ap (λ (r : Row). r.place) (get_or-take n t.rows i none l) in
    let o : occurs p (remove (places_of L) i) + occurs p ((row_at t i).place ∷ []) ≡ occurs p (places_of L) =
    ap (λ x. occurs p (remove (places_of L) i) + occurs p (x ∷ [])) (sym g) ∙ occurs_removed p (places_of L) i (omega arith) in
    omega (arith, h p)
