use Rattle.std.proofs.Common.{◌≡◌, ◌+◌, ◌-◌, ◌<◌, ◌≤◌, ltb, min, take, drop, length, get_or, get_or-take, get_or-drop, length-take, length-drop, inl, inr, ap, ◌∙◌, arith, rules, tests}
use Rattle.std.proofs.lemmas.Bool.{cases_lt, ltb-true, ltb-false}
use Rattle.std.proofs.lemmas.List.{take_rest}
use Rattle.std.proofs.lemmas.Iterator.{IsFirst-from_position, YieldsList-from_slice}
use Rattle.std.proofs.lemmas.List.Sorted.{IsPartitionPoint-from_clause, IsPartitionedBy-ltb, IsNonDecreasingBy-drop}
use Rattle.catalog.specs.declared.row.Row.{Row}
use Rattle.catalog.specs.Rows.{none}
use Rattle.catalog.specs.Blobs.{live}
use Rattle.catalog.proofs.Lookup.{length_rows, rows_rise, sought_live}
use Rattle.catalog.proofs.table.Table.seek.Goals as goal

pub returns-in-Some-clause-place : goal.returns-in-Some-clause-place
returns-in-Some-clause-place c =
    let t = c.args.self.now in
    let b = c.args.b in
    let i = c.in-Some.i in
    let m = c.min-near.result in
    let s = c.iter.ensures.rest ∙ ap (take m) c.live-rows.ensures in
    let first = IsFirst-from_position _ _ _ (λ (r : Row). b ≤ r.number) (λ (r : Row). r.number < b) c.in-Some.ensures.ran (YieldsList-from_slice (take m (live t)) s) (λ x q k. search (rules, tests)) (λ x q k. search (rules, tests)) in
    let n = length_rows t in
    let l = length-take m (live t) in
    sought_live t b i (omega arith)
    (λ k q. omega (arith, first.2 k none (omega arith) q, ap (λ (r : Row). r.number) (get_or-take m (live t) k none (omega arith))))
    (λ q. omega (arith, first.1 none, ap (λ (r : Row). r.number) (get_or-take m (live t) i none (omega arith))))

pub returns-in-None-clause-place : goal.returns-in-None-clause-place
returns-in-None-clause-place c =
    let t = c.args.self.now in
    let b = c.args.b in
    let i = c.partition_point.result in
    let m = c.min-near.result in
    let s = c.iter.ensures.rest ∙ ap (take m) c.live-rows.ensures in
    let first = IsFirst-from_position _ _ _ (λ (r : Row). b ≤ r.number) (λ (r : Row). r.number < b) c.in-None.ensures.ran (YieldsList-from_slice (take m (live t)) s) (λ x q k. search (rules, tests)) (λ x q k. search (rules, tests)) in
    let p = rw (take_rest (live t) m) at (rw c.live-rows.ensures at c.partition_point.ensures.partitioned) in
    let u = rw (take_rest (live t) m) at (rw c.live-rows.ensures at c.partition_point.ensures.bound) in
    let v = length-take m (live t) in
    let z = length-drop m (live t) in
    let n = length_rows t in
    let w : m ≡ min (length (live t)) 16 = c.min-near.ensures ∙ ap (λ rs. min (length rs) 16) c.live-rows.ensures in
    let point = IsPartitionPoint-from_clause (λ (r : Row). ltb r.number b) (drop m (live t)) i p (IsPartitionedBy-ltb (λ (r : Row). r.number) (drop m (live t)) b (IsNonDecreasingBy-drop (λ (r : Row). r.number) m (live t) (rows_rise t))) (λ a r q k. search rules) in
    sought_live t b (m + i) (omega arith)
    (λ k q. elim (cases_lt k m) [
      | inl l ↦ omega (arith, first k none (omega arith) (omega arith), ap (λ (r : Row). r.number) (get_or-take m (live t) k none l))
      | inr l ↦ let e : m + (k - m) ≡ k = omega arith in
          omega (arith, ltb-true _ b (point.0 (k - m) none (omega arith) (omega arith)), ap (λ (r : Row). r.number) (get_or-drop m (live t) (k - m) none), ap (λ j. (get_or (live t) j none).number) e)
    ])
    (λ q. omega (arith, ltb-false _ b (point.1 i none (omega arith) (omega arith)), ap (λ (r : Row). r.number) (get_or-drop m (live t) i none)))
