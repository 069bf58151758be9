use Rattle.std.proofs.Common.{◌∙◌, arith, rules, of_calls}
use lib.ListN.{length-map}
use Rattle.std.proofs.lemmas.List.{get_or-map}
use Rattle.catalog.specs.declared.row.Row.{Row}
use Rattle.catalog.specs.Rows.{none, places_of}
use Rattle.slots.specs.Shares.{parts_new}
use Rattle.slots.proofs.layout.new_table.Goals as goal

pub returns-clause-parts : goal.returns-clause-parts
returns-clause-parts c =
    let rs = c.from_fn-rows.result in
    let h = c.from_fn-rows.ensures.items in
    let n = h.long in
    parts_new (places_of rs) (length-map rs (λ (r : Row). r.place) ∙ n)
    (λ k l. get_or-map (λ (r : Row). r.place) rs k none 0 (omega arith) ∙ (let z = h.at k none l in let y = z.2 in search (rules, of_calls)))
