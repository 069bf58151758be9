use Rattle.std.proofs.Common.{ℕ, ap, sym, ◌∙◌, set, refl}
use Rattle.catalog.specs.declared.row.Row.{Row}
use Rattle.built.proofs.Rewrites.{rewritten}
use Rattle.built.proofs.built.Built.rewrite.Goals as goal

pub returns-clause-rewritten : goal.returns-clause-rewritten
returns-clause-rewritten g c =
    let s = c.args.self.now in
    let row = c.args.row in
    let at = c.recast-at.result in
    let e = c.recast-at.ensures.recast in
    let rows =
    c.change.ensures.rows
    ∙ ap (λ (k : ℕ). let r : Row = record { number = k; place = at.place; tail = at.tail; len = row.len; sound = row.sound; safe = row.safe } in set s.catalog.table.rows c.args.i r)
    (c.requires.number ∙ sym (ap (λ (x : Row). x.number) e.row))
    ∙ ap (λ (k : ℕ). let r : Row = record { number = at.number; place = at.place; tail = at.tail; len = k; sound = row.sound; safe = row.safe } in set s.catalog.table.rows c.args.i r) c.requires.len in
    rewritten g.met.M.Medium.lawful s _ c.args.i _ _ at row.sound row.safe c.requires.within e rows c.change.ensures.count (record { present = refl; saved = refl; power = refl })
