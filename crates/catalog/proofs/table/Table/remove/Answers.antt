use Rattle.std.proofs.Common.{◌-◌, List, sym, refl, subst, arith}
use Rattle.catalog.specs.declared.row.Row.{Row}
use Rattle.catalog.specs.Rows.{none}
use Rattle.catalog.proofs.Moves.{removed_rows}
use Rattle.catalog.proofs.Kept.{Kept, kept_removed}
use Rattle.catalog.proofs.table.Table.remove.Goals as goal

pub invariant_of-self : goal.invariant_of-self
invariant_of-self c =
    let t = c.args.self.now in
    let e = removed_rows t.rows t.count c.args.i none c.rotate_left.new.self (omega arith) (omega arith) c.rotate_left.ensures.after in
    let k = subst (λ (rs : List Row). Kept rs (t.count - 1)) (sym e) (kept_removed t c.args.i (omega arith)) in
    record { long = k.long; few = k.few; rising = k.rising; fit = k.fit; ordered = k.ordered }

pub returns : goal.returns
returns c =
    let t = c.args.self.now in
    record {
      count = refl;
      rows = removed_rows t.rows t.count c.args.i none c.rotate_left.new.self (omega arith) (omega arith) c.rotate_left.ensures.after;
    }
