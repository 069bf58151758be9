use Rattle.std.proofs.Common.{◌+◌, List, sym, refl, subst, arith}
use Rattle.catalog.specs.declared.row.Row.{Row}
use Rattle.catalog.specs.Rows.{fresh_row}
use Rattle.catalog.proofs.Moves.{inserted_rows}
use Rattle.catalog.proofs.Kept.{Kept, kept_inserted}
use Rattle.catalog.proofs.table.Table.insert.Goals as goal

pub invariant_of-self : goal.invariant_of-self
invariant_of-self c =
    let t = c.args.self.now in
    let e = inserted_rows t.rows t.count c.args.i (fresh_row c.args.b c.args.place) c.shift_in.new.rows c.requires.within (omega arith) c.shift_in.ensures in
    let k = subst (λ (rs : List Row). Kept rs (t.count + 1)) (sym e) (kept_inserted t c.args.i c.args.b c.args.place c.requires.few c.requires.within (omega arith) c.requires.sought c.requires.fresh) in
    record { long = k.long; few = k.few; rising = k.rising; fit = k.fit; ordered = k.ordered }

pub returns : goal.returns
returns c =
    let t = c.args.self.now in
    record {
      count = refl;
      rows = inserted_rows t.rows t.count c.args.i (fresh_row c.args.b c.args.place) c.shift_in.new.rows c.requires.within (omega arith) c.shift_in.ensures;
    }
