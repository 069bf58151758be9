use Rattle.std.proofs.Common.{length, eqb, ap, sym, arith}
use Rattle.catalog.specs.declared.row.Row.{Row}
use Rattle.catalog.proofs.Lookup.{length_rows, row_got, found_by, found_past}
use Rattle.catalog.proofs.table.Table.find.Goals as goal

pub returns-in_err-row : goal.returns-in_err-row
returns-in_err-row c =
    let t = c.args.self.now in
    let l = c.in_err-row.ensures.lookup.3 in
    rw c.from_residual.ensures (found_past t c.args.b c.seek-i.result c.seek-i.ensures.place (omega (arith, l, ap length c.live.ensures, length_rows t)))

pub returns : goal.returns
returns c =
    let t = c.args.self.now in
    let i = c.seek-i.result in
    let a = row_got t c.live.result.now i c.in_ok-row.row.now c.live.ensures c.in_ok-row.ensures.lookup.3 in
    rw c.then_some.ensures (found_by t c.args.b i _ c.seek-i.ensures.place a.0 (ap (λ (r : Row). eqb r.number c.args.b) (sym a.1)))
