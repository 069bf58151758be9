use Rattle.std.proofs.Common.{◌≡◌, ◌<◌, length, get_or, Some, ap, ◌∙◌, arith}
use Rattle.catalog.specs.declared.row.Row.{Row}
use Rattle.catalog.specs.Rows.{none}
use Rattle.catalog.specs.Blobs.{row_at}
use Rattle.catalog.proofs.Lookup.{length_rows, row_live, above_at, above_past}
use Rattle.catalog.proofs.table.Table.above.Goals as goal

pub returns-in_err-row : goal.returns-in_err-row
returns-in_err-row c g =
    let t = c.args.self.now in
    let l = c.in_err-row.ensures.lookup.3 in
    c.from_residual.ensures ∙ above_past g t c.args.b c.seek.result c.seek.ensures.place (omega (arith, l, ap length c.live.ensures, length_rows t))

pub returns : goal.returns
returns c g =
    let t = c.args.self.now in
    let i = c.seek.result in
    let a = c.in_ok-row.ensures.lookup.3 in
    let l : i < t.count = omega (arith, a.0, ap length c.live.ensures, length_rows t) in
    let e : c.in_ok-row.row.now ≡ row_at t i = a.1 none ∙ ap (λ rs. get_or rs i none) c.live.ensures ∙ row_live t i l in
    ap (λ (r : Row). Some r.number) e ∙ above_at g t c.args.b i c.seek.ensures.place l
