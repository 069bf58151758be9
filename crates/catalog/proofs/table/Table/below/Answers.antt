use Rattle.std.proofs.Common.{◌≡◌, ◌<◌, length, ap, ◌∙◌, arith}
use Rattle.catalog.specs.declared.row.Row.{Row}
use Rattle.catalog.specs.Blobs.{row_at}
use Rattle.catalog.proofs.Lookup.{length_rows, row_got, below_same, below_prior}
use Rattle.catalog.proofs.table.Table.below.Goals.{in_default-via-in-Some+else-row-b, in_default-via-in_default}
use Rattle.catalog.proofs.table.Table.below.Goals as goal

pub returns-in-Some : goal.returns-in-Some
returns-in-Some c g =
    let t = c.args.self.now in
    let i = c.seek-i.result in
    let a = row_got t c.live.result.now i c.in-Some.row.now c.live.ensures c.in-Some.ensures.lookup.3 in
    below_same g t c.args.b i c.seek-i.ensures.place a.0 (omega (arith, ap (λ (r : Row). r.number) a.1, c.if-row-b.true))

pub returns-in_ok-last-in_default : goal.returns-in_ok-last-in_default
returns-in_ok-last-in_default c g =
    let t = c.args.self.now in
    let i = c.seek-i.result in
    let absent : i < t.count → (row_at t i).number ≡ c.args.b → ⊥ = λ l e. elim c.in_default.branch [
      | in_default-via-in-Some+else-row-b w ↦
          let a = row_got t c.live.result.now i w.in-Some.row.now c.live.ensures w.in-Some.ensures.lookup.3 in
          w.if-row-b.false (ap (λ (r : Row). r.number) a.1 ∙ e)
      | in_default-via-in_default w ↦ omega (arith, w.in_default.ensures.lookup.3, ap length c.live.ensures, length_rows t)
    ] in
    let z = c.in_ok-last-in_default.ensures in
    below_prior g t c.args.b i c.seek-i.ensures.place absent c.in_ok-last-in_default.last (omega (arith, z.0, z.1))
