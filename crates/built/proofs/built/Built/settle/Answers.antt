use Rattle.std.proofs.Common.{◌≡◌, ◌+◌, ◌-◌, ◌++◌, set, take, replicate, refl, ap, ◌∙◌, arith}
use Rattle.store.specs.Left.{sound_left, left_of}
use Rattle.catalog.specs.declared.row.Row.{Row}
use Rattle.built.specs.Seen.{row_at, blob_in}
use Rattle.built.proofs.Facts.{long}
use Rattle.built.proofs.Rewrites.{rewritten_as}
use Rattle.built.proofs.built.Built.settle.Goals as goal

pub returns-in-Fill : goal.returns-in-Fill
returns-in-Fill g c =
    let w = g.met.M.Medium.lawful in
    let s = c.args.self.now in
    let i = c.args.i in
    let how = c.args.how in
    let r = row_at s i in
    let old = blob_in s r in
    let is = c.row-row.ensures.is in
    let v = c.in-Fill.value in
    let m = c.row-row.result.safe + c.min.result in
    let left : m ≡ sound_left how.keep old = omega (arith, ap (λ (x : Row). x.safe) is, ap (λ (x : Row). x.sound) is) in
    let n = long w s i c.requires in
    let rows =
    c.change.ensures.rows
    ∙ ap (λ (x : Row). let y : Row = record { number = x.number; place = x.place; tail = x.tail; len = x.len; sound = m; safe = m } in set s.catalog.table.rows i y) is in
    rewritten_as w s _ i r.len (take m old.bytes ++ replicate (r.len - m) v) r m m c.requires c.blot.ensures rows c.change.ensures.count
    (record { present = refl; saved = refl; power = refl })
    (left_of how old)
    (rw (c.in-Fill.is, ← left, n) refl)
