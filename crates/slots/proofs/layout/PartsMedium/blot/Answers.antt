use Rattle.std.proofs.Common.{◌≡◌, refl, ap, ◌∙◌, ◌+◌, ◌-◌, ◌++◌, length, take, replicate, vec_items, arith}
use lib.ListN.{length-replicate}
use Rattle.octets.specs.Written.{written}
use Rattle.built.specs.Recast.{bytes_at}
use Rattle.catalog.specs.Blobs.{row_at}
use Rattle.slots.specs.Layout.{layout}
use Rattle.slots.proofs.Recasts.{recast, recast_as}
use Rattle.slots.proofs.layout.PartsMedium.blot.Goals as goal

pub returns : goal.returns
returns c =
    let m = c.args.self.now in
    let t = c.args.table.now in
    let i = c.args.i in
    let r = row_at t i in
    let s = c.start.ensures.is in
    let bs = replicate (r.len - c.args.from) c.args.value in
    let n : length bs ≡ r.len - c.args.from = length-replicate (r.len - c.args.from) c.args.value in
    let ys = take c.args.from (bytes_at layout m t i) ++ bs in
    recast_as m _ t i (c.args.from + length bs) r.len ys ys (omega (arith, n, c.requires.starts)) refl
    (recast m t c.requires.holds i c.requires.within c.args.from bs c.requires.starts (omega (arith, n, c.start.ensures.len)) c.fill_at.new.memory _
    (c.fill_at.ensures.items ∙ ap (λ k. written (vec_items m.memory) (k + c.args.from) bs) s) c.fill_at.ensures.len)
