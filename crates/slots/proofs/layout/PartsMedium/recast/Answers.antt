use Rattle.std.proofs.Common.{◌≡◌, [], length, refl, ap, sym, ◌∙◌, ◌*◌, ◌+◌, vec_items}
use Rattle.std.proofs.lemmas.Bool.{eqb-true}
use Rattle.catalog.specs.Blobs.{row_at}
use Rattle.octets.specs.Written.{written}
use Rattle.slots.proofs.Recasts.{recast, written_none}
use Rattle.std.proofs.lemmas.List.{nil_from_length}
use Rattle.slots.proofs.layout.PartsMedium.recast.Goals as goal

pub returns-then-is_empty-clause-recast : goal.returns-then-is_empty-clause-recast
returns-then-is_empty-clause-recast c =
    let m = c.args.self.now in
    let t = c.args.table.now in
    let bs = c.args.bytes.now in
    let at = (row_at t c.args.i).place * m.each + c.args.keep in
    let none : bs ≡ [] = nil_from_length bs (eqb-true (length bs) 0 (sym c.if-is_empty.ensures)) in
    recast m t c.requires.holds c.args.i c.requires.within c.args.keep bs c.requires.kept c.requires.fits m.memory m.cut
    (written_none (vec_items m.memory) at ∙ ap (written (vec_items m.memory) at) (sym none)) refl

pub returns-clause-recast : goal.returns-clause-recast
returns-clause-recast c =
    let m = c.args.self.now in
    let t = c.args.table.now in
    let s = c.start.ensures.is in
    recast m t c.requires.holds c.args.i c.requires.within c.args.keep c.args.bytes.now c.requires.kept c.requires.fits c.write_at.new.memory _
    (c.write_at.ensures.items ∙ ap (λ k. written (vec_items m.memory) (k + c.args.keep) c.args.bytes.now) s) c.write_at.ensures.len
