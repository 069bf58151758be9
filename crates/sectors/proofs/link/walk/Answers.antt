use Rattle.std.proofs.Common.{◌+◌, ◌*◌, ◌≤◌, length, sym, ap, ◌∙◌, subst, add-one}
use Rattle.sectors.specs.Sectors.{next_of, after, sectors}
use Rattle.sectors.proofs.Paths.{inside, after_in, after_more}
use Rattle.sectors.proofs.link.walk.Goals as goal

pub parts-next-requires : goal.parts-next-requires
parts-next-requires c =
    let mem = c.args.memory.now in
    let f = next_of mem in
    let i = inside mem (sectors c.args.k f c.args.first) c.requires (after c.loop-i._i f c.args.first)
    (after_in c.loop-i._i c.args.k f c.args.first c.loop-i-test.true) in
    subst (λ x. 64 * x + 64 ≤ length mem) (sym c.loop-i.invariant) i.2

pub loop-i-preserved : goal.loop-i-preserved
loop-i-preserved c =
    let f = next_of c.args.memory.now in
    c.parts-next.ensures.next ∙ ap f c.loop-i.invariant ∙ sym (after_more c.loop-i._i f c.args.first)
    ∙ ap (λ n. after n f c.args.first) (sym (add-one c.loop-i._i))
