use Rattle.std.proofs.Common.{sym, ◌∙◌, subst}
use Rattle.sectors.specs.Sectors.{Stored}
use Rattle.sectors.proofs.Links.{stored}
use Rattle.sectors.proofs.sector.copy_in.Goals as goal

pub returns : goal.returns
returns c =
    let mem = c.args.memory.now in
    let s = c.args.s in
    let bs = c.args.bytes.now in
    let h = subst (Stored mem s c.args.from bs) (sym c.put_bytes.ensures) (stored mem s c.args.from bs c.requires.0 c.requires.1) in
    record { next = c.parts-next.ensures.next ∙ h.nexts s; stored = h }
