use Rattle.std.proofs.Common.{sym, subst}
use Rattle.sectors.specs.Sectors.{Linked}
use Rattle.sectors.proofs.Links.{linked}
use Rattle.sectors.proofs.sector.set_next.Goals as goal

pub returns : goal.returns
returns c =
    let mem = c.args.memory.now in
    subst (Linked mem c.args.s c.args.n) (sym c.put.ensures) (linked mem c.args.s c.args.n c.requires.0 c.requires.1)
