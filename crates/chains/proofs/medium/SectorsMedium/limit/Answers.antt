use Rattle.std.proofs.Common.{arith}
use Rattle.chains.proofs.Recasts.{few}
use Rattle.chains.proofs.medium.SectorsMedium.limit.Goals as goal

pub needed-requires : goal.needed-requires
needed-requires c = omega (arith, few c.args.self.now c.args.table.now c.requires.holds c.args.i c.requires.within, c.len_at.ensures)

pub overflow_mul-result : goal.overflow_mul-result
overflow_mul-result c = omega (arith, few c.args.self.now c.args.table.now c.requires.holds c.args.i c.requires.within, c.len_at.ensures, c.needed.ensures)
