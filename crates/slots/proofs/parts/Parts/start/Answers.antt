use Rattle.std.proofs.Common.{refl, arith}
use Rattle.slots.specs.Laws.{len_within, part_within}
use Rattle.slots.proofs.parts.Parts.start.Goals as goal

pub overflow_mul-result : goal.overflow_mul-result
overflow_mul-result c = omega (arith, part_within c.args.self.now c.args.table.now c.requires.holds c.args.i c.requires.within, c.args.self.now.memory.ok)

pub returns : goal.returns
returns c = record {
  is = refl;
  part = part_within c.args.self.now c.args.table.now c.requires.holds c.args.i c.requires.within;
  len = len_within c.args.self.now c.args.table.now c.requires.holds c.args.i c.requires.within;
}
