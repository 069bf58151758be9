use Rattle.std.proofs.Common.{◌-◌, refl, arith}
use Rattle.sectors.specs.declared.chain.Chain.{Chain}
use Rattle.sectors.proofs.Appends.{rest_apart, filled_rest}
use Rattle.sectors.proofs.append.write_from.Goals as goal

pub write-requires : goal.write-requires
write-requires c =
    let rest : Chain = record { first = c.args.s; last = c.args.c.last; count = c.args.c.count - c.args.k } in
    (rest_apart c.args.memory.now c.args.c rest c.args.k (omega arith) c.requires.here.1 refl c.requires.apart, omega arith, omega arith)

pub returns : goal.returns
returns c =
    filled_rest c.args.memory.now c.args.c _ c.args.k (omega arith) c.requires.here.1 refl c.args.at c.args.bytes.now c.write.new.memory
    c.requires.apart c.requires.here.2 c.write.ensures
