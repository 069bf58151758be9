use Rattle.std.proofs.Common.{vec_items, ap, arith}
use Rattle.catalog.specs.Blobs.{row_at}
use Rattle.sectors.specs.declared.chain.Chain.{Chain}
use Rattle.chains.specs.Cover.{chain_of}
use Rattle.chains.specs.Contents.{both_at}
use Rattle.chains.proofs.Across.{apart_as, alone}
use Rattle.chains.proofs.medium.SectorsMedium.read.Goals as goal

pub chain_of-requires : goal.chain_of-requires
chain_of-requires c =
    let m = c.args.self.now in
    omega (arith, (both_at m.sectors (vec_items m.memory) c.args.table.now m.free c.requires.holds c.args.i c.requires.within).few)

pub read-requires : goal.read-requires
read-requires c =
    let m = c.args.self.now in
    let mem = vec_items m.memory in
    let d = chain_of (row_at c.args.table.now c.args.i) in
    let b = both_at m.sectors mem c.args.table.now m.free c.requires.holds c.args.i c.requires.within in
    let e = ap (λ (x : Chain). x.count) c.chain_of.ensures in
    (apart_as _ mem _ d c.as_slice.ensures.value c.chain_of.ensures (alone mem d m.free b), omega (arith, e, c.requires.fits), omega (arith, e, b.few))
