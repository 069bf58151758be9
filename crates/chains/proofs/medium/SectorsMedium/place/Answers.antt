use Rattle.std.proofs.Common.{suc, drop, vec_items, refl}
use Rattle.chains.specs.Changes.{chained_opened}
use Rattle.chains.proofs.medium.SectorsMedium.place.Goals as goal

pub returns : goal.returns
returns c =
    let m = c.args.self.now in
    let t = c.args._table.now in
    record { empty = refl; holds = λ u i b l count rows. chained_opened m.sectors (vec_items m.memory) t m.free c.requires.holds u i b (drop (suc t.count) t.rows) l count rows }
