use Rattle.std.proofs.Common.{◌≡◌, ◌+◌, ◌-◌, ◌*◌, ◌++◌, length, take, replicate, vec_items, ap, sym, refl, ◌∙◌, arith}
use lib.ListN.{length-replicate}
use Rattle.std.proofs.lemmas.List.{with_items_is, take-take}
use Rattle.octets.specs.Written.{written}
use Rattle.octets.proofs.Writes.{part_grown}
use Rattle.catalog.specs.Blobs.{row_at}
use Rattle.sectors.specs.declared.chain.Chain.{Chain}
use Rattle.sectors.specs.Sectors.{next_of, payload, need}
use Rattle.sectors.specs.Chains.{list, joint}
use Rattle.sectors.proofs.Paths.{chain_same}
use Rattle.sectors.proofs.Pieces.{length_joint}
use Rattle.std.specs.List.{flat_map}
use Rattle.std.specs.Vec.{with_items}
use Rattle.chains.specs.Cover.{chain_of}
use Rattle.chains.specs.Contents.{both_at}
use Rattle.chains.specs.Covering.{moved_filled}
use Rattle.chains.proofs.Across.{filled_as, apart_as, alone}
use Rattle.chains.proofs.Recasts.{recast_as}
use Rattle.chains.proofs.medium.SectorsMedium.blot.Goals as goal

pub chain_of-requires : goal.chain_of-requires
chain_of-requires c =
    let m = c.args.self.now in
    omega (arith, (both_at m.sectors (vec_items m.memory) c.args.table.now m.free c.requires.holds c.args.i c.requires.within).few)

pub fill-requires : goal.fill-requires
fill-requires c =
    let m = c.args.self.now in
    let mem = vec_items m.memory in
    let d = chain_of (row_at c.args.table.now c.args.i) in
    let b = both_at m.sectors mem c.args.table.now m.free c.requires.holds c.args.i c.requires.within in
    let e = ap (λ (x : Chain). x.count) c.chain_of.ensures in
    (apart_as _ mem _ d c.as_mut_slice.ensures.value c.chain_of.ensures (alone mem d m.free b), omega (arith, e, c.requires.starts), omega (arith, e, b.few))

pub returns : goal.returns
returns c =
    let m = c.args.self.now in
    let t = c.args.table.now in
    let mem = vec_items m.memory in
    let row = row_at t c.args.i in
    let d = chain_of row in
    let from = c.args.from in
    let bs = replicate (row.len - from) c.args.value in
    let b = both_at m.sectors mem t m.free c.requires.holds c.args.i c.requires.within in
    let w = with_items_is m.memory c.fill.new.memory (omega arith) in
    let filled = filled_as _ mem _ d _ _ from bs c.as_mut_slice.ensures.value c.chain_of.ensures (sym w) c.fill.ensures in
    let k : length bs ≡ row.len - from = length-replicate (row.len - from) c.args.value in
    let J = joint mem d in
    let long_j : length J ≡ 60 * need row.len = length_joint mem d (alone mem d m.free b) in
    let new = vec_items (with_items m.memory c.fill.new.memory) in
    let same : list new d ≡ list mem d = (chain_same d.count (next_of mem) (next_of new) d.first (λ q z. filled.nexts q)).0 in
    let bytes = ap (λ xs. take row.len (flat_map (payload new) xs)) same
    ∙ ap (take row.len) filled.joint
    ∙ ap (λ j. take j (written J from bs)) (let q : row.len ≡ from + length bs = omega (arith, c.requires.starts) in q)
    ∙ part_grown J from bs (omega (arith, c.requires.starts)) 0 from (omega arith)
    ∙ ap (λ zs. zs ++ bs) (sym (take-take from row.len J c.requires.starts)) in
    let long : length new ≡ length mem = omega (arith, ap length w, c.fill.auto.memory, c.as_mut_slice.ensures.value) in
    recast_as m _ t c.args.i row.len c.requires.within c.requires.holds d _ (moved_filled mem new d m.free from bs long b filled) refl refl refl bytes row refl
