use Rattle.std.proofs.Common.{ℕ, ◌+◌, List, ◌++◌, length, take, vec_items, ap, sym, refl, ◌∙◌, arith}
use Rattle.std.proofs.lemmas.List.{with_items_is, take-take}
use Rattle.catalog.specs.Blobs.{row_at}
use Rattle.sectors.specs.declared.chain.Chain.{Chain}
use Rattle.sectors.specs.Chains.{joint}
use Rattle.chains.specs.Cover.{chain_of}
use Rattle.chains.specs.Contents.{both_at}
use Rattle.chains.proofs.Across.{moved_as, both_as}
use Rattle.chains.proofs.Recasts.{recast_as}
use Rattle.chains.proofs.medium.SectorsMedium.recast.Goals as goal

pub chain_of-requires : goal.chain_of-requires
chain_of-requires c =
    let m = c.args.self.now in
    omega (arith, (both_at m.sectors (vec_items m.memory) c.args.table.now m.free c.requires.holds c.args.i c.requires.within).few)

pub recast-chain-requires-clause-both : goal.recast-chain-requires-clause-both
recast-chain-requires-clause-both c =
    let m = c.args.self.now in
    both_as _ (vec_items m.memory) _ (chain_of (row_at c.args.table.now c.args.i)) m.free c.as_mut_slice.ensures.value c.chain_of.ensures
    (both_at m.sectors (vec_items m.memory) c.args.table.now m.free c.requires.holds c.args.i c.requires.within)

pub returns-clause-recast : goal.returns-clause-recast
returns-clause-recast c =
    let m = c.args.self.now in
    let t = c.args.table.now in
    let row = row_at t c.args.i in
    let k = c.args.keep in
    let bs = c.args.bytes.now in
    let x = c.recast-chain in
    let w = with_items_is m.memory x.new.memory (omega arith) in
    let moved = moved_as _ (vec_items m.memory) _ (chain_of row) _ _ m.free x.result x.new.free c.as_mut_slice.ensures.value c.chain_of.ensures (sym w) x.ensures.moved in
    let bytes = ap (λ (ys : List ℕ). take (k + length bs) (joint ys x.result)) w
    ∙ x.ensures.bytes
    ∙ ap (λ (ys : List ℕ). take k (joint ys c.chain_of.result) ++ bs) c.as_mut_slice.ensures.value
    ∙ ap (λ (y : Chain). take k (joint (vec_items m.memory) y) ++ bs) c.chain_of.ensures
    ∙ ap (λ ys. ys ++ bs) (sym (take-take k row.len (joint (vec_items m.memory) (chain_of row)) c.requires.kept)) in
    recast_as m _ t c.args.i (k + length bs) c.requires.within c.requires.holds x.result _ moved refl refl x.ensures.count bytes c.placed.result c.placed.ensures
