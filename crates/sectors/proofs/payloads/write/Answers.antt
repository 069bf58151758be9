use Rattle.std.proofs.Common.{◌≡◌, ℕ, ◌+◌, ◌-◌, ◌/◌, List, ◌++◌, length, take, drop, sym, ap, ◌∙◌, subst, arith, take-add}
use Rattle.std.proofs.lemmas.List.{length-take-le}
use Rattle.octets.proofs.Writes.{length_part}
use Rattle.sectors.specs.Sectors.{next_of, sectors}
use Rattle.sectors.specs.Chains.{list, Filled}
use Rattle.sectors.proofs.Paths.{apart_part, fewer}
use Rattle.sectors.proofs.Pieces.{done, next_sector, turn_inside, turn_in}
use Rattle.sectors.proofs.payloads.write.Goals as goal

pub walk-s-requires : goal.walk-s-requires
walk-s-requires c =
    let mem = c.args.memory.now in
    let d = c.args.c in
    apart_part mem (sectors (c.args.at / 60) (next_of mem) d.first) (list mem d) c.requires.0 (fewer (c.args.at / 60) d.count (next_of mem) d.first (omega arith))

pub copy_in-s-requires : goal.copy_in-s-requires
copy_in-s-requires c =
    let mem = c.args.memory.now in
    let bs = c.args.bytes.now in
    let i = turn_inside mem c.args.c c.args.at (length bs) c.loop-k.k c.max-from.result c.min-to.result c.loop-k.s c.requires.0 c.requires.1 (omega arith)
    (omega (arith, c.needed-k-end.ensures)) c.max-from.ensures c.min-to.ensures c.loop-k.invariant.0 in
    let j = c.min-to.result - c.args.at - (c.max-from.result - c.args.at) in
    let long : length (take j (drop (c.max-from.result - c.args.at) bs)) ≡ j = length_part bs (c.max-from.result - c.args.at) j (omega arith) in
    (omega (arith, i, c.loop-k.auto.memory), omega arith)

pub loop-k-preserved : goal.loop-k-preserved
loop-k-preserved c =
    let mem = c.args.memory.now in
    let d = c.args.c in
    let bs = c.args.bytes.now in
    let at = c.args.at in
    let n = length bs in
    let k = c.loop-k.k in
    let from = c.max-from.result in
    let to = c.min-to.result in
    let i = c.loop-k.invariant in
    let j = to - at - (from - at) in
    let long : length (take j (drop (from - at) bs)) ≡ j = length_part bs (from - at) j (omega arith) in
    let e : from - at ≡ done at n k = omega arith in
    let f : done at n k + j ≡ done at n (k + 1) = omega arith in
    let more : take (done at n k) bs ++ take j (drop (from - at) bs) ≡ take (done at n (k + 1)) bs =
    ap (λ m. take (done at n k) bs ++ take j (drop m bs)) e ∙ sym (take-add (done at n k) j bs) ∙ ap (λ m. take m bs) f in
    let r = turn_in mem d at n k from to c.loop-k.s c.requires.0 c.requires.1 (omega arith) (omega arith) c.max-from.ensures c.min-to.ensures i.0
    (take (done at n k) bs) c.loop-k.memory (take j (drop (from - at) bs)) c.copy_in-s.new.memory c.loop-k.auto.memory
    (length-take-le (done at n k) bs (omega arith)) (omega arith) i.1 c.copy_in-s.ensures.stored in (
      next_sector mem d k c.loop-k.s c.copy_in-s.result i.0 (c.copy_in-s.ensures.next ∙ i.1.nexts c.loop-k.s),
      subst (λ (xs : List ℕ). Filled mem d at xs c.copy_in-s.new.memory) more r,
    )
