use Rattle.std.proofs.Common.{◌≡◌, ℕ, ◌+◌, ◌-◌, ◌/◌, List, ◌++◌, length, take, replicate, ap, ◌∙◌, subst, arith}
use Rattle.std.proofs.lemmas.List.{take-replicate, length-take-le, length-replicate, replicate-append-replicate}
use Rattle.sectors.specs.Sectors.{next_of, sectors}
use Rattle.sectors.specs.Chains.{list, Filled}
use Rattle.sectors.proofs.Paths.{apart_part, fewer}
use Rattle.sectors.proofs.Pieces.{done, next_sector, turn_inside, turn_in}
use Rattle.sectors.proofs.payloads.fill.Goals as goal

pub walk-s-requires : goal.walk-s-requires
walk-s-requires c =
    let mem = c.args.memory.now in
    let d = c.args.c in
    apart_part mem (sectors (c.args.at / 60) (next_of mem) d.first) (list mem d) c.requires.0 (fewer (c.args.at / 60) d.count (next_of mem) d.first (omega arith))

pub copy_in-s-requires : goal.copy_in-s-requires
copy_in-s-requires c =
    let mem = c.args.memory.now in
    let t = c.loop-k-test.true in
    let i = turn_inside mem c.args.c c.args.at c.args.many c.loop-k.k c.max-from.result c.min-to.result c.loop-k.s c.requires.0 c.requires.1 (omega arith)
    (omega (arith, c.needed-k-end.ensures)) c.max-from.ensures c.min-to.ensures c.loop-k.invariant.0 in
    let j = c.min-to.result - c.max-from.result - 0 in
    let long : length (take j (replicate 60 c.args.value)) ≡ j = length-take-le j (replicate 60 c.args.value) (omega (arith, length-replicate 60 c.args.value)) in
    (omega (arith, i, c.loop-k.auto.memory), omega arith)

pub loop-k-preserved : goal.loop-k-preserved
loop-k-preserved c =
    let mem = c.args.memory.now in
    let d = c.args.c in
    let v = c.args.value in
    let at = c.args.at in
    let n = c.args.many in
    let k = c.loop-k.k in
    let from = c.max-from.result in
    let to = c.min-to.result in
    let i = c.loop-k.invariant in
    let e : to - from - 0 ≡ to - from = omega arith in
    let same : take (to - from - 0) (replicate 60 v) ≡ replicate (to - from) v = take-replicate (to - from - 0) 60 v (omega arith) ∙ ap (λ j. replicate j v) e in
    let long : length (take (to - from - 0) (replicate 60 v)) ≡ to - from = ap length same ∙ length-replicate (to - from) v in
    let f : done at n k + (to - from) ≡ done at n (k + 1) = omega arith in
    let more : replicate (done at n k) v ++ take (to - from - 0) (replicate 60 v) ≡ replicate (done at n (k + 1)) v =
    ap (λ ys. replicate (done at n k) v ++ ys) same ∙ replicate-append-replicate (done at n k) (to - from) v ∙ ap (λ j. replicate j v) f in
    let r = turn_in mem d at n k from to c.loop-k.s c.requires.0 c.requires.1 (omega arith) (omega arith) c.max-from.ensures c.min-to.ensures i.0
    (replicate (done at n k) v) c.loop-k.memory (take (to - from - 0) (replicate 60 v)) c.copy_in-s.new.memory c.loop-k.auto.memory
    (length-replicate (done at n k) v) long i.1 c.copy_in-s.ensures.stored in (
      next_sector mem d k c.loop-k.s c.copy_in-s.result i.0 (c.copy_in-s.ensures.next ∙ i.1.nexts c.loop-k.s),
      subst (λ (xs : List ℕ). Filled mem d at xs c.copy_in-s.new.memory) more r,
    )
