use Rattle.std.proofs.Common.{◌≡◌, ◌+◌, ◌-◌, ◌*◌, ◌/◌, ◌++◌, length, take, drop, sym, ap, ◌∙◌, arith}
use Rattle.std.proofs.lemmas.Slice.{take-put_mid}
use Rattle.octets.proofs.Writes.{length_part}
use Rattle.sectors.specs.Sectors.{next_of, sectors, payload}
use Rattle.sectors.specs.Chains.{list, joint}
use Rattle.sectors.proofs.Paths.{apart_part, fewer}
use Rattle.sectors.proofs.Pieces.{done, next_sector, turn_inside, turn_out}
use Rattle.sectors.proofs.payloads.read.Goals as goal

pub walk-s-requires : goal.walk-s-requires
walk-s-requires c =
    let mem = c.args.memory.now in
    let d = c.args.c in
    apart_part mem (sectors (c.args.at / 60) (next_of mem) d.first) (list mem d) c.requires.0 (fewer (c.args.at / 60) d.count (next_of mem) d.first (omega arith))

pub copy_out-s-requires : goal.copy_out-s-requires
copy_out-s-requires c =
    let mem = c.args.memory.now in
    let i = turn_inside mem c.args.c c.args.at (length c.args.out.now) c.loop-k.k c.max-from.result c.min-to.result c.loop-k.s c.requires.0 c.requires.1 (omega arith)
    (omega (arith, c.needed-k-end.ensures)) c.max-from.ensures c.min-to.ensures c.loop-k.invariant.0 in
    let j = c.min-to.result - c.args.at - (c.max-from.result - c.args.at) in
    let long : length (take j (drop (c.max-from.result - c.args.at) c.loop-k.out)) ≡ j = length_part c.loop-k.out (c.max-from.result - c.args.at) j (omega (arith, c.loop-k.auto.out)) in
    (i, omega arith)

pub loop-k-preserved : goal.loop-k-preserved
loop-k-preserved c =
    let mem = c.args.memory.now in
    let d = c.args.c in
    let at = c.args.at in
    let n = length c.args.out.now in
    let k = c.loop-k.k in
    let from = c.max-from.result in
    let to = c.min-to.result in
    let i = c.loop-k.invariant in
    let a = done at n k in
    let j = to - at - (from - at) in
    let e : from - at ≡ a = omega arith in
    let m : j ≡ to - from = omega arith in
    let long : length (take j (drop (from - at) c.loop-k.out)) ≡ j = length_part c.loop-k.out (from - at) j (omega (arith, c.loop-k.auto.out)) in
    let same : length c.copy_out-s.new.out ≡ j = omega arith in
    let got : c.copy_out-s.new.out ≡ take (to - from) (drop (from - 60 * k) (payload mem c.loop-k.s)) =
    c.copy_out-s.ensures.bytes ∙ ap (λ q. take q (drop (from - 60 * k) (payload mem c.loop-k.s))) (long ∙ m) in
    let r = turn_out mem d at n k from to c.loop-k.s c.requires.0 c.requires.1 (omega arith) (omega arith) c.max-from.ensures c.min-to.ensures i.0 in (
      next_sector mem d k c.loop-k.s c.copy_out-s.result i.0 c.copy_out-s.ensures.next,
      take-put_mid (from - at) j c.loop-k.out c.copy_out-s.new.out (done at n (k + 1)) (omega arith) (omega arith)
          ∙ ap (λ q. take q c.loop-k.out ++ c.copy_out-s.new.out) e
          ∙ ap (λ ys. ys ++ c.copy_out-s.new.out) i.1
          ∙ ap (λ ys. take a (drop at (joint mem d)) ++ ys) got
          ∙ sym r,
    )
