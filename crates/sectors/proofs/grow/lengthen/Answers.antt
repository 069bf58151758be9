use Rattle.std.proofs.Common.{◌≡◌, ◌+◌, ◌++◌, length, ap, ◌∙◌, arith}
use Rattle.store.proofs.Occurs.{occurs_append}
use Rattle.sectors.specs.Chains.{list}
use Rattle.sectors.proofs.Paths.{apart_part}
use Rattle.sectors.proofs.Moves.{both_taken, moved_taken, front_taken, payloads_taken}
use Rattle.sectors.proofs.grow.lengthen.Goals as goal

pub split-requires : goal.split-requires
split-requires c =
    let mem = c.args.memory.now in
    let f = c.args.free.now in
    let d = c.args.chain in
    (c.requires.0.other, apart_part mem (list mem f) (list mem d ++ list mem f) c.requires.0.apart (λ p. omega (arith, occurs_append p (list mem d) (list mem f))), c.requires.1)

pub join-requires : goal.join-requires
join-requires c =
    let m = c.split.new.memory in
    let long : length m ≡ length c.args.memory.now = omega arith in
    both_taken c.args.memory.now m m c.args.chain c.args.free.now c.args.k c.split.result.0 c.split.result.1 long long c.requires.0 c.split.ensures

pub returns : goal.returns
returns c =
    let mem = c.args.memory.now in
    let mid = c.split.new.memory in
    let new = c.join.new.memory in
    let a = c.split.result.0 in
    let b = c.split.result.1 in
    let long : length mid ≡ length mem = omega arith in
    let long' : length new ≡ length mem = omega arith in
    record {
      moved = moved_taken mem mid new c.args.chain c.args.free.now c.args.k a b long long' c.requires.0 c.split.ensures c.join.result c.join.ensures;
      count = c.join.ensures.count ∙ ap (λ n. c.args.chain.count + n) c.split.ensures.counts.0;
      front = front_taken mem mid new c.args.chain c.args.free.now c.args.k a b long long' c.requires.0 c.split.ensures c.join.result c.join.ensures;
      payloads = payloads_taken mem mid new c.args.chain c.args.free.now c.args.k a b long long' c.requires.0 c.split.ensures c.join.result c.join.ensures;
    }
