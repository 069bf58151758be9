use Rattle.std.proofs.Common.{◌≡◌, ◌++◌, length, arith}
use Rattle.store.proofs.Occurs.{occurs_append}
use Rattle.sectors.specs.Sectors.{Apart}
use Rattle.sectors.specs.Chains.{list}
use Rattle.sectors.proofs.Paths.{apart_part}
use Rattle.sectors.proofs.Moves.{both_left, moved_left, list_left, payloads_left, front_bytes}
use Rattle.sectors.proofs.grow.keep.Goals as goal

pub split-requires : goal.split-requires
split-requires c =
    let mem = c.args.memory.now in
    let f = c.args.free.now in
    let d = c.args.chain in
    (c.requires.0.one, apart_part mem (list mem d) (list mem d ++ list mem f) c.requires.0.apart (λ p. omega (arith, occurs_append p (list mem d) (list mem f))), c.requires.1)

pub join-requires : goal.join-requires
join-requires c =
    let m = c.split.new.memory in
    let long : length m ≡ length c.args.memory.now = omega arith in
    both_left c.args.memory.now m m c.args.chain c.args.free.now c.args.k c.split.result.0 c.split.result.1 long long c.requires.0 c.split.ensures

pub returns : goal.returns
returns c =
    let mem = c.args.memory.now in
    let mid = c.split.new.memory in
    let new = c.join.new.memory in
    let d = c.args.chain in
    let f = c.args.free.now in
    let a = c.split.result.0 in
    let b = c.split.result.1 in
    let long : length mid ≡ length mem = omega arith in
    let long' : length new ≡ length mem = omega arith in
    let apart : Apart mem (list mem d) = apart_part mem (list mem d) (list mem d ++ list mem f) c.requires.0.apart (λ p. omega (arith, occurs_append p (list mem d) (list mem f))) in
    record {
      moved = moved_left mem mid new d f c.args.k a b long long' c.requires.0 c.split.ensures c.join.result c.join.ensures;
      count = c.split.ensures.counts.0;
      bytes = front_bytes mem new d a c.args.k apart c.requires.1
          (payloads_left mem mid new d f c.args.k a b long long' c.requires.0 c.split.ensures c.join.result c.join.ensures)
          (list_left mem mid new d f c.args.k a b long long' c.requires.0 c.split.ensures c.join.result c.join.ensures);
    }
