use Rattle.std.proofs.Common.{◌≡◌, ℕ, List, ◌++◌, length, arith}
use Rattle.store.proofs.Occurs.{occurs_append}
use Rattle.sectors.specs.declared.chain.Chain.{Chain}
use Rattle.sectors.specs.Sectors.{Apart}
use Rattle.sectors.specs.Chains.{list, Both}
use Rattle.sectors.proofs.Paths.{apart_part}
use Rattle.sectors.proofs.Appends.{last_front, moved_written, bytes_written}
use Rattle.sectors.proofs.append.append.Goals as goal

alone : (mem : List ℕ) (a b : Chain) → Both mem a b → Apart mem (list mem a)
alone mem a b h = apart_part mem (list mem a) (list mem a ++ list mem b) h.apart (λ p. omega (arith, occurs_append p (list mem a) (list mem b)))

pub write_past-requires : goal.write_past-requires
write_past-requires c =
    let l = c.lengthen-longer.ensures in
    let mid = c.lengthen-longer.new.memory in
    let d = c.lengthen-longer.result in
    record {
      apart = alone mid d c.lengthen-longer.new.free l.moved.both;
      within = (omega (arith, c.requires.long), omega (arith, l.moved.both.few));
      here = (
        omega (arith, l.count),
        last_front c.args.memory.now mid c.args.chain d c.requires.both.one (omega (arith, l.count)) l.front,
        omega (arith, c.requires.long),
      );
    }

pub returns : goal.returns
returns c =
    let l = c.lengthen-longer.ensures in
    let mem = c.args.memory.now in
    let mid = c.lengthen-longer.new.memory in
    let new = c.write_past.new.memory in
    let d = c.lengthen-longer.result in
    let g = c.lengthen-longer.new.free in
    let long : length new ≡ length mid = omega arith in
    record {
      moved = moved_written mem mid new c.args.chain c.args.free.now d g c.args.len c.args.bytes.now long l.moved c.write_past.ensures;
      count = omega (arith, c.requires.long, l.count, c.needed.ensures);
      bytes = bytes_written mem mid new c.args.chain c.args.free.now d g c.args.len c.args.bytes.now long l.moved c.write_past.ensures
          (alone mid d g l.moved.both) (omega (arith, c.requires.long)) (omega (arith, c.requires.long)) (omega (arith, l.count)) l.front l.payloads;
    }
