use Rattle.std.proofs.Common.{◌≤◌, ◌++◌, sym, refl, subst, arith}
use Rattle.store.specs.Occurs.{occurs}
use Rattle.store.proofs.Occurs.{occurs_append}
use Rattle.sectors.specs.Sectors.{next_of}
use Rattle.sectors.specs.Chains.{list}
use Rattle.sectors.proofs.Paths.{inside}
use Rattle.sectors.proofs.Cuts.{joins, last_in, first_in_lem}
use Rattle.sectors.proofs.link.join.Goals as goal

pub set_next-requires : goal.set_next-requires
set_next-requires c =
    let mem = c.args.memory.now in
    let a = c.args.a in
    let b = c.args.b in
    let at = inside mem (list mem a ++ list mem b) c.requires.apart in
    let l : 1 ≤ occurs a.last (list mem a) =
    subst (λ x. 1 ≤ occurs x (list mem a)) (sym c.requires.one.last) (last_in a.count (next_of mem) a.first (omega arith)) in
    let i = at a.last (omega (arith, occurs_append a.last (list mem a) (list mem b))) in
    let j = at b.first (omega (arith, occurs_append b.first (list mem a) (list mem b), first_in_lem b.count (next_of mem) b.first (omega arith))) in
    (i.2, omega (arith, j.1))

pub returns : goal.returns
returns c =
    joins c.args.memory.now c.set_next.new.memory c.args.a c.args.b _ (omega arith) (omega arith) c.requires c.set_next.ensures refl refl refl
