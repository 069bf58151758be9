use Rattle.std.proofs.Common.{◌≡◌, ℕ, zero, suc, ◌+◌, ◌-◌, ◌*◌, ◌<◌, ◌≤◌, List, length, sym, refl, ap, ◌∙◌, subst, arith}
use Rattle.sectors.specs.declared.chain.Chain.{Chain}
use Rattle.sectors.specs.Sectors.{next_of, after, last_of, sectors, Apart}
use Rattle.sectors.specs.Chains.{list}
use Rattle.sectors.proofs.Paths.{inside, after_in, apart_part, fewer}
use Rattle.sectors.proofs.Cuts.{splits}
use Rattle.sectors.proofs.link.split.Goals as goal

last_of_lem : (k : ℕ) (f : ℕ → ℕ) (s : ℕ) → 0 < k → after (k - 1) f s ≡ last_of k f s
last_of_lem zero f s l = absurd (omega arith)
last_of_lem (suc k) f s l = ap (λ n. after n f s) (let e : suc k - 1 ≡ k = omega arith in e)

pub walk-last-requires : goal.walk-last-requires
walk-last-requires c =
    let mem = c.args.memory.now in
    let f = next_of mem in
    let d = c.args.c in
    apart_part mem (sectors (c.args.k - 1) f d.first) (list mem d) c.requires.1 (fewer (c.args.k - 1) d.count f d.first (omega arith))

reached : (mem : List ℕ) (d : Chain) (k r : ℕ) → Apart mem (list mem d) → k < d.count → r ≡ after k (next_of mem) d.first → 64 * r + 64 ≤ length mem
reached mem d k r apart l e =
    let i = inside mem (list mem d) apart (after k (next_of mem) d.first) (after_in k d.count (next_of mem) d.first l) in
    subst (λ x. 64 * x + 64 ≤ length mem) (sym e) i.2

pub parts-next-requires : goal.parts-next-requires
parts-next-requires c = reached c.args.memory.now c.args.c (c.args.k - 1) c.walk-last.result c.requires.1 (omega arith) c.walk-last.ensures

pub set_next-requires : goal.set_next-requires
set_next-requires c =
    (reached c.args.memory.now c.args.c (c.args.k - 1) c.walk-last.result c.requires.1 (omega arith) c.walk-last.ensures, omega arith)

pub returns : goal.returns
returns c =
    let mem = c.args.memory.now in
    let d = c.args.c in
    splits mem c.set_next.new.memory d _ _ c.args.k (omega arith) (omega arith) c.requires.0 c.requires.1 c.set_next.ensures
    (c.walk-last.ensures ∙ last_of_lem c.args.k (next_of mem) d.first (omega arith)) refl refl c.parts-next.ensures.next refl refl
