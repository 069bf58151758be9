use Rattle.std.proofs.Common.{◌≡◌, ◌-◌}
use Rattle.rules.specs.Open.{below, edge_at, walk}
use Rattle.journal.specs.Configs.{ruled}
use Rattle.journal.specs.Recovery.{rest}
use Rattle.journal.proofs.walk.walk_from.Given as goal

-- the walk from here is the walk from the lowest
abbrev pub invariant-walk : goal.invariant-walk
invariant-walk g l =
    let rule = ruled l.scope.config in
    let bs = below (edge_at rule l.scope.start l.scope.ceiling) (g.S.Store.view l.live.store.now).disk.blobs in
    walk rule l.scope.start l.scope.start l.lowest (rest l.lowest bs) ≡ walk rule l.scope.start l.size l.b (rest l.b bs)

abbrev pub decreases-walk : goal.decreases-walk
decreases-walk g l = 18446744073709551616 - l.b
