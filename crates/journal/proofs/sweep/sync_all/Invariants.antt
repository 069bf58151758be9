use Rattle.std.proofs.Common.{◌-◌, map, Result}
use Rattle.store.specs.Disk.{View, Sync, numbers}
use Rattle.rules.specs.Calls.{from}
use Rattle.journal.specs.declared.fault.StoreFault.{StoreFault}
use Rattle.journal.specs.Steps.{Asks}
use Rattle.journal.proofs.sweep.sync_all.Given as goal

-- what the rest of the calls leads to from here, all of them lead to from the entry
abbrev pub invariant-blobs : goal.invariant-blobs
invariant-blobs g l =
    (r : Result (Unit {0}) StoreFault) (w : View)
    → Asks (map Sync (from l.at (numbers (g.S.Store.view l.store).disk.blobs))) (g.S.Store.view l.store) r w
    → Asks (map Sync (numbers (g.S.Store.view l.initial.store).disk.blobs)) (g.S.Store.view l.initial.store) r w

abbrev pub decreases-blobs : goal.decreases-blobs
decreases-blobs g l = 18446744073709551616 - l.at
