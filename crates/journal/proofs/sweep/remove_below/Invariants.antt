use Rattle.std.proofs.Common.{map, length, Result}
use Rattle.store.specs.Disk.{View, Remove, numbers}
use Rattle.rules.specs.Calls.{up_to}
use Rattle.journal.specs.declared.fault.StoreFault.{StoreFault}
use Rattle.journal.specs.Logs.{edge_of}
use Rattle.journal.specs.Steps.{Asks}
use Rattle.journal.proofs.sweep.remove_below.Given as goal

-- what the rest of the calls leads to from here, all of them lead to from the entry
abbrev pub invariant-blobs : goal.invariant-blobs
invariant-blobs g l =
    (r : Result (Unit {0}) StoreFault) (w : View)
    → Asks (map Remove (up_to (edge_of l.edge) (numbers (g.S.Store.view l.store).disk.blobs))) (g.S.Store.view l.store) r w
    → Asks (map Remove (up_to (edge_of l.edge) (numbers (g.S.Store.view l.initial.store).disk.blobs))) (g.S.Store.view l.initial.store) r w

abbrev pub decreases-blobs : goal.decreases-blobs
decreases-blobs g l = length (up_to (edge_of l.edge) (numbers (g.S.Store.view l.store).disk.blobs))
