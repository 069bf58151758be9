use Rattle.std.proofs.Common.{ℕ, Ok, Option, sym, ap, rules}
use Rattle.store.specs.Disk.{at_or_above}
use Rattle.journal.specs.Logs.{edge_of}
use Rattle.journal.proofs.Taken.{answers}
use Rattle.journal.proofs.Walking.{next_is}
use Rattle.journal.proofs.steps.next_below.Goals as goal

pub returns : goal.returns
returns g c =
    let v = g.S.Store.view c.args.store.now in
    let q = answers v.up (at_or_above c.args.b v.disk.blobs) c.in_ok-found.found c.in_ok-found.ensures in
    let up = q.0 in
    let n = next_is c.args.b (edge_of c.args.edge) v.disk.blobs c.in_ok-found.found c.filter.result q.1 (λ x t k. search rules) c.filter.ensures in
    simp up (ap (λ (o : Option ℕ). Ok o) (sym n))
