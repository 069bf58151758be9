use Rattle.std.proofs.Common.{◌≡◌, min, refl, ap, ◌∙◌}
use Rattle.rules.specs.Rules.{blob_of}
use Rattle.journal.specs.Configs.{ruled}
use Rattle.journal.specs.Logs.{held_of}
use Rattle.journal.proofs.Pruning.{prune_done, prune_stopped}
use Rattle.journal.proofs.trimmed.Trimmed+S+K.prune.Goals as goal

pub returns-in-Ok : goal.returns-in-Ok
returns-in-Ok g c =
    let l = c.args.self in
    let v = g.S.Store.view l.store in
    let rule = ruled l.config in
    let b = c.blob_of-b.result in
    let e : b ≡ blob_of rule (min c.args.position l.held.end) = c.blob_of-b.ensures ∙ ap (blob_of rule) c.min.ensures in
    (prune_done rule (held_of l.held) v c.args.position b e (g.S.Store.view c.prune_to.new.store) c.if-first-self.false c.in-Ok.ensures, refl)

pub returns-in-Err : goal.returns-in-Err
returns-in-Err g c =
    let l = c.args.self in
    let v = g.S.Store.view l.store in
    let rule = ruled l.config in
    let b = c.blob_of-b.result in
    let e : b ≡ blob_of rule (min c.args.position l.held.end) = c.blob_of-b.ensures ∙ ap (blob_of rule) c.min.ensures in
    rw c.ended_by.ensures (prune_stopped rule (held_of l.held) v c.args.position b e (g.S.Store.view c.prune_to.new.store) c.in-Err.e c.if-first-self.false c.in-Err.ensures)
