use Rattle.std.proofs.Common.{◌++◌, map, refl}
use Rattle.store.specs.Disk.{Sync, numbers}
use Rattle.rules.specs.Rules.{answer, answered, persist}
use Rattle.rules.specs.Open.{Opened, no_edge}
use Rattle.journal.specs.Configs.{ruled}
use Rattle.journal.proofs.Taken.{asks_done, asks_stopped, told_stops}
use Rattle.journal.proofs.trimmed.Trimmed+S+K.sync.Goals as goal

pub returns-in-Ok : goal.returns-in-Ok
returns-in-Ok g c =
    let v = g.S.Store.view c.args.self.store in
    let w = g.S.Store.view c.sync_and_persist.new.store in
    let h = c.args.self.held in
    let o : Opened = record { start = h.start; end = h.end; mark = h.end; bounded = h.bounded; edge = no_edge } in
    let os = map Sync (numbers v.disk.blobs) ++ persist (ruled c.args.self.config) h.start h.end in
    (asks_done (answer o) os v w w (answered o) c.in-Ok.ensures (refl, refl), refl)

pub returns-in-Err : goal.returns-in-Err
returns-in-Err g c =
    let v = g.S.Store.view c.args.self.store in
    let w = g.S.Store.view c.sync_and_persist.new.store in
    let h = c.args.self.held in
    let o : Opened = record { start = h.start; end = h.end; mark = h.end; bounded = h.bounded; edge = no_edge } in
    let os = map Sync (numbers v.disk.blobs) ++ persist (ruled c.args.self.config) h.start h.end in
    rw c.ended_by.ensures (told_stops (asks_stopped (answer o) os v w c.in-Err.e c.in-Err.ensures))
