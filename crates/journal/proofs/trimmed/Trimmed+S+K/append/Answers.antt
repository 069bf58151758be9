use Rattle.std.proofs.Common.{ℕ, ◌+◌, leb, List, ◌++◌, refl, arith}
use Rattle.std.proofs.lemmas.Bool.{le-leb, lt-leb}
use Rattle.store.specs.Disk.{View, Op, numbers}
use Rattle.rules.specs.Rules.{MAX, blob_of}
use Rattle.rules.specs.Rules as rules
use Rattle.rules.specs.Open.{Opened, no_edge}
use Rattle.rules.specs.Calls.{has, open_if}
use Rattle.journal.specs.Configs.{ruled}
use Rattle.journal.specs.Trimming.{adding}
use Rattle.journal.specs.declared.config.Config.{Config}
use Rattle.journal.specs.declared.log.Held.{Held}
use Rattle.journal.specs.declared.fault.Fault.TheVariants.{SizeOverflow}
use Rattle.journal.proofs.Taken.{guard_refused, guard_done, guard_stopped}
use Rattle.journal.proofs.trimmed.Trimmed+S+K.append.Goals as goal

abbrev writing : Config → ℕ → View → List ℕ → List Op
writing c end v bytes = open_if (has (blob_of (ruled c) end) (numbers v.disk.blobs)) (blob_of (ruled c) end) ++ adding (ruled c) end bytes

abbrev grown : Held → Opened
grown h = record { start = h.start; end = h.end + 1; mark = h.mark; bounded = h.bounded; edge = no_edge }

pub returns-then-end-clause-sized : goal.returns-then-end-clause-sized
returns-then-end-clause-sized g c sized =
    let l = c.args.self in
    let v = g.S.Store.view l.store in
    (refl, guard_refused (leb MAX l.held.end) rules.SizeOverflow (writing l.config l.held.end v (g.K.Record.encode c.args.item)) (grown l.held) v SizeOverflow refl (le-leb MAX l.held.end (omega arith)))

pub returns-in-Ok-clause-sized : goal.returns-in-Ok-clause-sized
returns-in-Ok-clause-sized g c sized =
    let l = c.args.self in
    let v = g.S.Store.view l.store in
    let w = g.S.Store.view c.write.new.store in
    (guard_done (leb MAX l.held.end) rules.SizeOverflow (writing l.config l.held.end v (g.K.Record.encode c.args.item)) (grown l.held) v w (lt-leb MAX l.held.end (omega arith)) c.in-Ok.ensures, refl)

pub returns-in-Err-clause-sized : goal.returns-in-Err-clause-sized
returns-in-Err-clause-sized g c sized =
    let l = c.args.self in
    let v = g.S.Store.view l.store in
    let w = g.S.Store.view c.write.new.store in
    rw (c.into.ensures, c.ended_by.ensures)
    (guard_stopped (leb MAX l.held.end) rules.SizeOverflow (writing l.config l.held.end v (g.K.Record.encode c.args.item)) (grown l.held) v w c.in-Err.e (lt-leb MAX l.held.end (omega arith)) c.in-Err.ensures)
