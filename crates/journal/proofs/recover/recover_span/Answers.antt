use Rattle.std.proofs.Common.{sym, inl}
use Rattle.std.proofs.lemmas.Result.{err_from_is_err_and}
use Rattle.store.specs.declared.keys.Key.TheVariants.{Watermark}
use Rattle.journal.specs.Configs.{ruled}
use Rattle.journal.specs.Recovery.{spanned}
use Rattle.journal.proofs.Taken.{answers}
use Rattle.journal.proofs.Recovering.{look_down, span_stops}
use Rattle.journal.proofs.recover.recover_span.Goals as goal

pub returns-in_err-mark : goal.returns-in_err-mark
returns-in_err-mark g c =
    let v = g.S.Store.view c.args.store.now in
    let s = c.args.scope in
    let h = c.in_err-mark.ensures in
    let p = err_from_is_err_and c.from_residual.result c.from_residual.ensures.1 in
    rw (p.1, p.2) (look_down (spanned (ruled s.config) s.start s.ceiling v.disk) v v.disk.present.watermark c.in_err-mark.field-0.0 Watermark h.0 h.1)

pub returns-in_err-examine_two : goal.returns-in_err-examine_two
returns-in_err-examine_two g c =
    let v = g.S.Store.view c.args.store.now in
    let s = c.args.scope in
    let w = g.S.Store.view c.examine_two.new.store in
    let q = answers v.up v.disk.present.watermark c.in_ok-mark.mark c.in_ok-mark.ensures in
    let p = err_from_is_err_and c.from_residual-in_err-examine_two.result c.from_residual-in_err-examine_two.ensures.1 in
    let h = span_stops (ruled s.config) s.start s.ceiling v w c.floor.result c.in_ok-mark.mark (sym q.1) c.floor.ensures c.in_err-examine_two.field-0.0 c.in_err-examine_two.ensures in
    rw (p.1, p.2) (h.0, h.1, inl (q.0, h.2))
