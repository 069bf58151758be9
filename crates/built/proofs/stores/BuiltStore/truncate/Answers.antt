use Rattle.std.proofs.Common.{◌≡◌, ltb, false, [], ◌++◌, length, take, sym, ap, ◌∙◌, length-append, arith}
use Rattle.std.proofs.lemmas.Bool.{le-ltb}
use Rattle.std.proofs.lemmas.List.{length-take-le}
use Rattle.std.proofs.lemmas.Result.{err_from_is_err_and}
use Rattle.store.specs.Disk.{Blob, Truncate, cut_to}
use Rattle.catalog.specs.declared.row.Row.{Row}
use Rattle.built.specs.Seen.{row_at, blob_in}
use Rattle.built.proofs.Calls.{called}
use Rattle.built.proofs.Changes.{changed_to, room_after, cut_is}
use Rattle.built.proofs.Facts.{long, within_limit, same_some}
use Rattle.built.proofs.stores.BuiltStore.truncate.Goals as goal

pub returns-in_err-begin-clause-called : goal.returns-in_err-begin-clause-called
returns-in_err-begin-clause-called g c =
    let p = err_from_is_err_and c.from_residual.result c.from_residual.ensures.1 in
    rw (p.1, p.2) (c.in_err-begin.ensures.1 (Truncate c.args.b c.args.n))

pub rewrite-requires-clause-fits : goal.rewrite-requires-clause-fits
rewrite-requires-clause-fits g c = omega (arith, within_limit g.met.M.Medium.lawful c.begin.new.self c.in_ok-i.i c.in_ok-i.ensures.within)

pub returns-clause-called : goal.returns-clause-called
returns-clause-called g c =
    let w = g.met.M.Medium.lawful in
    let d = c.begin.new.self in
    let x = c.rewrite.new.self in
    let i = c.in_ok-i.i in
    let o = c.in_ok-begin.ensures in
    let h = c.in_ok-i.ensures in
    let e = c.rewrite.ensures.rewritten in
    let old = blob_in d (row_at d i) in
    let y = λ (r : Row). let q : Blob = record { bytes = take c.args.n old.bytes ++ []; sound = r.sound; safe = r.safe } in q in
    let z = ap y c.cut.ensures ∙ cut_is w d i h.within c.args.n in
    let n : length (y c.cut.result).bytes ≡ c.args.n =
    omega (arith, length-append (take c.args.n old.bytes) [], length-take-le c.args.n old.bytes (omega (arith, long w d i h.within))) in
    let f = h.found (blob_in d) in
    let t : ltb (length old.bytes) c.args.n ≡ false = le-ltb (length old.bytes) c.args.n (omega (arith, long w d i h.within)) in
    called (Truncate c.args.b c.args.n) c.args.self.now d o.0 o.1 o.2 x c.finish.new.self _ c.finish.result c.finish.ensures.done c.finish.ensures.counted e.kept
    (simp (f, t))
    (changed_to w d x c.args.b i (y c.cut.result) h e (cut_to c.args.n) z)
    (λ v k. omega (arith, room_after w d x c.args.b i (y c.cut.result) h e, long w d i h.within, ap (λ (q : Blob). length q.bytes) (same_some (sym f ∙ k))))
