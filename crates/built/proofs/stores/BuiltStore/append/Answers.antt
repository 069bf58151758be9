use Rattle.std.proofs.Common.{◌≡◌, ◌+◌, ltb, false, ◌++◌, length, take, ap, ◌∙◌, length-append, arith}
use Rattle.std.proofs.lemmas.Bool.{le-ltb}
use Rattle.std.proofs.lemmas.List.{length-take-le}
use Rattle.std.proofs.lemmas.Result.{err_from_is_err_and}
use Rattle.store.specs.Disk.{Blob, Append, grown}
use Rattle.catalog.specs.declared.row.Row.{Row}
use Rattle.built.specs.Seen.{row_at, blob_in, blobs, room_in}
use Rattle.built.proofs.Calls.{called}
use Rattle.built.proofs.Changes.{changed_to, room_after, grown_is}
use Rattle.built.proofs.Facts.{long, room_is}
use Rattle.built.proofs.stores.BuiltStore.append.Goals as goal

pub returns-in_err-begin-clause-called : goal.returns-in_err-begin-clause-called
returns-in_err-begin-clause-called g c =
    let p = err_from_is_err_and c.from_residual.result c.from_residual.ensures.1 in
    rw (p.1, p.2) (c.in_err-begin.ensures.1 (Append c.args.b c.args.bytes.now))

pub returns-clause-called : goal.returns-clause-called
returns-clause-called g c =
    let w = g.met.M.Medium.lawful in
    let d = c.begin.new.self in
    let x = c.rewrite.new.self in
    let i = c.in_ok-i.i in
    let bs = c.args.bytes.now in
    let o = c.in_ok-begin.ensures in
    let h = c.in_ok-i.ensures in
    let e = c.rewrite.ensures.rewritten in
    let old = blob_in d (row_at d i) in
    let y = λ (r : Row). let q : Blob = record { bytes = take (row_at d i).len old.bytes ++ bs; sound = r.sound; safe = r.safe } in q in
    let z = ap y c.grown.ensures ∙ grown_is w d i h.within bs in
    let n : length (y c.grown.result).bytes ≡ (row_at d i).len + length bs =
    omega (arith, length-append (take (row_at d i).len old.bytes) bs, length-take-le (row_at d i).len old.bytes (omega (arith, long w d i h.within))) in
    let f = h.found (blob_in d) in
    let m = room_is w d c.args.b i h in
    let t : ltb (room_in d (blobs d) c.args.b) (length bs) ≡ false = le-ltb (room_in d (blobs d) c.args.b) (length bs) (omega (arith, c.room_at.ensures.room)) in
    called (Append c.args.b bs) c.args.self.now d o.0 o.1 o.2 x c.finish.new.self _ c.finish.result c.finish.ensures.done c.finish.ensures.counted e.kept
    (simp (f, t))
    (changed_to w d x c.args.b i (y c.grown.result) h e (grown bs) z)
    (omega (arith, room_after w d x c.args.b i (y c.grown.result) h e))
