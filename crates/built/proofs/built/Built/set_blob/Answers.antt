use Rattle.std.proofs.Common.{is_some, ◌≡◌, ◌+◌, ltb, false, length, ap, refl, ◌∙◌, arith}
use Rattle.std.proofs.lemmas.Bool.{le-ltb}
use Rattle.store.specs.Built.{bytes_there}
use Rattle.store.specs.Disk.{Blob, find, change}
use Rattle.catalog.proofs.Stored.{as_disk}
use Rattle.built.specs.Seen.{blobs, room_in}
use Rattle.built.proofs.Facts.{as_change, len_found}
use Rattle.built.proofs.built.Built.set_blob.Goals as goal

pub returns-clause-set : goal.returns-clause-set
returns-clause-set g c =
    let w = g.met.M.Medium.lawful in
    let s = c.args.self.now in
    let t = c.make.new.self in
    let i = c.in_ok-i.i in
    let b = c.args.b in
    let bs = c.args.bytes.now in
    let x : Blob = record { bytes = bs; sound = c.args.sound; safe = c.args.safe } in
    let m = c.in_ok-i.ensures in
    let e = c.rewrite.ensures.rewritten in
    let l = c.limit.ensures ∙ ap (g.M.Medium.layout.limit s.medium) (len_found w s b c.find-i.result c.find-i.ensures) in
    let r = w.room s.medium s.catalog.table s.held b in
    let z : ltb (room_in s (blobs s) b + bytes_there (find (blobs s) b)) (length bs) ≡ false =
    le-ltb (room_in s (blobs s) b + bytes_there (find (blobs s) b)) (length bs) (omega (arith, l, r)) in
    let p = le-ltb c.args.sound c.args.safe (omega arith) in
    let q = le-ltb (length bs) c.args.sound (omega arith) in (
      simp (p, q, z, m.allowed),
      as_disk (e.kept.present ∙ m.kept.present) (e.kept.saved ∙ m.kept.saved) (e.blobs ∙ as_change t (λ _. x) b i x m.here refl ∙ ap (change (λ _. x) b) m.blobs),
      ap is_some (e.kept.power ∙ m.kept.power),
      refl,
    )
