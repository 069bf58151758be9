use Rattle.std.proofs.Common.{ℕ, List, refl, ap}
use Rattle.std.proofs.lemmas.Result.{err_from_is_err_and}
use Rattle.store.specs.Disk.{Blob, Remove}
use Rattle.catalog.proofs.Comes.{gone_but}
use Rattle.catalog.proofs.Stored.{on_disk}
use Rattle.built.specs.declared.built.Built.{Built}
use Rattle.built.specs.Seen.{row_at, blob_in}
use Rattle.built.proofs.Calls.{called}
use Rattle.built.proofs.stores.BuiltStore.remove.Goals as goal

pub returns-in_err-begin-clause-called : goal.returns-in_err-begin-clause-called
returns-in_err-begin-clause-called g c =
    let p = err_from_is_err_and c.from_residual.result c.from_residual.ensures.1 in
    rw (p.1, p.2) (c.in_err-begin.ensures.1 (Remove c.args.b))

pub returns-clause-called : goal.returns-clause-called
returns-clause-called g c =
    let d = c.begin.new.self in
    let i = c.in_ok-i.i in
    let u = c.remove.new.self in
    let o = c.in_ok-begin.ensures in
    let h = c.in_ok-i.ensures in
    let e = c.recast.ensures.recast in
    let k = c.remove.ensures in
    let f = c.finish.ensures.counted in
    let x : Built g.row.M.Denot g.M.Medium = record {
      medium = c.recast.new.self;
      catalog =
          record { table = u; present = d.catalog.present; saved = d.catalog.saved; power = d.catalog.power; held = d.catalog.held; kept = d.catalog.kept };
      held = e.gone refl u k.count k.rows;
    } in
    let xs =
    gone_but d.catalog.table i u _ k.count k.rows h.within (blob_in d) (blob_in x) c.args.b h
    (λ j l m. ap (λ (zs : List ℕ). let y : Blob = record { bytes = zs; sound = (row_at d j).sound; safe = (row_at d j).safe } in y) (e.others j l m)) in
    let z = h.found (blob_in d) in
    called (Remove c.args.b) c.args.self.now d o.0 o.1 o.2 x c.finish.new.self _ c.finish.result c.finish.ensures.done
    (record { table = f.table; present = f.present; saved = f.saved; up = f.up; calls = f.calls }) (record { present = refl; saved = refl; power = refl })
    (simp z) (on_disk _ _ _ _ xs) tt
