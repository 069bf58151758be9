use Rattle.std.proofs.Common.{ap, ◌∙◌}
use Rattle.std.proofs.lemmas.Result.{err_from_is_err_and}
use Rattle.store.specs.declared.cause.Cause.TheVariants.{NoRoom}
use Rattle.store.specs.Disk.{Open}
use Rattle.catalog.proofs.Stored.{as_disk}
use Rattle.built.specs.declared.built.Built.{Built}
use Rattle.built.proofs.Calls.{called, refused}
use Rattle.built.proofs.stores.BuiltStore.open.Goals as goal

pub returns-in_err-begin-clause-called : goal.returns-in_err-begin-clause-called
returns-in_err-begin-clause-called g c =
    let p = err_from_is_err_and c.from_residual.result c.from_residual.ensures.1 in
    rw (p.1, p.2) (c.in_err-begin.ensures.1 (Open c.args.b))

pub returns-in_err-make : goal.returns-in_err-make
returns-in_err-make g c =
    let p = err_from_is_err_and c.from_residual-in_err-make.result c.from_residual-in_err-make.ensures.1 in
    let o = c.in_ok-begin.ensures in
    let m = c.in_err-make.ensures in
    let z = m.1 in
    record {
      called = rw (p.1, p.2, z) (rw m.0 (refused (Open c.args.b) c.args.self.now c.begin.new.self o.0 o.1 o.2 NoRoom m.2));
      medium = ap (λ (x : Built g.row.M.Denot g.M.Medium). x.medium) (m.0 ∙ o.0);
    }

pub returns : goal.returns
returns g c =
    let d = c.begin.new.self in
    let x = c.make.new.self in
    let o = c.in_ok-begin.ensures in
    let m = c.in_ok-make.ensures in
    record {
      called =
          called (Open c.args.b) c.args.self.now d o.0 o.1 o.2 x c.finish.new.self _ c.finish.result c.finish.ensures.done c.finish.ensures.counted m.kept m.allowed
          (as_disk m.kept.present m.kept.saved m.blobs) tt;
      medium = m.medium ∙ ap (λ (x : Built g.row.M.Denot g.M.Medium). x.medium) o.0;
    }
