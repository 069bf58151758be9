use Rattle.std.proofs.lemmas.Result.{err_from_is_err_and}
use Rattle.store.specs.Disk.{Put}
use Rattle.catalog.proofs.catalog.Catalog.put.Goals as goal

pub returns-in_err-begin-clause-called : goal.returns-in_err-begin-clause-called
returns-in_err-begin-clause-called c =
    let p = err_from_is_err_and c.from_residual.result c.from_residual.ensures.1 in
    rw (p.1, p.2) (c.in_err-begin.ensures.1 (Put c.args.k c.args.v))
