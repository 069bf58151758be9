use Rattle.std.proofs.Common.{set, refl, ap, ◌∙◌, subst, arith, rules}
use Rattle.std.proofs.lemmas.Result.{err_from_is_err_and}
use Rattle.store.specs.Disk.{Sync, synced}
use Rattle.catalog.specs.declared.catalog.Catalog.{Catalog}
use Rattle.catalog.specs.declared.table.Table.{Table}
use Rattle.catalog.specs.Rows.{synced_row}
use Rattle.catalog.specs.Blobs.{row_at, SameRows}
use Rattle.catalog.specs.Seen.{Called, blob_at}
use Rattle.catalog.proofs.Change.{changed}
use Rattle.catalog.proofs.Same.{same_refl, same_set}
use Rattle.catalog.proofs.Stored.{as_disk}
use Rattle.catalog.proofs.catalog.Catalog.sync.Goals as goal

pub returns-in_err-begin : goal.returns-in_err-begin
returns-in_err-begin c =
    let p = err_from_is_err_and c.from_residual.result c.from_residual.ensures.1 in
    record { called = rw (p.1, p.2) (c.in_err-begin.ensures.1 (Sync c.args.b)); rows = same_refl _ _ c.in_err-begin.ensures.0 }

pub returns : goal.returns
returns c =
    let d = c.begin.new.self in
    let t = d.table in
    let i = c.in_ok-i.i in
    let w = c.in_ok-i.ensures in
    let o = c.in_ok-begin.ensures in
    let f = c.finish.ensures.counted in
    let rows = ap (λ (x : Table). x.rows) f.table ∙ c.change.ensures.rows ∙ ap (set t.rows i) c.synced.ensures in
    let count = ap (λ (x : Table). x.count) f.table ∙ c.change.ensures.count in
    record {
      called = subst (λ (x : Catalog). Called (Sync c.args.b) x c.finish.result c.finish.new.self) o.0
          (λ content room h.
          let e =
          changed t i (synced_row (row_at t i)) c.finish.new.self.table rows count
          (blob_at content) (blob_at content) c.args.b synced w w.number refl (λ k l n. refl) in
          rw c.finish.ensures.done ((search rules, search rules, as_disk f.present f.saved e, refl, tt), omega arith));
      rows = subst (λ (x : Catalog). SameRows x.table c.finish.new.self.table) o.0 (same_set t c.finish.new.self.table i (synced_row (row_at t i)) rows count refl);
    }
