use Rattle.std.proofs.Common.{◌≤◌, refl, arith}
use Rattle.catalog.specs.declared.row.Row.{Row}
use Rattle.catalog.proofs.Comes.{each_opened}
use Rattle.slots.specs.Shares.{parts_inserted}
use Rattle.slots.proofs.layout.PartsMedium.place.Goals as goal

pub returns : goal.returns
returns c =
    let m = c.args.self.now in
    let t = c.args.table.now in
    record {
      empty = refl;
      holds = λ u i b l count rows. (
        each_opened t b i _ u _ count rows l (λ (x : Row). x.len ≤ m.each) (omega arith) c.requires.holds.0,
        parts_inserted t i b u.rows c.requires.few c.requires.holds.1 rows,
      );
    }
