use Rattle.std.proofs.Common.{◌≡◌, take, set, sym, ap, ◌∙◌}
use Rattle.std.proofs.lemmas.List.{length-set, get_or-take}
use Rattle.catalog.specs.declared.row.Row.{Row}
use Rattle.catalog.specs.Rows.{none, numbers_of, Ordered}
use Rattle.catalog.proofs.Live.{map_same, take_set_in, each_set}
use Rattle.catalog.proofs.table.Table.change.Goals as goal

pub invariant_of-self : goal.invariant_of-self
invariant_of-self c =
    let t = c.args.self.now in
    let rs = t.rows in
    let n = t.count in
    let i = c.args.i in
    let r = c.args.row in
    let now = take_set_in n rs i r c.requires.within in
    let g = get_or-take n rs i none c.requires.within in
    let ns : numbers_of (take n (set rs i r)) ≡ numbers_of (take n rs) =
    ap numbers_of now ∙ map_same (λ (x : Row). x.number) (take n rs) i r (c.requires.same ∙ sym (ap (λ (x : Row). x.number) g)) in
    record {
      long = length-set rs i r ∙ t.long;
      few = t.few;
      rising = rw ns t.rising;
      fit = rw ns t.fit;
      ordered = rw now (each_set Ordered (take n rs) i r c.requires.ordered t.ordered);
    }
