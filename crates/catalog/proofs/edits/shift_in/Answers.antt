use Rattle.std.proofs.Common.{◌+◌, ◌-◌, ◌∷◌, ◌++◌, length, get_or, take, set, ap, ◌∙◌, arith}
use Rattle.std.proofs.lemmas.List.{drop_more, drop_all}
use Rattle.catalog.proofs.edits.shift_in.Goals as goal

pub returns : goal.returns
returns c =
    let rs = c.args.rows.now in
    let r = c.args.row in
    let k = length rs - 1 in
    ap (λ zs. set zs 0 r)
    (c.rotate_right.ensures.after
    ∙ ap (λ zs. zs ++ take k rs) (drop_more rs k r (omega arith) ∙ ap (λ zs. get_or rs k r ∷ zs) (drop_all (k + 1) rs (omega arith))))
