use Rattle.std.proofs.Common.{length, refl, ap, ◌∙◌}
use Rattle.sectors.proofs.Links.{rest_of, next_of_lem, length_payload}
use Rattle.sectors.proofs.sector.parts.Goals as goal

pub returns : goal.returns
returns c =
    let mem = c.args.memory.now in
    let s = c.args.s in
    let e = rest_of mem _ s _ c.requires refl refl in
    record { next = c.from_be_bytes.ensures ∙ next_of_lem mem s c.requires; rest = e; long = ap length e ∙ length_payload mem s c.requires }
