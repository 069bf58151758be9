use Rattle.std.proofs.Common.{refl}
use Rattle.built.proofs.Facts.{here_at, within_limit}
use Rattle.built.proofs.built.Built.row.Goals as goal

pub returns : goal.returns
returns g c =
    let s = c.args.self.now in
    let h = here_at s.catalog.table c.args.i c.requires in
    record { is = refl; ordered = (h.safe_within, h.sound_within, h.fits); within = within_limit g.met.M.Medium.lawful s c.args.i c.requires }
