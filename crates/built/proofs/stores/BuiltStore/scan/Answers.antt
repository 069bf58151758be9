use Rattle.built.specs.Seen.{content_of, room_in}
use Rattle.built.proofs.Facts.{stands}
use Rattle.built.proofs.stores.BuiltStore.scan.Goals as goal

pub returns : goal.returns
returns g c = let s = c.args.self.now in c.scan.ensures (content_of s) (room_in s) (stands g.met.M.Medium.lawful s)
