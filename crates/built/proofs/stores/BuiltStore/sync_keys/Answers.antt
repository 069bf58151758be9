use Rattle.built.specs.Seen.{content_of, room_in}
use Rattle.built.proofs.Facts.{stands}
use Rattle.built.proofs.stores.BuiltStore.sync_keys.Goals as goal

pub returns-clause-called : goal.returns-clause-called
returns-clause-called g c = let s = c.args.self.now in let h = c.sync_keys.ensures.called (content_of s) (room_in s) (stands g.met.M.Medium.lawful s) in record { wrote = h.0; counts = h.1 }
