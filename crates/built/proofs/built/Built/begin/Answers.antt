use Rattle.built.proofs.Calls.{begun}
use Rattle.built.proofs.built.Built.begin.Goals as goal

pub returns : goal.returns
returns g c = begun g.met.M.Medium.lawful c.args.self.now c.begin.result c.begin.new.self _ c.begin.ensures
