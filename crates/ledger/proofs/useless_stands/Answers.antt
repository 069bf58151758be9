use Rattle.ledger.proofs.Useless.{useless_stands_lem}
use Rattle.ledger.proofs.useless_stands.Goals as goal

pub returns : goal.returns
returns c = useless_stands_lem
