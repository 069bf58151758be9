use Rattle.ledger.proofs.Useless.{taken_stands_lem}
use Rattle.ledger.proofs.taken_stands.Goals as goal

pub returns : goal.returns
returns c = taken_stands_lem
