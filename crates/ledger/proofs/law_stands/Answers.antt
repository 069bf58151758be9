use Rattle.ledger.proofs.Law.{law_stands_lem}
use Rattle.ledger.proofs.law_stands.Goals as goal

pub returns : goal.returns
returns g c = law_stands_lem
