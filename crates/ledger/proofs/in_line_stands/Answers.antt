use Rattle.ledger.proofs.InLine.{in_line_stands_lem}
use Rattle.ledger.proofs.in_line_stands.Goals as goal

pub returns : goal.returns
returns g c = in_line_stands_lem
