use Rattle.std.proofs.Common.{arith}
use Rattle.rules.specs.Open.{edge_at}
use Rattle.journal.specs.Configs.{ruled}
use Rattle.journal.proofs.Starting.{weigh_low}
use Rattle.journal.proofs.scope.Scope.weigh.Goals as goal

pub returns-in-Some : goal.returns-in-Some
returns-in-Some c =
    let s = c.args.self in
    let rule = ruled s.config in
    weigh_low rule s.start (edge_at rule s.start s.ceiling) c.args.walked.0 c.in-Some.mark c.min.result s.ceiling c.args.mark c.args.walked.1 c.in-Some.is (omega arith) c.if-size-min.true
