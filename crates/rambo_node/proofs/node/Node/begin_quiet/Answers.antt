use Rattle.rambo_node.proofs.FirstHalves.{quiet_ready}
use Rattle.rambo_node.proofs.node.Node.begin_quiet.Goals as goal

pub returns-clause-ready : goal.returns-clause-ready
returns-clause-ready g c = quiet_ready g.Q.Quorums.system c.args.self.now c.args.quiet c.in_ok-may_quiet.ensures.ok
