use Rattle.rambo_direct.proofs.Directs.{fresh_took}
use Rattle.rambo_direct.proofs.serving.nodes_of.Goals as goal

pub returns : goal.returns
returns c = fresh_took c.in_ok-direct.direct c.args.founders c.in_ok-direct.ensures.made
