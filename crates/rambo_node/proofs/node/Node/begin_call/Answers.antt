use Rattle.rambo_node.proofs.FirstHalves.{all_lack}
use Rattle.rambo_node.proofs.Memory.{OnOk-always}
use Rattle.rambo_node.proofs.node.Node.begin_call.Goals as goal

pub returns-clause-judged : goal.returns-clause-judged
returns-clause-judged g c = OnOk-always c.prepare_call.result _ c.in_ok-may_call.ensures.ok

pub returns-clause-refused : goal.returns-clause-refused
returns-clause-refused g c = all_lack c.prepare_call.result c.in_ok-may_call.ensures.ok c.prepare_call.ensures.refused
