use Rattle.rambo_node.proofs.FirstHalves.{all_lack}
use Rattle.rambo_node.proofs.Memory.{OnOk-always}
use Rattle.rambo_node.proofs.node.Node.begin_advance.Goals as goal

pub returns-clause-judged : goal.returns-clause-judged
returns-clause-judged g c = OnOk-always c.prepare_advance.result _ c.in_ok-found.ensures.ok.accepted

pub returns-clause-refused : goal.returns-clause-refused
returns-clause-refused g c = all_lack c.prepare_advance.result c.in_ok-found.ensures.ok.accepted c.prepare_advance.ensures.refused
