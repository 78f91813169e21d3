use Rattle.std.proofs.Common.{ap, ◌∙◌}
use Rattle.rambo_node.specs.Refusals.{is_last}
use Rattle.rambo_node.proofs.Judged.{has_next}
use Rattle.rambo_node.proofs.node.Node.next_id.Goals as goal

pub overflow_add-result : goal.overflow_add-result
overflow_add-result g c = has_next c.self.inside.made (assumption) (ap (λ v. is_last v.state.made) c.self.view_is ∙ c.requires)
