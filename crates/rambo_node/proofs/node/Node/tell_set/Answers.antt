use Rattle.rambo_node.proofs.Judged.{has_next}
use Rattle.rambo_node.proofs.node.Node.tell_set.Goals as goal

pub overflow_add-tag : goal.overflow_add-tag
overflow_add-tag g c = has_next c.args.moving.now.found.sequence (assumption) c.requires.tags
