use Rattle.rambo_names.proofs.Errors.{err_kept}
use Rattle.rambo_world.proofs.nodes.first_node.Goals as goal

pub returns-in_err-name-clause-refused : goal.returns-in_err-name-clause-refused
returns-in_err-name-clause-refused g c = absurd (c.in_err-name.ensures.refused.1 c.requires)

pub returns-in_err-fresh-clause-refused : goal.returns-in_err-fresh-clause-refused
returns-in_err-fresh-clause-refused g c = err_kept c.from_residual-in_err-fresh.result _ _ c.from_residual-in_err-fresh.ensures.1 c.in_err-fresh.ensures.refused
