use Rattle.std.proofs.Common.{◌∙◌}
use Rattle.rambo_node.proofs.Readiness.{hearing_beside, hearing_ends, hearing_ready}
use Rattle.rambo_node.proofs.node.Node.hear_ready.Goals as goal

pub finish_hear-requires : goal.finish_hear-requires
finish_hear-requires g c = (c.requires-raw.1.1.0, hearing_ready c.args.self.now c.args.letter.now _ c.args.hearing c.outline.ensures c.requires)

pub returns-clause-state : goal.returns-clause-state
returns-clause-state g c = c.finish_hear.ensures.state ∙ hearing_ends c.args.self.now c.args.letter.now _ c.args.hearing c.outline.ensures c.requires

pub returns-clause-beside : goal.returns-clause-beside
returns-clause-beside g c = c.finish_hear.ensures.beside ∙ hearing_beside c.args.self.now c.args.letter.now _ c.args.hearing c.outline.ensures c.requires
