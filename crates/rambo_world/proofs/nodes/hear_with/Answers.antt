use Rattle.std.proofs.Common.{◌∙◌, ap}
use Rattle.rambo_gossip.specs.Letters.{letter_with}
use Rattle.rambo_node.specs.Changes.{made_by}
use Rattle.rambo_node.specs.Acts as act
use Rattle.rambo_world.proofs.Heard.{ready_bare, other_heard}
use Rattle.rambo_world.proofs.nodes.hear_with.Goals as goal

pub finish_hear-requires : goal.finish_hear-requires
finish_hear-requires g c =
    let hearing = c.in_ok-hearing.hearing in
    (c.requires-raw.1.1.0, ready_bare c.ready_hear.new.self c.args.letter.now.kind c.args.copies hearing.copies hearing.number c.in_ok-hearing.ensures.hearing.ready)

pub returns-clause-node : goal.returns-clause-node
returns-clause-node g c =
    let l = c.args.letter.now in
    let own = c.in_ok-hearing.hearing.copies in
    c.finish_hear.ensures.state ∙ other_heard c.ready_hear.new.self.state l own c.args.copies c.in_ok-hearing.ensures.hearing.alike
    ∙ ap (λ x. (made_by x (act.Hear (letter_with l c.args.copies))).node) c.ready_hear.ensures.same
