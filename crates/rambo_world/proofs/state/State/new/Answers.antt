use Rattle.rambo_names.proofs.Sizes.{up_fits, back_fits, next}
use Rattle.rambo_world.proofs.Starting.{first_fits, first_is}
use Rattle.rambo_world.proofs.state.State.new.Goals as goal

pub invariant_of-result : goal.invariant_of-result
invariant_of-result g c =
    first_fits g.Q.Quorums.system c.args.founders c.in_ok-nodes.nodes c.in_ok-nodes.ensures.states c.in_ok-nodes.ensures.logs c.new-3.result c.new-3.ensures c.in_ok-merged.merged c.in_ok-merged.ensures.none

pub returns-clause-first : goal.returns-clause-first
returns-clause-first g c =
    first_is g.Q.Quorums.system c.args.founders c.in_ok-nodes.nodes c.in_ok-nodes.ensures.states c.in_ok-nodes.ensures.logs c.new-3.result c.new-3.ensures c.new-4.result.events c.new-4.result.marks c.new-4.ensures.events c.new-4.ensures.marks

pub new-requires-2 : goal.new-requires-2
new-requires-2 g c = back_fits _ _ _ (next _ _ _ _ (next _ _ _ _ (next _ _ _ _ (up_fits _ _ _ c.requires-raw.1.1))))

pub new-requires-3 : goal.new-requires-3
new-requires-3 g c = back_fits _ _ _ (next _ _ _ _ (next _ _ _ _ (up_fits _ _ _ c.requires-raw.1.1)))
