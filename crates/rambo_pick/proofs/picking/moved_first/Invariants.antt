use Rattle.std.proofs.Common.{◌≡◌, map, length}
use Rattle.rambo_calls.specs.Kept.{calls_of}
use Rattle.rambo_pick.specs.Picking.{advance, first_of}
use Rattle.rambo_pick.proofs.picking.moved_first.Given as goal

abbrev pub invariant-loop-call : goal.invariant-loop-call
invariant-loop-call g l = first_of g.Q.Quorums.system l.node.state (map (advance l.node.state.name) l.node.state.calls) ≡ first_of g.Q.Quorums.system l.node.state (map (advance l.node.state.name) (calls_of l.rest))

abbrev pub decreases-loop-call : goal.decreases-loop-call
decreases-loop-call g l = length l.rest
