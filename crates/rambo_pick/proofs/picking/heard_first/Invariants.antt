use Rattle.std.proofs.Common.{◌≡◌, map, length}
use Rattle.rambo_pick.specs.Picking.{delivery, first_of}
use Rattle.rambo_pick.proofs.picking.heard_first.Given as goal

abbrev pub invariant-loop-mail : goal.invariant-loop-mail
invariant-loop-mail g l = first_of g.Q.Quorums.system l.node.state (map delivery l.tray) ≡ first_of g.Q.Quorums.system l.node.state (map delivery l.rest)

abbrev pub decreases-loop-mail : goal.decreases-loop-mail
decreases-loop-mail g l = length l.rest
