-- Letters without their copies
use Rattle.std.specs.Prelude.{Option, None, Some}
use Rattle.std.specs.FinMap as copies
use Rattle.rambo_gossip.specs.Gossips.{GossipState}
use Rattle.rambo_gossip.specs.Kinds.{Kind}
use Rattle.rambo_gossip.specs.Kinds as kind
use Rattle.rambo_gossip.specs.declared.outline.GossipOutline.{GossipOutline}
use Rattle.rambo_gossip.specs.declared.standing.Standing.{Standing}

abbrev pub gossip_outlined : {Q : Type 0} → GossipOutline Q → GossipState Q
gossip_outlined g = record { known = g.known; copies = copies.empty; map = g.map.now; number = g.number; heard = g.heard; vote = g.vote.now; offer = g.offer }

-- what a letter says, without copies
abbrev pub outlined : {Q : Type 0} → Option (GossipOutline Q) → Kind Q
outlined None = kind.Join
outlined (Some g) = kind.Gossip (gossip_outlined g)

-- what gossip reports of configurations
abbrev pub standing_of : {Q : Type 0} → GossipOutline Q → Standing Q
standing_of g = record { vote = g.vote.now; offer = g.offer; map = g.map.now }
