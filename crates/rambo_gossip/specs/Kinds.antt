-- Letters by what they say: that their sender wants to join, or what it knows as an active node
use Rattle.rambo_gossip.specs.Gossips.{GossipState}

pub data Kind (Q : Type 0) : Type 0 where
  Join : Kind Q
  Gossip : GossipState Q → Kind Q
