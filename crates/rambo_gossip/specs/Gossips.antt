-- What a letter of an active node says
use Rattle.std.specs.Prelude.{ℕ, Option}
use Rattle.rambo_names.specs.Names.{NameSet}
use Rattle.rambo_tag.specs.Copies.{Copies}
use Rattle.rambo_config_map.specs.Maps.{MapState}
use Rattle.rambo_paxos.specs.Votes.{VoteState}
use Rattle.rambo_paxos.specs.declared.offer.Offer.{Offer}

-- `known`: the names that it knows. `copies`: all its copies. `map`: its configurations. `number`: its phase number. `heard`: the
-- greatest phase number of the addressee that it heard. `vote`: for the first place that its map doesn't know. `offer`: what its
-- own attempt for that place asks, if it has one
pub record GossipState (Q : Type 0) : Type 0 where
  pub known : NameSet
  pub copies : Copies
  pub map : MapState Q
  pub number : ℕ
  pub heard : ℕ
  pub vote : VoteState Q
  pub offer : Option (Offer Q)
