-- A quiet act keeps a node's name and its copies
use Rattle.std.proofs.Common.{◌≡◌, Bool, true, false, if◌then◌else◌, nat_lt, Option, None, Some, refl}
use Rattle.rambo_config_map.specs.Maps.{active_at, end_of}
use Rattle.rambo_gc.specs.declared.gc_move.GcMove.{GcMove}
use Rattle.rambo_gc.specs.declared.gc_move.GcMove.TheVariants.{Propagating, Done}
use Rattle.rambo_gc.specs.Collections.{CollectionState}
use Rattle.rambo_paxos.specs.declared.bid.Bid.{Bid}
use Rattle.rambo_paxos.specs.declared.bid.Bid.TheVariants as bid
use Rattle.rambo_paxos.specs.Attempts.{AttemptState, bid_of}
use Rattle.rambo_calls.specs.Calls.{CallState}
use Rattle.rambo_node.specs.declared.prepared.Quiet.{Quiet}
use Rattle.rambo_node.specs.declared.prepared.Quiet.TheVariants as quiet
use Rattle.rambo_node.specs.Changes.{Quieted, quieted, begun_again, collection_turned, collection_advanced, rebid_made, decided, bid_made, attempt_advanced}
use Rattle.rambo_node.specs.Nodes.{NodeState, open_call}
use Rattle.rambo_node.specs.Operations.{joined_by, called_again, stopped}
use Rattle.rambo_node.specs.Reconfigurations.{attempt_opened, attempt_rebid, attempt_moved, config_learnt, attempt_ended, collection_opened, collection_move, collection_moved, collection_ended}

pub record Keeps {Q : Type 0} (x : NodeState Q) (m : Quieted Q) : Type 0 where
  pub name : m.node.name ≡ x.name
  pub registers : m.node.registers ≡ x.registers

module _ {Q : Type 0} (x : NodeState Q) where
  again_keeps : (o : Option (CallState Q)) → Keeps x (begun_again x o)
  unfolding called_again
  again_keeps None = record { name = refl; registers = refl }
  again_keeps (Some c) = record { name = refl; registers = refl }

  turned_keeps : (g : CollectionState) (move : GcMove) → Keeps x (collection_turned x g move)
  unfolding collection_moved collection_ended
  turned_keeps g Propagating = record { name = refl; registers = refl }
  turned_keeps g Done = record { name = refl; registers = refl }

  collection_keeps : (o : Option CollectionState) → Keeps x (collection_advanced x o)
  collection_keeps None = record { name = refl; registers = refl }
  collection_keeps (Some g) = turned_keeps g (collection_move x.map g)

  rebid_keeps : (o : Option (AttemptState Q)) → Keeps x (rebid_made x o)
  unfolding attempt_rebid
  rebid_keeps None = record { name = refl; registers = refl }
  rebid_keeps (Some a) = record { name = refl; registers = refl }

  bid_keeps : (a : AttemptState Q) (b : Bid Q) → Keeps x (bid_made x a b)
  unfolding attempt_moved config_learnt
  bid_keeps a bid.Propose = record { name = refl; registers = refl }
  bid_keeps a (bid.Chosen c) = record { name = refl; registers = refl }

  known_keeps : (a : AttemptState Q) (known : Bool) → Keeps x (if known then record { node = attempt_ended x; effect = decided x a (active_at x.map a.place) } else bid_made x a (bid_of a))
  unfolding attempt_ended
  known_keeps a true = record { name = refl; registers = refl }
  known_keeps a false = bid_keeps a (bid_of a)

  attempt_keeps : (o : Option (AttemptState Q)) → Keeps x (attempt_advanced x o)
  attempt_keeps None = record { name = refl; registers = refl }
  attempt_keeps (Some a) = known_keeps a (nat_lt a.place (end_of x.map))

  pub quiet_keeps : (q : Quiet Q) → Keeps x (quieted x q)
  unfolding joined_by collection_opened attempt_opened stopped
  quiet_keeps (quiet.Again id) = again_keeps (open_call x id)
  quiet_keeps quiet.AdvanceCollect = collection_keeps x.collection
  quiet_keeps quiet.Rebid = rebid_keeps x.attempt
  quiet_keeps quiet.AdvanceRecon = attempt_keeps x.attempt
  quiet_keeps quiet.Collect = record { name = refl; registers = refl }
  quiet_keeps _ = record { name = refl; registers = refl }
