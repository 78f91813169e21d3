-- What may happen to one node at one moment: `at m n` is node n after the first m steps
use Rattle.std.proofs.Common.{◌≡◌, ℕ, suc, ◌≤◌, ◌<◌, length, Option, Some, true, false}
use Rattle.rambo_names.specs.Names.{NameSet}
use Rattle.rambo_names.specs.Quorums.{QuorumSystem}
use Rattle.rambo_history.specs.declared.operation.Op.{Op}
use Rattle.rambo_config_map.specs.Maps.{active_at, end_of, top_of}
use Rattle.rambo_gc.specs.declared.gc_move.GcMove.TheVariants.{Propagating, Done}
use Rattle.rambo_gc.specs.Collections.{CollectionState, has_quorum, move_of}
use Rattle.rambo_paxos.specs.declared.proposal.Proposal.{Proposal}
use Rattle.rambo_paxos.specs.declared.stage.Stage.TheVariants as stage
use Rattle.rambo_paxos.specs.Attempts.{AttemptState}
use Rattle.rambo_phase.specs.Phases.{is_met}
use Rattle.rambo_joiner.specs.declared.status.Status.{Status}
use Rattle.rambo_calls.specs.Calls.{CallState, propagates}
use Rattle.rambo_node.specs.Nodes.{NodeState, first_node}
use Rattle.rambo_node.specs.Letters.{gossip_for}
use Rattle.rambo_node.specs.Hearing.{heard_gossip}
use Rattle.rambo_node.specs.Operations.{called, query_answered, call_closed, called_again}
use Rattle.rambo_node.specs.Reconfigurations.{attempt_opened, attempt_rebid, attempt_moved, config_learnt, attempt_ended, collection_opened, collection_moved, collection_ended}
use Rattle.rambo_run.proofs.Lists.{Member}

abbrev pub Moments : Type 0 → Type 0
Moments Q = ℕ → ℕ → NodeState Q

-- what is known of a letter: in the step after moment m node n heard what node j told at moment u
abbrev pub Telling : Type 1
Telling = ℕ → ℕ → ℕ → ℕ → Type 0

-- the repliers of an attempt hold a quorum of the configuration at the top, above which its place is
pub record IsBacked {Q : Type 0} (s : QuorumSystem Q) (x : NodeState Q) (a : AttemptState Q) : Type 0 where
  pub is_open : x.attempt ≡ Some a
  pub place : end_of x.map ≤ a.place
  pub quorum : has_quorum s (active_at x.map (top_of x.map)) a.repliers ≡ true

-- what a node does to its collection or its attempt
pub data Alters {Q : Type 0} (s : QuorumSystem Q) (x y : NodeState Q) : Type 0 where
  collects : 1 < length x.map.configs → y ≡ collection_opened x → Alters s x y
  seconds : (g : CollectionState) → x.collection ≡ Some g → move_of s x.map g ≡ Some Propagating → y ≡ collection_moved x g → Alters s x y
  finishes : (g : CollectionState) → x.collection ≡ Some g → move_of s x.map g ≡ Some Done → y ≡ collection_ended x g → Alters s x y
  opens : (wish : Q) → y ≡ attempt_opened x wish → Alters s x y
  rebids : (a : AttemptState Q) → x.attempt ≡ Some a → a.place ≡ end_of x.map → y ≡ attempt_rebid x a → Alters s x y
  proposes : (a : AttemptState Q) (told : Option (Proposal Q)) → IsBacked s x a → a.stage ≡ stage.Prepare told → y ≡ attempt_moved x a → Alters s x y
  chooses : (a : AttemptState Q) (c : Q) → IsBacked s x a → a.stage ≡ stage.Propose c → y ≡ config_learnt x a c → Alters s x y
  gives_up : (a : AttemptState Q) → x.attempt ≡ Some a → a.place < end_of x.map → y ≡ attempt_ended x → Alters s x y

-- the node before is x, and after is y
pub data Turn {Q : Type 0} (s : QuorumSystem Q) (T : Telling) (at : Moments Q) (m n : ℕ) (x y : NodeState Q) : Type 0 where
  stays : y ≡ x → Turn s T at m n x y
  knows : (status : Status) (known : NameSet) → y ≡ record x { status = status; known = known } → Turn s T at m n x y
  calls : (o : Op) → y ≡ called x o → Turn s T at m n x y
  hears : (u j : ℕ) → u ≤ m → 1 ≤ j → 1 ≤ n → T m n u j → y ≡ heard_gossip x j (gossip_for (at u j) n) → Turn s T at m n x y
  queried : (c : CallState Q) → Member c x.calls → propagates c.stage ≡ false → is_met s c.phase ≡ true → y ≡ query_answered x c → Turn s T at m n x y
  answers : (c : CallState Q) → Member c x.calls → propagates c.stage ≡ true → is_met s c.phase ≡ true → y ≡ call_closed x c → Turn s T at m n x y
  agains : (c : CallState Q) → Member c x.calls → y ≡ called_again x c → Turn s T at m n x y
  alters : Alters s x y → Turn s T at m n x y

-- a whole run, seen so
pub record Run {Q : Type 0} (s : QuorumSystem Q) (T : Telling) (founders : Q) (at : Moments Q) : Type 0 where
  pub first : (n : ℕ) → at 0 n ≡ first_node s founders n
  pub turn : (m n : ℕ) → Turn s T at m n (at m n) (at (suc m) n)
