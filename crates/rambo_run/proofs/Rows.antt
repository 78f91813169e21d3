-- What small runs do, computed from the definitions alone
use Rattle.std.proofs.Common.{◌≡◌, ℕ, true, false, List, [], ◌∷◌, Some, None, Result, Ok, Err, replicate, refl}
use Rattle.std.specs.Ordering.{nat_cmp}
use Rattle.std.specs.Cmp.Lexicographic.{slice_cmp}
use Rattle.std.specs.FinSet as set
use Rattle.std.specs.FinMap as map
use Rattle.rambo_names.specs.declared.refusal.Refusal.{Refusal}
use Rattle.rambo_names.specs.declared.refusal.Refusal.TheVariants.{NotActive, NotKnown, NoSuchLetter, NoSuchCall, NotYet}
use Rattle.rambo_names.specs.Names.{rising}
use Rattle.rambo_names.specs.Quorums.{QuorumSystem}
use Rattle.rambo_tag.specs.declared.version.Version.{Version}
use Rattle.rambo_tag.proofs.Joins.{get-put_same}
use Rattle.rambo_history.specs.declared.operation.Op.TheVariants as op
use Rattle.rambo_history.specs.declared.event.CallId.{CallId}
use Rattle.rambo_history.specs.declared.operation.Answer.TheVariants as answer
use Rattle.rambo_history.specs.declared.event.Event.{Event}
use Rattle.rambo_history.specs.declared.event.Event.TheVariants as event
use Rattle.rambo_config_map.specs.Maps.{first_map}
use Rattle.rambo_paxos.specs.Votes.{empty_vote}
use Rattle.rambo_phase.specs.Phases.{only}
use Rattle.rambo_joiner.specs.declared.status.Status.TheVariants.{Active}
use Rattle.rambo_node.specs.declared.effect.Effect.{Effect}
use Rattle.rambo_node.specs.declared.effect.Effect.TheVariants as effect
use Rattle.rambo_node.specs.Changes.{made_by}
use Rattle.rambo_node.specs.Nodes.{NodeState, first_node}
use Rattle.rambo_node.specs.Operations.{called, query_answered, call_closed}
use Rattle.rambo_node.specs.Steps.{Step}
use Rattle.rambo_node.specs.declared.step.StepOf.TheVariants as step
use Rattle.rambo_sequence.specs.Sequences.{sequence_of}
use Rattle.rambo_run.specs.Worlds.{WorldState, first_world}
use Rattle.rambo_run.specs.Steps.{causes, refusal, turn}
use Rattle.rambo_run.specs.Runs.{after, run_from, results_from}
use Rattle.rambo_run.proofs.Deeds.{id_of}

-- the first call of node 1, and the second
abbrev pub one : CallId
one = id_of 1 1

abbrev pub two : CallId
two = id_of 1 2

abbrev pub key : List ℕ
key = 107 ∷ []

abbrev pub value : List ℕ
value = 118 ∷ []

-- an empty map has no key, and one with a key put has it
pub none : map.get (map.empty {X = Version} {R = slice_cmp nat_cmp}) key ≡ None
none = map.get-empty (slice_cmp nat_cmp) key

pub put : (v : Version) → map.get (map.insert (map.empty {X = Version} {R = slice_cmp nat_cmp}) key v) key ≡ Some v
put v = get-put_same (map.empty {X = Version} {R = slice_cmp nat_cmp}) key v

-- node 1 is a founder, and alone in what follows
abbrev lone_node : {Q : Type 0} → Q → NodeState Q
lone_node founders = record {
  name = 1;
  status = Active;
  known = set.empty;
  registers = map.empty;
  map = first_map founders;
  number = 0;
  made = 0;
  heard = replicate 64 0;
  calls = [];
  collection = None;
  attempt = None;
  vote = empty_vote;
}

abbrev lone_world : {Q : Type 0} → Q → List (NodeState Q) → WorldState Q
lone_world founders others = record { nodes = lone_node founders ∷ others; letters = []; history = []; marks = [] }

-- what a run gives: the effects and refusals, the history, and the sequence of the key
abbrev outcome : {Q : Type 0} → QuorumSystem Q → WorldState Q → List (Step Q) → List (Result (Effect Q) Refusal) × List Event × List CallId
outcome s w steps = (results_from s w steps, (run_from s w steps).history, sequence_of (run_from s w steps).history (run_from s w steps).marks key)

module _ {Q : Type 0} (s : QuorumSystem Q) (founders : Q) (others : List (NodeState Q)) where
  -- refusals
  unknown_call : refusal s (lone_world founders others) (step.Advance one) ≡ Some NoSuchCall
  unfolding refusal causes
  unknown_call = refl

  unknown_letter : refusal s (lone_world founders others) (step.Deliver 1) ≡ Some NoSuchLetter
  unfolding refusal causes
  unknown_letter = refl

  no_name : refusal s (lone_world founders others) (step.Call 0 (op.Get key)) ≡ Some NotActive
  unfolding refusal causes
  no_name = refl

  to_itself : refusal s (lone_world founders others) (step.Send 1 1) ≡ Some NotKnown
  unfolding refusal causes
  to_itself = refl

  -- a get of nothing
  get_of_nothing : s.is_quorum founders (only 1) ≡ true → outcome s (lone_world founders others) (step.Call 1 (op.Get key) ∷ step.Advance one ∷ step.Advance one ∷ [])
      ≡ (
        Ok (effect.Called one) ∷ Ok effect.Moved ∷ Ok (effect.Answered one answer.Nil) ∷ [],
        event.Call one (op.Get key) ∷ event.Answer one answer.Nil ∷ [],
        one ∷ [],
      )
  unfolding run_from results_from after refusal causes turn made_by called query_answered call_closed sequence_of
  get_of_nothing quorum = simp (quorum, none) refl

  -- a set, then a get
  set_then_get : s.is_quorum founders (only 1) ≡ true
      → outcome s (lone_world founders others) (step.Call 1 (op.Set key value) ∷ step.Advance one ∷ step.Advance one ∷ step.Call 1 (op.Get key) ∷ step.Advance two ∷ step.Advance two ∷ [])
      ≡ (
        Ok (effect.Called one) ∷ Ok effect.Moved ∷ Ok (effect.Answered one answer.Ok) ∷ Ok (effect.Called two) ∷ Ok effect.Moved ∷ Ok (effect.Answered two (answer.Value value)) ∷ [],
        event.Call one (op.Set key value) ∷ event.Answer one answer.Ok ∷ event.Call two (op.Get key) ∷ event.Answer two (answer.Value value) ∷ [],
        one ∷ two ∷ [],
      )
  unfolding run_from results_from after refusal causes turn made_by called query_answered call_closed sequence_of
  set_then_get quorum = simp (quorum, none, put) refl

  -- a set that took a tag and isn't answered stands in the sequence
  open_set : s.is_quorum founders (only 1) ≡ true → outcome s (lone_world founders others) (step.Call 1 (op.Set key value) ∷ step.Advance one ∷ [])
      ≡ (Ok (effect.Called one) ∷ Ok effect.Moved ∷ [], event.Call one (op.Set key value) ∷ [], one ∷ [])
  unfolding run_from results_from after refusal causes turn made_by called query_answered call_closed sequence_of
  open_set quorum = simp (quorum, none) refl

  -- while the node alone is no quorum, its call waits
  not_yet : s.is_quorum founders (only 1) ≡ false → outcome s (lone_world founders others) (step.Call 1 (op.Get key) ∷ step.Advance one ∷ [])
      ≡ (Ok (effect.Called one) ∷ Err NotYet ∷ [], event.Call one (op.Get key) ∷ [], [])
  unfolding run_from results_from after refusal causes turn made_by called query_answered call_closed sequence_of
  not_yet quorum = simp quorum refl

  -- at first the founders can be called, and no others
  founder_called : set.contains (s.members founders) 1 ≡ true → refusal s (first_world s founders) (step.Call 1 (op.Get key)) ≡ None
  unfolding refusal causes first_world first_node rising
  founder_called member = simp member refl

  stranger_called : set.contains (s.members founders) 2 ≡ false → refusal s (first_world s founders) (step.Call 2 (op.Get key)) ≡ Some NotActive
  unfolding refusal causes first_world first_node rising
  stranger_called stranger = simp stranger refl
