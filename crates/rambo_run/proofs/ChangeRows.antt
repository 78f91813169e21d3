-- What small runs with changes of the member set do, computed from the definitions alone
use Rattle.std.proofs.Common.{◌≡◌, true, false, nat_eq, List, [], ◌∷◌, Some, None, Option, Result, Ok, Err, replicate, refl}
use Rattle.std.specs.FinSet as set
use Rattle.std.specs.FinMap as map
use Rattle.rambo_names.specs.declared.refusal.Refusal.{Refusal}
use Rattle.rambo_names.specs.declared.refusal.Refusal.TheVariants.{NothingToCollect, NoCollect, ReconOpen, NoRecon}
use Rattle.rambo_names.specs.Names.{NameSet, count_of}
use Rattle.rambo_names.specs.Quorums.{QuorumSystem}
use Rattle.rambo_history.specs.declared.operation.Op.TheVariants as op
use Rattle.rambo_history.specs.declared.operation.Answer.TheVariants as answer
use Rattle.rambo_config_map.specs.Maps.{MapState, first_map}
use Rattle.rambo_paxos.specs.Attempts.{opened, proposing}
use Rattle.rambo_paxos.specs.Votes.{empty_vote}
use Rattle.rambo_phase.specs.Phases.{only}
use Rattle.rambo_joiner.specs.declared.status.Status.TheVariants.{Active}
use Rattle.rambo_node.specs.declared.effect.Effect.{Effect}
use Rattle.rambo_node.specs.declared.effect.Effect.TheVariants as effect
use Rattle.rambo_node.specs.Changes.{made_by}
use Rattle.rambo_node.specs.Operations.{called, query_answered, call_closed}
use Rattle.rambo_node.specs.Nodes.{NodeState}
use Rattle.rambo_node.specs.Reconfigurations.{attempt_opened, attempt_moved, config_learnt, collection_opened, collection_moved, collection_ended}
use Rattle.rambo_node.specs.Steps.{Step}
use Rattle.rambo_node.specs.declared.step.StepOf.TheVariants as step
use Rattle.rambo_run.specs.Worlds.{WorldState, node_at}
use Rattle.rambo_run.specs.Steps.{causes, refusal, turn}
use Rattle.rambo_run.specs.Runs.{after, run_from, results_from}
use Rattle.rambo_run.proofs.Rows.{one, two, key, value, none, put}

-- node 1 is a founder, knows these names, and is alone
abbrev lone : {Q : Type 0} → Q → NameSet → WorldState Q
lone founders known = record {
  nodes = record {
    name = 1;
    status = Active;
    known = known;
    registers = map.empty;
    map = first_map founders;
    number = 0;
    made = 0;
    heard = replicate 64 0;
    calls = [];
    collection = None;
    attempt = None;
    vote = empty_vote;
  } ∷ [];
  letters = [];
  history = [];
  marks = [];
}

abbrev map_in : {Q : Type 0} → Option (NodeState Q) → Option (MapState Q)
map_in None = None
map_in (Some x) = Some x.map

-- the effects and refusals, and the map that node 1 comes to
abbrev outcome : {Q : Type 0} → QuorumSystem Q → WorldState Q → List (Step Q) → List (Result (Effect Q) Refusal) × Option (MapState Q)
outcome s w steps = (results_from s w steps, map_in (node_at (run_from s w steps) 1))

-- node 1 alone is a quorum of the founders and of the wish, whose members it knows
record IsAlone {Q : Type 0} (s : QuorumSystem Q) (founders wish : Q) (known : NameSet) : Type 0 where
  old : s.is_quorum founders (only 1) ≡ true
  new : s.is_quorum wish (only 1) ≡ true
  member : set.contains (s.members founders) 1 ≡ true
  knows : set.is_subset (s.members wish) known ≡ true
  some : nat_eq (count_of (s.members wish)) 0 ≡ false

module _ {Q : Type 0} (s : QuorumSystem Q) (founders wish : Q) (known : NameSet) (h : IsAlone s founders wish known) where
  -- a configuration is chosen, and the old one collected
  changes : outcome s (lone founders known) (step.Recon 1 wish ∷ step.AdvanceRecon 1 ∷ step.AdvanceRecon 1 ∷ step.Collect 1 ∷ step.AdvanceCollect 1 ∷ step.AdvanceCollect 1 ∷ [])
      ≡ (
        Ok effect.Done ∷ Ok effect.Moved ∷ Ok (effect.Decided 1 (record { place = 1; config = Some wish })) ∷ Ok effect.Done ∷ Ok effect.Moved ∷ Ok (effect.Collected 1 0) ∷ [],
        Some (record { floor = 1; configs = wish ∷ [] }),
      )
  unfolding run_from results_from after refusal causes turn made_by attempt_opened attempt_moved config_learnt collection_opened collection_moved collection_ended opened proposing
  changes = simp (h.old, h.new, h.member, h.knows, h.some) refl

  -- what was set before is read after
  read_after : outcome s (lone founders known)
      (step.Call 1 (op.Set key value) ∷ step.Advance one ∷ step.Advance one ∷ step.Recon 1 wish ∷ step.AdvanceRecon 1 ∷ step.AdvanceRecon 1 ∷ step.Collect 1 ∷ step.AdvanceCollect 1 ∷ step.AdvanceCollect 1
      ∷ step.Call 1 (op.Get key) ∷ step.Advance two ∷ step.Advance two ∷ [])
      ≡ (
        Ok (effect.Called one) ∷ Ok effect.Moved ∷ Ok (effect.Answered one answer.Ok)
            ∷ Ok effect.Done ∷ Ok effect.Moved ∷ Ok (effect.Decided 1 (record { place = 1; config = Some wish })) ∷ Ok effect.Done ∷ Ok effect.Moved ∷ Ok (effect.Collected 1 0)
            ∷ Ok (effect.Called two) ∷ Ok effect.Moved ∷ Ok (effect.Answered two (answer.Value value)) ∷ [],
        Some (record { floor = 1; configs = wish ∷ [] }),
      )
  unfolding run_from results_from after refusal causes turn made_by called query_answered call_closed attempt_opened attempt_moved config_learnt collection_opened collection_moved collection_ended opened proposing
  read_after = simp (h.old, h.new, h.member, h.knows, h.some, none, put) refl

  -- refusals
  refused : outcome s (lone founders known) (step.Collect 1 ∷ step.AdvanceCollect 1 ∷ step.Rebid 1 ∷ step.AdvanceRecon 1 ∷ step.Recon 1 wish ∷ step.Recon 1 wish ∷ [])
      ≡ (Err NothingToCollect ∷ Err NoCollect ∷ Err NoRecon ∷ Err NoRecon ∷ Ok effect.Done ∷ Err ReconOpen ∷ [], Some (first_map founders))
  unfolding run_from results_from after refusal causes turn made_by attempt_opened opened
  refused = simp (h.member, h.knows, h.some) refl
