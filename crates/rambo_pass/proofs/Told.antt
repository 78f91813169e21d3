-- What a call that isn't refused tells
use Rattle.std.proofs.Common.{◌≡◌, ℕ, ◌+◌, Option, None, Some, is_some, ap}
use Rattle.std.proofs.lemmas.Bool.{true≢false}
use Rattle.rambo_names.specs.Quorums.{QuorumSystem}
use Rattle.rambo_names.specs.Refusals.{least}
use Rattle.rambo_history.specs.declared.event.CallId.{CallId}
use Rattle.rambo_history.specs.declared.operation.Op.{Op}
use Rattle.rambo_node.specs.declared.effect.Effect.TheVariants as effect
use Rattle.rambo_node.specs.Nodes.{NodeState}
use Rattle.rambo_node.specs.Acts as act
use Rattle.rambo_node.specs.declared.step.StepOf.TheVariants as step
use Rattle.rambo_run.specs.Worlds.{WorldState, node_at}
use Rattle.rambo_run.specs.Steps.{causes_at, causes, refusal, turn_at, turn}

call_at : {Q : Type 0} (s : QuorumSystem Q) (w : WorldState Q) (n : ℕ) (o : Op) (x : Option (NodeState Q)) → least (causes_at s x (act.Call o)) ≡ None → (id : CallId) × ((turn_at w n x (act.Call o)).effect ≡ effect.Called id)
unfolding Rattle.rambo_node.specs.Changes.made_by
call_at s w n o None e = absurd (true≢false (ap is_some e))
call_at s w n o (Some x) e = (record { name = x.name; number = x.made + 1 }, λ i. effect.Called (record { name = x.name; number = x.made + 1 }))

pub call_called : {Q : Type 0} (s : QuorumSystem Q) (w : WorldState Q) (n : ℕ) (o : Op) → refusal s w (step.Call n o) ≡ None → (id : CallId) × ((turn w (step.Call n o)).effect ≡ effect.Called id)
unfolding refusal causes turn
call_called s w n o e = call_at s w n o (node_at w n) e
