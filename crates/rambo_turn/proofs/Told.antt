-- What a send that isn't refused tells
use Rattle.std.proofs.Common.{◌≡◌, ℕ, ◌+◌, length, Option, None, Some, is_some, ap}
use Rattle.std.proofs.lemmas.Bool.{true≢false}
use Rattle.rambo_names.specs.Quorums.{QuorumSystem}
use Rattle.rambo_names.specs.Refusals.{least}
use Rattle.rambo_node.specs.declared.effect.Effect.TheVariants as effect
use Rattle.rambo_node.specs.Nodes.{NodeState}
use Rattle.rambo_node.specs.Acts as act
use Rattle.rambo_node.specs.declared.step.StepOf.TheVariants as step
use Rattle.rambo_run.specs.Worlds.{WorldState, node_at}
use Rattle.rambo_run.specs.Steps.{causes_at, causes, refusal, turn_at, turn}

send_at : {Q : Type 0} (s : QuorumSystem Q) (w : WorldState Q) (n to : ℕ) (x : Option (NodeState Q)) → least (causes_at s x (act.Send to)) ≡ None → (number : ℕ) × ((turn_at w n x (act.Send to)).effect ≡ effect.Sent number)
unfolding Rattle.rambo_node.specs.Changes.made_by
send_at s w n to None e = absurd (true≢false (ap is_some e))
send_at s w n to (Some x) e = (length w.letters + 1, λ i. effect.Sent (length w.letters + 1))

pub send_sent : {Q : Type 0} (s : QuorumSystem Q) (w : WorldState Q) (n to : ℕ) → refusal s w (step.Send n to) ≡ None → (number : ℕ) × ((turn w (step.Send n to)).effect ≡ effect.Sent number)
unfolding refusal causes turn
send_sent s w n to e = send_at s w n to (node_at w n) e
