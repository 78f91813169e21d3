-- What a step of a quiet act is told to have done, and the world after it
use Rattle.std.proofs.Common.{◌≡◌, ℕ, None, Some, Result, Ok, Err, IfOk, IfErr, OnOk, OnErr, sym, ◌∙◌}
use Rattle.rambo_names.specs.declared.refusal.Refusal.{Refusal}
use Rattle.rambo_names.specs.Quorums.{QuorumSystem}
use Rattle.rambo_names.specs.Refusals.{least}
use Rattle.rambo_node.specs.Acts.{Act}
use Rattle.rambo_node.specs.declared.effect.Effect.{Effect}
use Rattle.rambo_node.specs.Steps.{Step}
use Rattle.rambo_run.specs.Runs.{after, result_of}
use Rattle.rambo_run.specs.Steps.{meant, causes_at, refusal, turn_at}
use Rattle.rambo_run.specs.Worlds.{WorldState, node_at}
use Rattle.rambo_run.proofs.GoingOn.{after-refused}
use Rattle.rambo_world.proofs.Single.{refused_told, taken_told, taken_after}
use Rattle.rambo_world.proofs.Turns.{step_refusal, step_turn}

module _ {Q : Type 0} (s : QuorumSystem Q) (w new : WorldState Q) (st : Step Q) (n : ℕ) (c : Act Q) (means : meant w st ≡ Some (record { name = n; act = c })) where
  pub quiet_told : (r : Result (Effect Q) Refusal) → IfOk r (λ e. turn_at w n (node_at w n) c ≡ record { world = new; effect = e }) → OnOk r (least (causes_at s (node_at w n) c) ≡ None)
      → IfErr r (λ f. least (causes_at s (node_at w n) c) ≡ Some f) → r ≡ result_of (refusal s w st) w st
  quiet_told (Ok e) done accepted refused = taken_told s w st new e (step_refusal w st n c means s ∙ accepted) (step_turn w st n c means ∙ done)
  quiet_told (Err f) done accepted refused = refused_told s w st f (step_refusal w st n c means s ∙ refused)

  pub quiet_after : (r : Result (Effect Q) Refusal) → IfOk r (λ e. turn_at w n (node_at w n) c ≡ record { world = new; effect = e }) → OnOk r (least (causes_at s (node_at w n) c) ≡ None)
      → IfErr r (λ f. least (causes_at s (node_at w n) c) ≡ Some f) → OnErr r (new ≡ w) → new ≡ after s w st
  quiet_after (Ok e) done accepted refused stays = taken_after s w st new e (step_refusal w st n c means s ∙ accepted) (step_turn w st n c means ∙ done)
  quiet_after (Err f) done accepted refused stays = stays ∙ sym (after-refused s w st f (step_refusal w st n c means s ∙ refused))
