-- What steps of one kind do, and what is told of them
use Rattle.std.proofs.Common.{◌≡◌, false, Option, None, Some, Result, Ok, Err, refl, sym, ap, ◌∙◌, true≢false}
use Rattle.rambo_names.specs.declared.refusal.Refusal.{Refusal}
use Rattle.rambo_names.specs.Quorums.{QuorumSystem}
use Rattle.rambo_names.specs.Refusals.{least}
use Rattle.rambo_node.specs.declared.effect.Effect.{Effect}
use Rattle.rambo_history.specs.declared.event.CallId.{CallId}
use Rattle.rambo_calls.specs.Calls.{CallState, is_missing}
use Rattle.rambo_calls.specs.declared.stage.Stage.{Stage}
use Rattle.rambo_calls.specs.declared.stage.Stage.TheVariants.{Query, Propagation}
use Rattle.rambo_node.specs.Changes.{advanced, answer_in, made_by, stage_met}
use Rattle.rambo_node.specs.Nodes.{open_call, NodeState}
use Rattle.rambo_node.proofs.Judged.{advance_next}
use Rattle.rambo_node.specs.Acts as act
use Rattle.rambo_node.specs.Steps.{Step}
use Rattle.rambo_node.specs.declared.step.StepOf.TheVariants as step
use Rattle.rambo_run.specs.Runs.{after, result_of}
use Rattle.rambo_run.specs.Steps.{Turn, causes_at, refusal, turn, turn_at, turn_by}
use Rattle.rambo_run.specs.Worlds.{WorldState, node_at}
use Rattle.rambo_run.specs.Told.{went_on}
use Rattle.rambo_run.specs.Told as told
use Rattle.rambo_world.specs.Worlds.{answer_got}
use Rattle.rambo_run.proofs.GoingOn.{after-taken}
use Rattle.rambo_world.proofs.Turns.{there, step_refusal, step_turn}

module _ {Q : Type 0} (s : QuorumSystem Q) (w : WorldState Q) (st : Step Q) where
  -- a refusal
  pub refused_told : (r : Refusal) → refusal s w st ≡ Some r → Err r ≡ result_of (refusal s w st) w st
  refused_told r e = sym (ap (λ o. result_of o w st) e)

  -- and what was done
  pub taken_told : (new : WorldState Q) (e : Effect Q) → refusal s w st ≡ None → turn w st ≡ record { world = new; effect = e } → Ok e ≡ result_of (refusal s w st) w st
  taken_told new e accepted is = sym (ap (λ o. result_of o w st) accepted ∙ ap (λ (t : Turn Q). Ok t.effect) is)

  pub taken_after : (new : WorldState Q) (e : Effect Q) → refusal s w st ≡ None → turn w st ≡ record { world = new; effect = e } → new ≡ after s w st
  taken_after new e accepted is = sym (after-taken s w st accepted ∙ ap (λ (t : Turn Q). t.world) is)

stage_told : {Q : Type 0} (x : NodeState Q) (id : CallId) (c : CallState Q) (stage : Stage) → went_on id (answer_in (stage_met x id c stage).deed.effect) ≡ (stage_met x id c stage).deed.effect
stage_told x id c Query = refl
stage_told x id c (Propagation kept) = refl

call_told : {Q : Type 0} (x : NodeState Q) (id : CallId) (o : Option (CallState Q)) → is_missing o ≡ false → went_on id (answer_in (advanced x id o).deed.effect) ≡ (advanced x id o).deed.effect
call_told x id None missing = absurd (true≢false missing)
call_told x id (Some c) missing = stage_told x id c c.stage

-- who goes on sends no letter
stage_effect : {Q : Type 0} (w : WorldState Q) (x : NodeState Q) (id : CallId) (c : CallState Q) (stage : Stage) → (turn_by w id.name (stage_met x id c stage)).effect ≡ (stage_met x id c stage).deed.effect
stage_effect w x id c Query = refl
stage_effect w x id c (Propagation kept) = refl

met_effect : {Q : Type 0} (w : WorldState Q) (x : NodeState Q) (id : CallId) (o : Option (CallState Q)) → (turn_by w id.name (advanced x id o)).effect ≡ (advanced x id o).deed.effect
met_effect w x id None = refl
met_effect w x id (Some c) = stage_effect w x id c c.stage

-- a call goes on
went : {Q : Type 0} (w : WorldState Q) (x : NodeState Q) (id : CallId) → (turn_at w id.name (Some x) (act.Advance id)).effect ≡ (advanced x id (open_call x id)).deed.effect
unfolding made_by
went w x id = met_effect w x id (open_call x id)

pub advancing : {Q : Type 0} (s : QuorumSystem Q) (w new : WorldState Q) (id : CallId) (e : Effect Q) → refusal s w (step.Advance id) ≡ None
    → turn w (step.Advance id) ≡ record { world = new; effect = e } → went_on id (answer_in e) ≡ e
advancing s w new id e accepted is =
    let st = step.Advance id in
    let allowed = sym (step_refusal w st id.name (act.Advance id) refl s) ∙ accepted in
    let x = there s (node_at w id.name) (act.Advance id) allowed in
    let told : e ≡ (advanced x.0 id (open_call x.0 id)).deed.effect =
    ap (λ (t : Turn _). t.effect) (sym is ∙ step_turn w st id.name (act.Advance id) refl ∙ ap (λ o. turn_at w id.name o (act.Advance id)) x.1) ∙ went w x.0 id in
    let found = (advance_next x.0 s id (sym (ap (λ o. least (causes_at s o (act.Advance id))) x.1) ∙ allowed)).0 in
    ap (λ e. went_on id (answer_in e)) told ∙ call_told x.0 id (open_call x.0 id) found ∙ sym told

-- what is told of a step that was taken
pub told_done : {Q : Type 0} (o : Option Refusal) (w : WorldState Q) (st : Step Q) (e : Effect Q) → Ok e ≡ result_of o w st → (o ≡ None) × ((turn w st).effect ≡ e)
told_done None w st e told = (refl, cc)
told_done (Some r) w st e told = cc

-- and of a call that went on, by its answer
pub advanced_told : {Q : Type 0} (s : QuorumSystem Q) (w : WorldState Q) (id : CallId) (t : Result (Effect Q) Refusal) → t ≡ result_of (refusal s w (step.Advance id)) w (step.Advance id)
    → told.advanced id (answer_got t) ≡ result_of (refusal s w (step.Advance id)) w (step.Advance id)
advanced_told s w id (Err r) is = is
advanced_told s w id (Ok e) is =
    let st = step.Advance id in
    let done = told_done (refusal s w st) w st e is in
    ap Ok (advancing s w (turn w st).world id e done.0 (λ i. record { world = (turn w st).world; effect = done.1 i })) ∙ is

pub told_refused : {Q : Type 0} (o : Option Refusal) (w : WorldState Q) (st : Step Q) (r : Refusal) → Err r ≡ result_of o w st → o ≡ Some r
told_refused None w st r told = cc
told_refused (Some q) w st r told = cc
