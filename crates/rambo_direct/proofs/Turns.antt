-- What steps do to the history
use Rattle.std.proofs.Common.{◌≡◌, ℕ, ◌+◌, false, List, [], ◌∷◌, ◌++◌, length, Option, None, Some, refl, sym, ap, ◌∙◌, append-nil}
use Rattle.std.proofs.lemmas.List.{length_push}
use Rattle.rambo_history.specs.declared.operation.Op.{Op}
use Rattle.rambo_history.specs.declared.event.CallId.{CallId}
use Rattle.rambo_history.specs.declared.event.Event.{Event}
use Rattle.rambo_history.specs.declared.event.Event.TheVariants as event
use Rattle.rambo_gossip.specs.Letters.{LetterState}
use Rattle.rambo_node.specs.Acts.{Act, delivery}
use Rattle.rambo_node.specs.declared.effect.Effect.{Effect}
use Rattle.rambo_node.specs.declared.effect.Effect.TheVariants as effect
use Rattle.rambo_calls.specs.declared.stage.Stage.{Stage}
use Rattle.rambo_calls.specs.declared.stage.Stage.TheVariants.{Query, Propagation}
use Rattle.rambo_calls.specs.Calls.{CallState}
use Rattle.rambo_node.specs.Changes.{stage_met, advanced, made_by}
use Rattle.rambo_node.specs.Letters.{letter_for}
use Rattle.rambo_node.specs.Nodes.{NodeState, open_call}
use Rattle.rambo_node.specs.Acts as act
use Rattle.rambo_node.specs.declared.step.StepOf.TheVariants as step
use Rattle.rambo_run.specs.Worlds.{WorldState, node_at, letter_at}
use Rattle.rambo_run.proofs.Unsent.{unsent}
use Rattle.rambo_run.specs.Steps.{sends, with_letter, turn_by, turn_at, turn_of, turn}
use Rattle.rambo_client.specs.Calls.{id_at}

-- what a call that goes on adds to the history, by what it does
abbrev pub answered_by : {Q : Type 0} → CallId → Effect Q → List Event
answered_by id (effect.Answered d a) = event.Answer id a ∷ []
answered_by id effect.Done = []
answered_by id (effect.Called d) = []
answered_by id (effect.Sent number) = []
answered_by id effect.Moved = []
answered_by id (effect.Collected n place) = []
answered_by id (effect.Decided n d) = []

module _ {Q : Type 0} (w : WorldState Q) where
  sent_by : (n to : ℕ) (x : Option (NodeState Q)) → (turn_at w n x (act.Send to)).world.history ≡ w.history
  unfolding made_by
  sent_by n to None = refl
  sent_by n to (Some x) = refl

  -- a letter that is sent
  pub send_quiet : (n to : ℕ) → (turn w (step.Send n to)).world.history ≡ w.history
  unfolding turn
  send_quiet n to = sent_by n to (node_at w n)

  heard_by : (n : ℕ) (l : LetterState Q) (x : Option (NodeState Q)) → (turn_at w n x (act.Hear l)).world.history ≡ w.history
  unfolding made_by
  heard_by n l None = refl
  heard_by n l (Some x) = refl

  came : (l : Option (LetterState Q)) → (turn_of w (delivery l)).world.history ≡ w.history
  came None = refl
  came (Some l) = heard_by l.addressee l (node_at w l.addressee)

  -- and one that comes
  pub deliver_quiet : (number : ℕ) → (turn w (step.Deliver number)).world.history ≡ w.history
  unfolding turn
  deliver_quiet number = came (letter_at w.letters number)

  called_by : (n : ℕ) (o : Op) (id : CallId) (x : Option (NodeState Q)) → node_at w n ≡ x → ((y : NodeState Q) → node_at w n ≡ Some y → y.name ≡ n)
      → (turn_at w n x (act.Call o)).effect ≡ effect.Called id
      → ((turn_at w n x (act.Call o)).world.history ≡ w.history ++ event.Call id o ∷ []) × (id ≡ id_at n id.number)
  unfolding made_by
  called_by n o id None at named e = cc
  called_by n o id (Some x) at named e =
      let same : id_at x.name (x.made + 1) ≡ id = cc in
      (ap (λ i. w.history ++ event.Call i o ∷ []) same, ap (λ k. id_at k id.number) (ap (λ (i : CallId). i.name) (sym same) ∙ named x at))

  -- a call that is made
  pub call_told : (n : ℕ) (o : Op) (id : CallId) → ((y : NodeState Q) → node_at w n ≡ Some y → y.name ≡ n) → (turn w (step.Call n o)).effect ≡ effect.Called id
      → ((turn w (step.Call n o)).world.history ≡ w.history ++ event.Call id o ∷ []) × (id ≡ id_at n id.number)
  unfolding turn
  call_told n o id named e = called_by n o id (node_at w n) refl named e

  made_call : (n : ℕ) (o : Op) (id : CallId) (x : Option (NodeState Q)) → (turn_at w n x (act.Call o)).effect ≡ effect.Called id
      → (turn_at w n x (act.Call o)).world.history ≡ w.history ++ event.Call id o ∷ []
  unfolding made_by
  made_call n o id None e = cc
  made_call n o id (Some x) e =
      let same : id_at x.name (x.made + 1) ≡ id = cc in
      ap (λ i. w.history ++ event.Call i o ∷ []) same

  -- what it puts into the history
  pub call_made : (n : ℕ) (o : Op) (id : CallId) → (turn w (step.Call n o)).effect ≡ effect.Called id → (turn w (step.Call n o)).world.history ≡ w.history ++ event.Call id o ∷ []
  unfolding turn
  call_made n o id e = made_call n o id (node_at w n) e

  uncalled_by : (n : ℕ) (o : Op) (x : Option (NodeState Q)) → ((id : CallId) → (turn_at w n x (act.Call o)).effect ≡ effect.Called id → ⊥)
      → (turn_at w n x (act.Call o)).world.history ≡ w.history
  unfolding made_by
  uncalled_by n o None none = refl
  uncalled_by n o (Some x) none = absurd (none (id_at x.name (x.made + 1)) refl)

  -- and one that isn't
  pub uncalled_told : (n : ℕ) (o : Op) → ((id : CallId) → (turn w (step.Call n o)).effect ≡ effect.Called id → ⊥) → (turn w (step.Call n o)).world.history ≡ w.history
  unfolding turn
  uncalled_told n o none = uncalled_by n o (node_at w n) none

  stage_told : (n : ℕ) (x : NodeState Q) (id : CallId) (c : CallState Q) (g : Stage)
      → (turn_by w n (stage_met x id c g)).world.history ≡ w.history ++ answered_by id (turn_by w n (stage_met x id c g)).effect
  stage_told n x id c Query = sym (append-nil w.history)
  stage_told n x id c (Propagation kept) = refl

  open_told : (n : ℕ) (x : NodeState Q) (id : CallId) (c : Option (CallState Q))
      → (turn_by w n (advanced x id c)).world.history ≡ w.history ++ answered_by id (turn_by w n (advanced x id c)).effect
  open_told n x id None = sym (append-nil w.history)
  open_told n x id (Some c) = stage_told n x id c c.stage

  advanced_by : (id : CallId) (x : Option (NodeState Q))
      → (turn_at w id.name x (act.Advance id)).world.history ≡ w.history ++ answered_by id (turn_at w id.name x (act.Advance id)).effect
  unfolding made_by
  advanced_by id None = sym (append-nil w.history)
  advanced_by id (Some x) = open_told id.name x id (open_call x id)

  -- a call that goes on: its answer, if it has one
  pub advance_told : (id : CallId) → (turn w (step.Advance id)).world.history ≡ w.history ++ answered_by id (turn w (step.Advance id)).effect
  unfolding turn
  advance_told id = advanced_by id (node_at w id.name)

  silent_at : (n : ℕ) (c : Act Q) (x : Option (NodeState Q)) → sends c ≡ false → (turn_at w n x c).world.letters ≡ w.letters
  silent_at n c None quiet = refl
  silent_at n c (Some x) quiet = ap (with_letter w.letters) (unsent x c quiet)

  came_silent : (l : Option (LetterState Q)) → (turn_of w (delivery l)).world.letters ≡ w.letters
  came_silent None = refl
  came_silent (Some l) = silent_at l.addressee (act.Hear l) (node_at w l.addressee) refl

  -- a call sends no letter
  pub call_silent : (n : ℕ) (o : Op) → (turn w (step.Call n o)).world.letters ≡ w.letters
  unfolding turn
  call_silent n o = silent_at n (act.Call o) (node_at w n) refl

  -- nor does one that goes on
  pub advance_silent : (id : CallId) → (turn w (step.Advance id)).world.letters ≡ w.letters
  unfolding turn
  advance_silent id = silent_at id.name (act.Advance id) (node_at w id.name) refl

  -- nor a letter that comes
  pub deliver_silent : (number : ℕ) → (turn w (step.Deliver number)).world.letters ≡ w.letters
  unfolding turn
  deliver_silent number = came_silent (letter_at w.letters number)

  numbered_by : (n to number : ℕ) (x : Option (NodeState Q)) → (turn_at w n x (act.Send to)).effect ≡ effect.Sent number
      → (number ≡ length w.letters + 1) × (length (turn_at w n x (act.Send to)).world.letters ≡ length w.letters + 1)
  unfolding made_by
  numbered_by n to number None e = cc
  numbered_by n to number (Some x) e =
      let same : length w.letters + 1 ≡ number = cc in
      (sym same, length_push w.letters (letter_for x to))

  -- one that is sent has the next number
  pub send_numbered : (n to number : ℕ) → (turn w (step.Send n to)).effect ≡ effect.Sent number
      → (number ≡ length w.letters + 1) × (length (turn w (step.Send n to)).world.letters ≡ length w.letters + 1)
  unfolding turn
  send_numbered n to number e = numbered_by n to number (node_at w n) e
