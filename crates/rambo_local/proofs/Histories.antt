-- The history of a world, after its steps
use mathlib.Core.List.{IsPrefix}
use Rattle.std.proofs.Common.{◌≡◌, ℕ, ◌+◌, List, [], ◌∷◌, ◌++◌, length, None, refl, sym, ap, ◌∙◌, subst, append_assoc}
use Rattle.rambo_names.specs.Weights.{Weights, weighted_majorities}
use Rattle.rambo_history.specs.declared.operation.Op.{Op}
use Rattle.rambo_history.specs.declared.operation.Answer.{Answer}
use Rattle.rambo_history.specs.declared.event.CallId.{CallId}
use Rattle.rambo_history.specs.declared.event.Event.{Event}
use Rattle.rambo_history.specs.declared.event.Event.TheVariants as event
use Rattle.rambo_node.specs.declared.effect.Effect.{Effect}
use Rattle.rambo_node.specs.declared.effect.Effect.TheVariants as effect
use Rattle.rambo_node.specs.Steps.{Step}
use Rattle.rambo_node.specs.declared.step.StepOf.TheVariants as step
use Rattle.rambo_run.specs.Worlds.{WorldState, first_world}
use Rattle.rambo_run.specs.Steps.{refusal, turn}
use Rattle.rambo_run.specs.Runs.{run}
use Rattle.rambo_run.proofs.NodeLists.{node_named}
use Rattle.rambo_world.specs.Worlds.{WorldOf, state}
use Rattle.rambo_run.proofs.GoingOn.{run-more, run_none}
use Rattle.rambo_client.specs.Calls.{id_at}
use Rattle.rambo_client.specs.Courses.{Course, IsBeginning, history_of, no_steps, stepped, lettered}
use Rattle.rambo_local.specs.Clusters.{took_by}
use Rattle.rambo_direct.proofs.Turns.{answered_by, send_quiet, deliver_quiet, call_told, uncalled_told, advance_told, deliver_silent, send_numbered}

-- the history of a world
abbrev pub world_history : WorldOf Weights → List Event
world_history w = (state weighted_majorities w).history

-- it is that of the run of its steps
took_ran : (w : WorldOf Weights) (c : Course) → took_by w c → world_history w ≡ history_of c
took_ran w c took = λ i. (run weighted_majorities (took.0 i) (took.1 i)).history

-- what was added to it was added to that
pub ran_on : (old new : WorldOf Weights) (c d : Course) (more : List Event) → took_by old c → took_by new d → world_history new ≡ world_history old ++ more → took_by new d × (history_of d ≡ history_of c ++ more)
ran_on old new c d more before now e = (now, sym (took_ran new d now) ∙ e ∙ ap (λ h. h ++ more) (took_ran old c before))

-- or nothing was
pub ran_part : (old new : WorldOf Weights) (c d : Course) → took_by old c → world_history new ≡ world_history old → (b : Course) × took_by new b × IsBeginning b d
    → (b : Course) × took_by new b × IsBeginning b d × (history_of b ≡ history_of c)
ran_part old new c d before e part = (part.0, part.1, part.2, sym (took_ran new part.0 part.1) ∙ e ∙ took_ran old c before)

-- a step that wasn't refused
pub history_stepped : (old new : WorldOf Weights) (st : Step Weights) → refusal weighted_majorities (state weighted_majorities old) st ≡ None → new ≡ record old { steps = old.steps ++ st ∷ [] }
    → world_history new ≡ (turn (state weighted_majorities old) st).world.history
history_stepped old new st accepted e =
    ap world_history e ∙ ap (λ (w : WorldState Weights). w.history) (run-more weighted_majorities old.founders old.steps st accepted)

pub sent : (old new : WorldOf Weights) (n to : ℕ) → refusal weighted_majorities (state weighted_majorities old) (step.Send n to) ≡ None → new ≡ record old { steps = old.steps ++ step.Send n to ∷ [] }
    → world_history new ≡ world_history old
sent old new n to accepted e = history_stepped old new (step.Send n to) accepted e ∙ send_quiet (state weighted_majorities old) n to

pub delivered : (old new : WorldOf Weights) (number : ℕ) → refusal weighted_majorities (state weighted_majorities old) (step.Deliver number) ≡ None → new ≡ record old { steps = old.steps ++ step.Deliver number ∷ [] }
    → world_history new ≡ world_history old
delivered old new number accepted e = history_stepped old new (step.Deliver number) accepted e ∙ deliver_quiet (state weighted_majorities old) number

pub called : (old new : WorldOf Weights) (n : ℕ) (o : Op) (id : CallId) (told : Effect Weights) → refusal weighted_majorities (state weighted_majorities old) (step.Call n o) ≡ None
    → new ≡ record old { steps = old.steps ++ step.Call n o ∷ [] } → told ≡ (turn (state weighted_majorities old) (step.Call n o)).effect → told ≡ effect.Called id
    → (world_history new ≡ world_history old ++ event.Call id o ∷ []) × (id ≡ id_at n id.number)
called old new n o id told accepted e is f =
    let r = call_told (state weighted_majorities old) n o id (node_named weighted_majorities old.founders old.steps n) (sym is ∙ f) in
    (history_stepped old new (step.Call n o) accepted e ∙ r.0, r.1)

pub uncalled : (old new : WorldOf Weights) (n : ℕ) (o : Op) (told : Effect Weights) → refusal weighted_majorities (state weighted_majorities old) (step.Call n o) ≡ None
    → new ≡ record old { steps = old.steps ++ step.Call n o ∷ [] } → told ≡ (turn (state weighted_majorities old) (step.Call n o)).effect → ((id : CallId) → told ≡ effect.Called id → ⊥)
    → world_history new ≡ world_history old
uncalled old new n o told accepted e is none =
    history_stepped old new (step.Call n o) accepted e ∙ uncalled_told (state weighted_majorities old) n o (λ id f. none id (is ∙ f))

pub went_on : (old new : WorldOf Weights) (id : CallId) (told : Effect Weights) → refusal weighted_majorities (state weighted_majorities old) (step.Advance id) ≡ None
    → new ≡ record old { steps = old.steps ++ step.Advance id ∷ [] } → told ≡ (turn (state weighted_majorities old) (step.Advance id)).effect
    → world_history new ≡ world_history old ++ answered_by id told
went_on old new id told accepted e is =
    history_stepped old new (step.Advance id) accepted e ∙ advance_told (state weighted_majorities old) id ∙ ap (λ x. world_history old ++ answered_by id x) (sym is)

-- no answer
pub unanswered : (id : CallId) (e : Effect Weights) → ((d : CallId) (a : Answer) → e ≡ effect.Answered d a → ⊥) → answered_by id e ≡ []
unanswered id (effect.Answered d a) none = absurd (none d a refl)
unanswered id effect.Done none = refl
unanswered id (effect.Called d) none = refl
unanswered id (effect.Sent number) none = refl
unanswered id effect.Moved none = refl
unanswered id (effect.Collected n place) none = refl
unanswered id (effect.Decided n d) none = refl

-- a world that took no step
first_letters : (founders : Weights) → (first_world weighted_majorities founders).letters ≡ []
unfolding first_world
first_letters founders = refl

pub fresh_took : (w : WorldOf Weights) (founders : Weights) → w.steps ≡ [] → w.founders ≡ founders → took_by w (no_steps founders)
fresh_took w founders none e = (
  e,
  none,
  ap (λ sts. length (run weighted_majorities w.founders sts).letters) none ∙ ap (λ (v : WorldState Weights). length v.letters) (run_none weighted_majorities w.founders) ∙ ap length (first_letters w.founders),
)

-- some steps of those of a course
pub took_part : (w : WorldOf Weights) (d : Course) → w.founders ≡ d.founders → IsPrefix w.steps d.steps → (c : Course) × took_by w c × IsBeginning c d
took_part w d founders part = (record { founders = w.founders; steps = w.steps; sent = length (state weighted_majorities w).letters }, (refl, refl, refl), (founders, part))

-- none of them
pub took_none : (old new : WorldOf Weights) (c d : Course) → new ≡ old → took_by old c → IsBeginning c d → (b : Course) × took_by new b × IsBeginning b d × (history_of b ≡ history_of c)
took_none old new c d same took begins = (c, subst (λ w. took_by w c) (sym same) took, begins, refl)

-- a step more
module _ (old new : WorldOf Weights) (st : Step Weights) (accepted : refusal weighted_majorities (state weighted_majorities old) st ≡ None)
    (e : new ≡ record old { steps = old.steps ++ st ∷ [] }) (c : Course) (took : took_by old c) where
  steps_now : new.steps ≡ c.steps ++ st ∷ []
  steps_now = ap (λ (w : WorldOf Weights). w.steps) e ∙ ap (λ sts. sts ++ st ∷ []) took.1

  founders_now : new.founders ≡ c.founders
  founders_now = ap (λ (w : WorldOf Weights). w.founders) e ∙ took.0

  letters_now : (state weighted_majorities new).letters ≡ (turn (state weighted_majorities old) st).world.letters
  letters_now =
      ap (λ (w : WorldOf Weights). (state weighted_majorities w).letters) e ∙ ap (λ (w : WorldState Weights). w.letters) (run-more weighted_majorities old.founders old.steps st accepted)

  -- that sends no letter
  pub took_step : (turn (state weighted_majorities old) st).world.letters ≡ (state weighted_majorities old).letters → took_by new (stepped c st)
  took_step silent = (founders_now, steps_now, ap length (letters_now ∙ silent) ∙ took.2)

  -- and steps behind it were refused
  pub took_only : (more : List (Step Weights)) (d : Course) → d.founders ≡ c.founders → d.steps ≡ c.steps ++ st ∷ more → (b : Course) × took_by new b × IsBeginning b d
  took_only more d founders is =
      took_part new d (founders_now ∙ sym founders) (more, ap (λ l. l ++ more) steps_now ∙ append_assoc c.steps (st ∷ []) more ∙ sym is)

-- a letter that is sent, and comes
pub took_letter : (old mid new : WorldOf Weights) (from to number : ℕ) (told : Effect Weights) → refusal weighted_majorities (state weighted_majorities old) (step.Send from to) ≡ None
    → mid ≡ record old { steps = old.steps ++ step.Send from to ∷ [] } → told ≡ (turn (state weighted_majorities old) (step.Send from to)).effect → told ≡ effect.Sent number
    → refusal weighted_majorities (state weighted_majorities mid) (step.Deliver number) ≡ None → new ≡ record mid { steps = mid.steps ++ step.Deliver number ∷ [] }
    → (c : Course) → took_by old c → took_by new (lettered c from to)
took_letter old mid new from to number told sent e is by heard f c took =
    let one = step.Send from to in
    let n = send_numbered (state weighted_majorities old) from to number (sym is ∙ by) in
    let next : number ≡ c.sent + 1 = n.0 ∙ ap (λ k. k + 1) took.2 in
    let half : took_by mid (record { founders = c.founders; steps = c.steps ++ one ∷ []; sent = c.sent + 1 })
    = (founders_now old mid one sent e c took, steps_now old mid one sent e c took, ap length (letters_now old mid one sent e c took) ∙ n.1 ∙ ap (λ k. k + 1) took.2) in
    let whole = took_step mid new (step.Deliver number) heard f (record { founders = c.founders; steps = c.steps ++ one ∷ []; sent = c.sent + 1 }) half (deliver_silent (state weighted_majorities mid) number) in
    (whole.0, whole.1 ∙ append_assoc c.steps (one ∷ []) (step.Deliver number ∷ []) ∙ ap (λ k. c.steps ++ one ∷ step.Deliver k ∷ []) next, whole.2)
