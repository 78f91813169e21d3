-- The steps that a run took of which its nodes are kept alone, and the history of their run
use Rattle.std.proofs.Common.{◌≡◌, ℕ, suc, ◌+◌, false, [], ◌∷◌, ◌++◌, length, Option, None, Some, Result, Ok, Err, IfOk, refl, sym, ap, ◌∙◌, subst, append_assoc, append-nil, arith}
use Rattle.rambo_names.specs.declared.refusal.Refusal.{Refusal}
use Rattle.rambo_names.specs.Weights.{Weights, weighted_majorities}
use Rattle.rambo_names.specs.Quorums.{QuorumSystem}
use Rattle.rambo_history.specs.declared.operation.Op.{Op}
use Rattle.rambo_history.specs.declared.operation.Answer.{Answer}
use Rattle.rambo_history.specs.declared.event.CallId.{CallId}
use Rattle.rambo_history.specs.declared.event.Event.TheVariants as event
use Rattle.rambo_node.specs.Acts.{Act}
use Rattle.rambo_node.specs.declared.effect.Effect.{Effect}
use Rattle.rambo_node.specs.declared.effect.Effect.TheVariants as effect
use Rattle.rambo_node.specs.Acts as act
use Rattle.rambo_node.specs.Steps.{Step}
use Rattle.rambo_node.specs.declared.step.StepOf.TheVariants as step
use Rattle.rambo_run.specs.Worlds.{WorldState, first_world}
use Rattle.rambo_run.specs.Steps.{meant, refusal, sends, turn}
use Rattle.rambo_run.specs.Runs.{after, unless_refused, result_of, run}
use Rattle.rambo_world.specs.Direct.{bare, first_of, pass_refusal, passed, told_refusal}
use Rattle.rambo_run.specs.Told.{called, advanced, went_on}
use Rattle.rambo_run.specs.Ongoing.{RunningOf}
use Rattle.rambo_world.proofs.Bare.{bare_after, bare_refusal, bare_result, passed_letters, quiet_after as silent_after, same_passing, unpassed}
use Rattle.rambo_client.specs.Calls.{id_at, answered}
use Rattle.rambo_client.specs.Courses.{Course, Ends, IsBeginning, history_of, lettered, no_steps, stepped}
use Rattle.rambo_run.proofs.GoingOn.{run-after, run_none}
use Rattle.rambo_client.proofs.Beginnings.{begins-lettered, begins-stepped}
use Rattle.rambo_direct.specs.Taken.{took_by}
use Rattle.rambo_direct.proofs.Turns.{answered_by, send_quiet, deliver_quiet, call_made, advance_told}

-- what a result of a step says
module _ {Q : Type 0} (s : QuorumSystem Q) (w : WorldState Q) (st : Step Q) where
  quiet_unless : (o : Option Refusal) → (turn w st).world.history ≡ w.history → (unless_refused o w (turn w st).world).history ≡ w.history
  quiet_unless None e = e
  quiet_unless (Some r) e = refl

  quiet_after : (turn w st).world.history ≡ w.history → (after s w st).history ≡ w.history
  unfolding after
  quiet_after e = quiet_unless (refusal s w st) e

  told_taken : (o : Option Refusal) (e : Effect Q) → Ok e ≡ result_of o w st → (e ≡ (turn w st).effect) × (unless_refused o w (turn w st).world ≡ (turn w st).world)
  told_taken None e is = (cc, refl)
  told_taken (Some r) e is = cc

  told_refused : (o : Option Refusal) (r : Refusal) → Err r ≡ result_of o w st → unless_refused o w (turn w st).world ≡ w
  told_refused None r is = cc
  told_refused (Some q) r is = refl

  -- what was done
  pub was_done : (e : Effect Q) → Ok e ≡ result_of (refusal s w st) w st → (e ≡ (turn w st).effect) × (after s w st ≡ (turn w st).world)
  unfolding after
  was_done e is = told_taken (refusal s w st) e is

  -- or refused
  pub was_refused : (r : Refusal) → Err r ≡ result_of (refusal s w st) w st → after s w st ≡ w
  unfolding after
  was_refused r is = told_refused (refusal s w st) r is

-- a call has the name of its node
pub call_named : (n : ℕ) (r : Result CallId Refusal) → IfOk r (λ id. id.name ≡ n) → IfOk r (λ id. id ≡ id_at n id.number)
call_named n (Ok id) e = λ i. id_at (e i) id.number
call_named n (Err f) e = tt

-- nodes just made took no step
first_bare : (founders : Weights) → first_world weighted_majorities founders ≡ bare (first_world weighted_majorities founders)
unfolding first_world
first_bare founders = refl

first_letters : (founders : Weights) → length (first_world weighted_majorities founders).letters ≡ 0
unfolding first_world
first_letters founders = refl

pub fresh_took : (d : RunningOf Weights) (founders : Weights) → d ≡ record { founders = founders; state = first_world weighted_majorities founders } → took_by d (no_steps founders)
fresh_took d founders e = (
  ap (λ (d : RunningOf Weights). d.founders) e,
  ap (λ (d : RunningOf Weights). d.state) e ∙ first_bare founders ∙ ap bare (sym (run_none weighted_majorities founders)),
  ap (λ (w : WorldState Weights). length w.letters) (run_none weighted_majorities founders) ∙ first_letters founders,
)

-- no step was taken
pub took_none : (old new : RunningOf Weights) (c d : Course) → new ≡ old → took_by old c → IsBeginning c d → (b : Course) × took_by new b × IsBeginning b d × (history_of b ≡ history_of c)
took_none old new c d same took begins = (c, subst (λ x. took_by x c) (sym same) took, begins, refl)

-- a step of a node that sends no letter
module _ (old new : RunningOf Weights) (st : Step Weights) (n : ℕ) (change : Act Weights) (means : (w : WorldState Weights) → meant w st ≡ Some (record { name = n; act = change }))
    (quiet : sends change ≡ false) (is : new ≡ record old { state = bare (after weighted_majorities old.state st) }) (c : Course) (took : took_by old c) where
  abbrev before : WorldState Weights
  before = run weighted_majorities c.founders c.steps

  -- what was told of it is what is told in the run
  told_there : result_of (refusal weighted_majorities old.state st) old.state st ≡ result_of (refusal weighted_majorities before st) before st
  told_there = ap (λ w. result_of (refusal weighted_majorities w st) w st) took.1 ∙ bare_result weighted_majorities before st n change means quiet

  took_step : took_by new (stepped c st)
  took_step = (
    ap (λ (d : RunningOf Weights). d.founders) is ∙ took.0,
    ap (λ (d : RunningOf Weights). d.state) is ∙ ap (λ w. bare (after weighted_majorities w st)) took.1 ∙ bare_after weighted_majorities before st n change means
        ∙ ap bare (sym (run-after weighted_majorities c.founders c.steps st)),
    ap (λ (w : WorldState Weights). length w.letters) (run-after weighted_majorities c.founders c.steps st) ∙ ap length (silent_after weighted_majorities before st n change (means before) quiet) ∙ took.2,
  )

  -- it was done
  took_done : (e : Effect Weights) → Ok e ≡ result_of (refusal weighted_majorities old.state st) old.state st
      → (e ≡ (turn before st).effect) × (history_of (stepped c st) ≡ (turn before st).world.history)
  took_done e told =
      let done = was_done weighted_majorities before st e (told ∙ told_there) in
      (done.0, ap (λ (w : WorldState Weights). w.history) (run-after weighted_majorities c.founders c.steps st ∙ done.1))

  -- or refused
  took_refused : (f : Refusal) → Err f ≡ result_of (refusal weighted_majorities old.state st) old.state st → (b : Course) × took_by new b × IsBeginning b (stepped c st) × (history_of b ≡ history_of c)
  took_refused f told =
      let same = ap bare (was_refused weighted_majorities old.state st f told ∙ took.1) ∙ sym took.1 in
      took_none old new c (stepped c st) (is ∙ ap (λ w. record old { state = w }) same) took (begins-stepped c st)

module _ (old new : RunningOf Weights) (n : ℕ) (o : Op) (is : new ≡ record old { state = bare (after weighted_majorities old.state (step.Call n o)) }) (c : Course) (took : took_by old c) where
  pub took_call : (r : Result CallId Refusal) → called r ≡ result_of (refusal weighted_majorities old.state (step.Call n o)) old.state (step.Call n o)
      → Ends r (took_by new) (stepped c (step.Call n o)) (history_of c) (λ id. event.Call id o ∷ [])
  took_call (Ok id) told =
      let st = step.Call n o in
      let done = took_done old new st n (act.Call o) (λ w. refl) refl is c took (effect.Called id) told in
      (took_step old new st n (act.Call o) (λ w. refl) refl is c took, done.1 ∙ call_made (run weighted_majorities c.founders c.steps) n o id (sym done.0))
  took_call (Err f) told = took_refused old new (step.Call n o) n (act.Call o) (λ w. refl) refl is c took f told

-- a call that goes on
adds : (id : CallId) (a : Option Answer) → answered_by {Q = Weights} id (went_on id a) ≡ answered id a
adds id None = refl
adds id (Some a) = refl

module _ (old new : RunningOf Weights) (id : CallId) (is : new ≡ record old { state = bare (after weighted_majorities old.state (step.Advance id)) }) (c : Course) (took : took_by old c) where
  pub took_advance : (r : Result (Option Answer) Refusal) → advanced id r ≡ result_of (refusal weighted_majorities old.state (step.Advance id)) old.state (step.Advance id)
      → Ends r (took_by new) (stepped c (step.Advance id)) (history_of c) (answered id)
  took_advance (Ok a) told =
      let st = step.Advance id in
      let done = took_done old new st id.name (act.Advance id) (λ w. refl) refl is c took (went_on id a) told in (
        took_step old new st id.name (act.Advance id) (λ w. refl) refl is c took,
        done.1 ∙ advance_told (run weighted_majorities c.founders c.steps) id ∙ ap (λ e. history_of c ++ answered_by id e) (sym done.0) ∙ ap (λ l. history_of c ++ l) (adds id a),
      )
  took_advance (Err f) told = took_refused old new (step.Advance id) id.name (act.Advance id) (λ w. refl) refl is c took f told

first_none : (o p : Option Refusal) → first_of o p ≡ None → o ≡ None
first_none None p e = refl
first_none (Some r) p e = cc

-- a letter that passes, or doesn't
module _ (old new : RunningOf Weights) (from to : ℕ) (is : new ≡ record old { state = passed weighted_majorities old.state from to }) (c : Course) (took : took_by old c) where
  abbrev start : WorldState Weights
  start = run weighted_majorities c.founders c.steps

  abbrev one : Step Weights
  one = step.Send from to

  abbrev sent : WorldState Weights
  sent = after weighted_majorities start one

  run_passed : run weighted_majorities c.founders (lettered c from to).steps ≡ after weighted_majorities sent (step.Deliver (c.sent + 1))
  run_passed =
      ap (run weighted_majorities c.founders) (sym (append_assoc c.steps (one ∷ []) (step.Deliver (c.sent + 1) ∷ [])))
      ∙ run-after weighted_majorities c.founders (c.steps ++ one ∷ []) (step.Deliver (c.sent + 1))
      ∙ ap (λ w. after weighted_majorities w (step.Deliver (c.sent + 1))) (run-after weighted_majorities c.founders c.steps one)

  next : suc (length start.letters) ≡ c.sent + 1
  next = omega (arith, took.2)

  took_passed : refusal weighted_majorities old.state one ≡ None → took_by new (lettered c from to)
  took_passed may =
      let accepted : refusal weighted_majorities start one ≡ None =
      sym (bare_refusal weighted_majorities start one from (act.Send to) (λ v. refl)) ∙ ap (λ w. refusal weighted_majorities w one) (sym took.1) ∙ may in (
        ap (λ (d : RunningOf Weights). d.founders) is ∙ took.0,
        ap (λ (d : RunningOf Weights). d.state) is ∙ ap (λ w. passed weighted_majorities w from to) took.1 ∙ same_passing weighted_majorities start from to
            ∙ ap (λ k. bare (after weighted_majorities sent (step.Deliver k))) next ∙ ap bare (sym run_passed),
        ap (λ (w : WorldState Weights). length w.letters) run_passed ∙ passed_letters weighted_majorities start from to (c.sent + 1) accepted ∙ ap (λ k. k + 1) took.2,
      )

  adds_none : history_of (lettered c from to) ≡ history_of c ++ []
  adds_none =
      ap (λ (w : WorldState Weights). w.history) run_passed ∙ quiet_after weighted_majorities sent (step.Deliver (c.sent + 1)) (deliver_quiet sent (c.sent + 1))
      ∙ quiet_after weighted_majorities start one (send_quiet start from to) ∙ sym (append-nil (history_of c))

  no_letters : old.state.letters ≡ []
  no_letters = ap (λ (w : WorldState Weights). w.letters) took.1

  pub took_pass : {A : Type 0} (r : Result A Refusal) → told_refusal r ≡ pass_refusal weighted_majorities old.state from to → Ends r (took_by new) (lettered c from to) (history_of c) (λ done. [])
  took_pass (Ok x) told =
      (took_passed (first_none (refusal weighted_majorities old.state one) (refusal weighted_majorities (after weighted_majorities old.state one) (step.Deliver 1)) (sym told)), adds_none)
  took_pass (Err f) told =
      let same = unpassed weighted_majorities old.state from to f no_letters (sym told) ∙ ap bare took.1 ∙ sym took.1 in
      took_none old new c (lettered c from to) (is ∙ ap (λ w. record old { state = w }) same) took (begins-lettered c from to)
