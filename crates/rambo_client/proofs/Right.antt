-- Each answer is an ordinary map's
use Rattle.std.proofs.Common.{◌≡◌, ℕ, List, [], ◌∷◌, ◌++◌, is_some, refl, sym, ap, ◌∙◌}
use Rattle.std.proofs.lemmas.Bool.{true≢false}
use Rattle.rambo_names.specs.Weights.{weighted_majorities}
use Rattle.rambo_names.specs.WeightLaws.{weighted_sound}
use Rattle.rambo_history.specs.declared.operation.Op.{Op}
use Rattle.rambo_history.specs.declared.operation.Answer.{Answer}
use Rattle.rambo_history.specs.declared.event.CallId.{CallId}
use Rattle.rambo_history.specs.declared.event.Event.{Event}
use Rattle.rambo_history.specs.declared.event.Event.TheVariants as event
use Rattle.rambo_run.specs.Runs.{run}
use Rattle.rambo_run.proofs.EveryRun.{is_atomic}
use Rattle.rambo_sequence.specs.Sequences.{sequence_of}
use Rattle.rambo_commands.specs.declared.request.Request.{Request}
use Rattle.rambo_client.specs.Maps.{answer_of, no_values}
use Rattle.rambo_client.specs.Replies.{after_all}
use Rattle.rambo_client.specs.Calls.{IsHistory}
use Rattle.rambo_client.specs.Courses.{Course, history_of}
use Rattle.rambo_run.proofs.WellFormed.{run_well_formed}
use Rattle.rambo_client.proofs.Latest.{answered_there}
use Rattle.rambo_client.proofs.Orders.{answer_right}

pub right : (c : Course) (name : ℕ) (qs : List Request) (h0 : List Event) (id : CallId) (o : Op) (a : Answer) → IsHistory name qs h0
    → history_of c ≡ h0 ++ event.Call id o ∷ event.Answer id a ∷ [] → a ≡ answer_of (after_all no_values qs) o
right c name qs h0 id o a calls is =
    let w = run weighted_majorities c.founders c.steps in
    answer_right name qs h0 id o a w.history calls is (run_well_formed weighted_majorities c.founders c.steps)
    (λ key. (sequence_of w.history w.marks key, is_atomic weighted_majorities weighted_sound c.founders c.steps key))

-- and no call has two
pub once : (c : Course) (front : List Event) (id : CallId) (a b : Answer) → history_of c ≡ (front ++ event.Answer id a ∷ []) ++ event.Answer id b ∷ [] → ⊥
once c front id a b is =
    let opened = (run_well_formed weighted_majorities c.founders c.steps).answers_open (front ++ event.Answer id a ∷ []) (event.Answer id b) [] is id b refl in
    true≢false (sym (answered_there front id a []) ∙ ap is_some opened.1)
