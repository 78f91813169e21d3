-- Calls that were answered have an answer at a place
use Rattle.std.proofs.Common.{◌≡◌, ℕ, suc, List, [], ◌∷◌, Bool, true, false, cond, Option, None, Some, is_some, refl, ap, ◌∙◌}
use Rattle.std.specs.Option.{option_map}
use Rattle.rambo_history.specs.declared.event.CallId.{CallId}
use Rattle.rambo_history.specs.declared.event.Event.{Event}
use Rattle.rambo_history.specs.declared.event.Event.TheVariants as event
use Rattle.rambo_history.specs.Calls.{same_call}
use Rattle.rambo_history.specs.Histories.{answer_in, is_answer, answered_at}
use Rattle.rambo_history.proofs.LookUps.{position-cons}

is_some-suc : (o : Option ℕ) → is_some (option_map suc o) ≡ is_some o
is_some-suc None = refl
is_some-suc (Some n) = refl

pub answered-placed : (h : List Event) (c : CallId) → is_some (answered_at h c) ≡ is_some (answer_in h c)
answered-placed [] c = refl
answered-placed (event.Call d op ∷ es) c =
    ap is_some (position-cons (is_answer c) (event.Call d op) es) ∙ is_some-suc (answered_at es c) ∙ answered-placed es c
answered-placed (event.Answer d a ∷ es) c =
    ap is_some (position-cons (is_answer c) (event.Answer d a) es) ∙ here (answered-placed es c) (same_call d c)
  where
    here : is_some (answered_at es c) ≡ is_some (answer_in es c) → (t : Bool)
        → is_some (cond t (Some 0) (option_map suc (answered_at es c))) ≡ is_some (cond t (Some a) (answer_in es c))
    here behind true = refl
    here behind false = is_some-suc (answered_at es c) ∙ behind
