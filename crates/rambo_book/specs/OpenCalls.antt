-- Calls whose answers weren't taken yet
use Rattle.std.specs.Prelude.{◌≡◌, ℕ, List, Option, None, Some, if◌then◌else◌}
use Rattle.std.specs.Map.{lookup}
use Rattle.std.specs.Option.{option_map}
use Rattle.rambo_history.specs.declared.operation.Answer.{Answer}
use Rattle.rambo_history.specs.declared.event.CallId.{CallId}
use Rattle.rambo_history.specs.declared.event.Event.{Event}
use Rattle.rambo_history.specs.declared.event.Event.TheVariants as event
use Rattle.rambo_history.specs.Calls.{same_call}
use Rattle.rambo_history.specs.Histories.{answer_in}

-- calls with what each was told, and for how many more there is room
pub record OpenState : Type 0 where
  pub calls : List (CallId × Option Answer)
  pub room : ℕ

abbrev pub told_now : Answer → Option Answer → Option Answer
told_now a o = Some a

-- each call is as it was
abbrev pub KeepsCalls : List (CallId × Option Answer) → List (CallId × Option Answer) → Type 0
KeepsCalls old new = (q : CallId) → lookup (same_call q) new ≡ lookup (same_call q) old

-- a call is open from now on
abbrev pub Opens : CallId → List (CallId × Option Answer) → List (CallId × Option Answer) → Type 0
Opens c old new = (q : CallId) → lookup (same_call q) new ≡ (if same_call c q then Some None else lookup (same_call q) old)

-- an open call was told its answer
abbrev pub Tells : CallId → Answer → List (CallId × Option Answer) → List (CallId × Option Answer) → Type 0
Tells c a old new = (q : CallId) → lookup (same_call q) new ≡ (if same_call c q then option_map (told_now a) (lookup (same_call c) old) else lookup (same_call q) old)

abbrev pub Takes : Event → List (CallId × Option Answer) → List (CallId × Option Answer) → Type 0
Takes (event.Call c op) old new = Opens c old new
Takes (event.Answer c a) old new = Tells c a old new

abbrev pub TakesIf : Option Event → List (CallId × Option Answer) → List (CallId × Option Answer) → Type 0
TakesIf None old new = KeepsCalls old new
TakesIf (Some e) old new = Takes e old new

-- each that is open has the answer that the history has of it
abbrev pub AreOpen : List Event → List (CallId × Option Answer) → Type 0
AreOpen h calls = (c : CallId) (told : Option Answer) → lookup (same_call c) calls ≡ Some told → told ≡ answer_in h c
