-- What steps of one kind did, or why they were refused
use Rattle.std.specs.Prelude.{ℕ, Option, None, Some, Result, Ok, Err}
use Rattle.rambo_names.specs.declared.refusal.Refusal.{Refusal}
use Rattle.rambo_history.specs.declared.event.CallId.{CallId}
use Rattle.rambo_history.specs.declared.operation.Answer.{Answer}
use Rattle.rambo_node.specs.declared.effect.Effect.{Effect}
use Rattle.rambo_node.specs.declared.effect.Effect.TheVariants as effect

-- a letter was sent under a number
abbrev pub sent : {Q : Type 0} → Result ℕ Refusal → Result (Effect Q) Refusal
sent (Ok number) = Ok (effect.Sent number)
sent (Err r) = Err r

-- a call was made under an id
abbrev pub called : {Q : Type 0} → Result CallId Refusal → Result (Effect Q) Refusal
called (Ok id) = Ok (effect.Called id)
called (Err r) = Err r

-- a letter was delivered
abbrev pub delivered : {Q A : Type 0} → Result A Refusal → Result (Effect Q) Refusal
delivered (Ok x) = Ok effect.Done
delivered (Err r) = Err r

-- a call advanced to its propagation phase, or was answered
abbrev pub went_on : {Q : Type 0} → CallId → Option Answer → Effect Q
went_on id None = effect.Moved
went_on id (Some a) = effect.Answered id a

abbrev pub advanced : {Q : Type 0} → CallId → Result (Option Answer) Refusal → Result (Effect Q) Refusal
advanced id (Ok a) = Ok (went_on id a)
advanced id (Err r) = Err r
