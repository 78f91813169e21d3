-- The form of a history
use Rattle.std.specs.Prelude.{◌≡◌, List, true, None}
use Rattle.std.specs.Option.{IsSomeAnd}
use Rattle.rambo_history.specs.declared.operation.Op.{Op}
use Rattle.rambo_history.specs.declared.operation.Answer.{Answer}
use Rattle.rambo_history.specs.declared.event.CallId.{CallId}
use Rattle.rambo_history.specs.declared.event.Event.{Event}
use Rattle.rambo_history.specs.declared.event.Event.TheVariants as event
use Rattle.rambo_history.specs.Calls.{fits}
use Rattle.rambo_history.specs.Histories.{call_in, answer_in}
use Rattle.rambo_history.specs.Proper.{EverySplit}

-- no call is made twice
abbrev pub CallsOnce : List Event → Type 0
CallsOnce h = EverySplit (λ front e back. (c : CallId) (op : Op) → e ≡ event.Call c op → call_in front c ≡ None) h

-- each answer comes after its call, is of its kind, and is its first
abbrev pub AnswersOpen : List Event → Type 0
AnswersOpen h =
    EverySplit (λ front e back. (c : CallId) (a : Answer) → e ≡ event.Answer c a →
    IsSomeAnd (call_in front c) (λ op. fits op a ≡ true) × (answer_in front c ≡ None)) h

-- each call occurs once; each answer occurs once, after its call and of its kind
pub record IsWellFormed (h : List Event) : Type 0 where
  pub calls_once : CallsOnce h
  pub answers_open : AnswersOpen h
