-- Histories: the calls and answers of a run, in order
use Rattle.std.specs.Prelude.{ℕ, List, [], ◌∷◌, Bool, false, nat_lt, Option, None, Some, is_some, if◌then◌else◌}
use Rattle.std.specs.List.{position}
use Rattle.rambo_history.specs.declared.operation.Op.{Op}
use Rattle.rambo_history.specs.declared.operation.Answer.{Answer}
use Rattle.rambo_history.specs.declared.event.CallId.{CallId}
use Rattle.rambo_history.specs.declared.event.Event.{Event}
use Rattle.rambo_history.specs.declared.event.Event.TheVariants as event
use Rattle.rambo_history.specs.Calls.{same_call}

-- what a call asked, where the history has the call
abbrev pub call_in : List Event → CallId → Option Op
call_in [] c = None
call_in (event.Call d op ∷ es) c = if same_call d c then Some op else call_in es c
call_in (event.Answer d a ∷ es) c = call_in es c

-- the answer of a call, where the history has it
abbrev pub answer_in : List Event → CallId → Option Answer
answer_in [] c = None
answer_in (event.Call d op ∷ es) c = answer_in es c
answer_in (event.Answer d a ∷ es) c = if same_call d c then Some a else answer_in es c

-- whether c was answered before d was called
abbrev pub answered_before : List Event → CallId → CallId → Bool
answered_before [] c d = false
answered_before (event.Call x op ∷ es) c d = answered_before es c d
answered_before (event.Answer x a ∷ es) c d = if same_call x c then is_some (call_in es d) else answered_before es c d

-- whether this is where a call was made
abbrev pub is_call : CallId → Event → Bool
is_call c (event.Call d op) = same_call d c
is_call c (event.Answer d a) = false

-- whether this is where a call was answered
abbrev pub is_answer : CallId → Event → Bool
is_answer c (event.Call d op) = false
is_answer c (event.Answer d a) = same_call d c

-- the place of a call in the history, where it has the call
abbrev pub called_at : List Event → CallId → Option ℕ
called_at h c = position (is_call c) h

-- the place of a call's answer in the history, where it has the answer
abbrev pub answered_at : List Event → CallId → Option ℕ
answered_at h c = position (is_answer c) h

-- whether an answer is before place n
abbrev pub is_before : ℕ → Option ℕ → Bool
is_before n None = false
is_before n (Some m) = nat_lt m n
