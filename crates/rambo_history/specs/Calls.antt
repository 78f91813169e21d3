-- Operations, answers and calls
use Rattle.std.specs.Prelude.{List, ℕ, Bool, true, false, ◌&&◌, nat_eq, Option, None, Some}
use Rattle.rambo_history.specs.declared.operation.Op.{Op}
use Rattle.rambo_history.specs.declared.operation.Op.TheVariants as op
use Rattle.rambo_history.specs.declared.operation.Answer.{Answer}
use Rattle.rambo_history.specs.declared.operation.Answer.TheVariants as answer
use Rattle.rambo_history.specs.declared.event.CallId.{CallId}

abbrev pub key_of : Op → List ℕ
key_of (op.Get key) = key
key_of (op.Set key value) = key

abbrev pub is_get : Op → Bool
is_get (op.Get key) = true
is_get (op.Set key value) = false

-- whether an answer is of an operation's kind
abbrev pub fits : Op → Answer → Bool
fits (op.Get key) answer.Ok = false
fits (op.Get key) answer.Nil = true
fits (op.Get key) (answer.Value v) = true
fits (op.Set key value) answer.Ok = true
fits (op.Set key value) answer.Nil = false
fits (op.Set key value) (answer.Value v) = false

-- the answer of a get of what holds this value, or none
abbrev pub answer_for : Option (List ℕ) → Answer
answer_for None = answer.Nil
answer_for (Some value) = answer.Value value

abbrev pub same_call : CallId → CallId → Bool
same_call c d = nat_eq c.name d.name && nat_eq c.number d.number
