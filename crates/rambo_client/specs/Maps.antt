-- An ordinary map, from keys to values
use Rattle.std.specs.Prelude.{ℕ, List, Option, None, Some}
use Rattle.rambo_history.specs.declared.operation.Op.{Op}
use Rattle.rambo_history.specs.declared.operation.Op.TheVariants as op
use Rattle.rambo_history.specs.declared.operation.Answer.{Answer}
use Rattle.rambo_history.specs.declared.operation.Answer.TheVariants as answer
use Rattle.rambo_history.specs.Calls.{answer_for}
use Rattle.rambo_history.specs.Proper.{after_op}

-- the value of each key, if it has one
abbrev pub Map : Type 0
Map = List ℕ → Option (List ℕ)

-- no key has a value
abbrev pub no_values : Map
no_values = λ key. None

-- the map after an operation
abbrev pub after : Map → Op → Map
after m o = λ key. after_op key (Some o) (m key)

-- what the map answers to it
abbrev pub answer_of : Map → Op → Answer
answer_of m (op.Get key) = answer_for (m key)
answer_of m (op.Set key value) = answer.Ok
