-- What the searches for a witness compute
use Rattle.std.specs.Prelude.{ℕ, List, Bool, true, Option, None, Some}
use Rattle.rambo_history.specs.declared.operation.Op.{Op}
use Rattle.rambo_history.specs.declared.operation.Op.TheVariants as op
use Rattle.rambo_atomic.specs.Tests.{of_key}

-- whether an operation is of the key, or of any where none is told
abbrev pub is_of : Option (List ℕ) → Op → Bool
is_of None op = true
is_of (Some key) op = of_key key op

-- the value that an operation sets its key to
abbrev pub value_of : Option Op → Option (List ℕ)
value_of None = None
value_of (Some (op.Get key)) = None
value_of (Some (op.Set key value)) = Some value
