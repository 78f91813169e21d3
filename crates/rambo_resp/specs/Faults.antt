-- The numbers of faults
use Rattle.std.specs.Prelude.{ℕ}
use Rattle.rambo_resp.specs.declared.fault.Fault.{Fault}
use Rattle.rambo_resp.specs.declared.fault.Fault.TheVariants.{NotArray, BadLength, TooManyItems, ItemTooLong, MissingCrlf, OutOfMemory}

abbrev pub number_of : Fault → ℕ
number_of (NotArray place) = 1
number_of (BadLength place) = 2
number_of (TooManyItems place) = 3
number_of (ItemTooLong place) = 4
number_of (MissingCrlf place) = 5
number_of OutOfMemory = 6
