-- What holds at all, holds where there is nothing
use Rattle.std.proofs.Common.{Option, None, Some, IfNone}

pub at_none : {T : Type 0} {P : Type 0} (o : Option T) → P → IfNone o P
at_none None p = p
at_none (Some x) p = tt
