-- What an event says, which the code's look-ups by place give
use Rattle.std.specs.Prelude.{Option, None, Some}
use Rattle.rambo_history.specs.declared.operation.Op.{Op}
use Rattle.rambo_history.specs.declared.operation.Answer.{Answer}
use Rattle.rambo_history.specs.declared.event.Event.{Event}
use Rattle.rambo_history.specs.declared.event.Event.TheVariants as event

-- what is asked there
abbrev pub op_of : Option Event → Option Op
op_of None = None
op_of (Some (event.Call c op)) = Some op
op_of (Some (event.Answer c a)) = None

-- what is answered there
abbrev pub answer_of : Option Event → Option Answer
answer_of None = None
answer_of (Some (event.Call c op)) = None
answer_of (Some (event.Answer c a)) = Some a
