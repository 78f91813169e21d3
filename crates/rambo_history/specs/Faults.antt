-- Which events can be appended to a history
use Rattle.std.specs.Prelude.{◌≡◌, ℕ, List, Option, None, Some, is_some, if◌then◌else◌}
use Rattle.rambo_history.specs.declared.operation.Op.{Op}
use Rattle.rambo_history.specs.declared.operation.Answer.{Answer}
use Rattle.rambo_history.specs.declared.event.Event.{Event}
use Rattle.rambo_history.specs.declared.event.Event.TheVariants as event
use Rattle.rambo_history.specs.declared.fault.HistoryFault.{HistoryFault}
use Rattle.rambo_history.specs.declared.fault.HistoryFault.TheVariants.{CalledTwice, NotOpen, WrongKind, OutOfMemory}
use Rattle.rambo_history.specs.Calls.{fits}
use Rattle.rambo_history.specs.Histories.{call_in, answer_in}

-- the fault of an answer, for what was asked and what was answered before
abbrev pub answer_fault : Option Op → Option Answer → Answer → Option HistoryFault
answer_fault None told a = Some NotOpen
answer_fault (Some op) (Some b) a = Some NotOpen
answer_fault (Some op) None a = if fits op a then None else Some WrongKind

-- the fault of an event at the end of a history
abbrev pub fault_of : List Event → Event → Option HistoryFault
fault_of h (event.Call c op) = if is_some (call_in h c) then Some CalledTwice else None
fault_of h (event.Answer c a) = answer_fault (call_in h c) (answer_in h c) a

-- that fault; or `OutOfMemory`, where there is none and no room was made
abbrev pub IsFault : Option HistoryFault → ℕ → HistoryFault → Type 0
IsFault (Some f) room g = g ≡ f
IsFault None room g = (g ≡ OutOfMemory) × (room ≡ 0)
