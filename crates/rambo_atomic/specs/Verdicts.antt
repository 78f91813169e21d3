-- What a checker of orders says
use Rattle.std.specs.Prelude.{ℕ, List}
use Rattle.rambo_history.specs.declared.event.CallId.{CallId}
use Rattle.rambo_history.specs.declared.event.Event.{Event}
use Rattle.rambo_atomic.specs.declared.verdict.Rule.{Rule}
use Rattle.rambo_atomic.specs.declared.verdict.Rule.TheVariants.{Missing, Repeated, Stranger, WrongAnswer, OutOfOrder}
use Rattle.rambo_atomic.specs.declared.verdict.Verdict.{Verdict}
use Rattle.rambo_atomic.specs.declared.verdict.Verdict.TheVariants.{Yes, No}
use Rattle.rambo_history.specs.Proper.{IsComplete, IsDistinct, HasNoStranger, AnswersLatest, KeepsRealTime, IsProper, HasAllAnswered, HasCallsAlone, IsProperForAll}

abbrev pub number_of : Rule → ℕ
number_of Missing = 1
number_of Repeated = 2
number_of Stranger = 3
number_of WrongAnswer = 4
number_of OutOfOrder = 5

-- yes where the order is proper, and else the least rule that it breaks, of these in their order
abbrev pub IsLeastBroken : (proper complete distinct no_stranger latest real_time : Type 0) → Verdict → Type 0
IsLeastBroken proper complete distinct no_stranger latest real_time Yes = proper
IsLeastBroken proper complete distinct no_stranger latest real_time (No Missing) = ¬ complete
IsLeastBroken proper complete distinct no_stranger latest real_time (No Repeated) = complete × ¬ distinct
IsLeastBroken proper complete distinct no_stranger latest real_time (No Stranger) = complete × distinct × ¬ no_stranger
IsLeastBroken proper complete distinct no_stranger latest real_time (No WrongAnswer) = complete × distinct × no_stranger × ¬ latest
IsLeastBroken proper complete distinct no_stranger latest real_time (No OutOfOrder) = complete × distinct × no_stranger × latest × ¬ real_time

-- the verdict on an order of the calls of a key
abbrev pub IsVerdict : List Event → List ℕ → List CallId → Verdict → Type 0
IsVerdict h key order v =
    IsLeastBroken (IsProper h key order) (IsComplete h key order) (IsDistinct order) (HasNoStranger h key order) (AnswersLatest h order) (KeepsRealTime h order) v

-- and of the calls of all keys
abbrev pub IsVerdictForAll : List Event → List CallId → Verdict → Type 0
IsVerdictForAll h order v =
    IsLeastBroken (IsProperForAll h order) (HasAllAnswered h order) (IsDistinct order) (HasCallsAlone h order) (AnswersLatest h order) (KeepsRealTime h order) v
