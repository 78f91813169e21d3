-- Whose calls an order is to explain
use Rattle.std.specs.Prelude.{Bool, true, List}
use Rattle.rambo_history.specs.declared.operation.Op.{Op}
use Rattle.rambo_history.specs.declared.event.CallId.{CallId}
use Rattle.rambo_history.specs.declared.event.Event.{Event}
use Rattle.rambo_atomic.specs.declared.scope.Scope.{Scope}
use Rattle.rambo_atomic.specs.declared.scope.Scope.TheVariants as scope
use Rattle.rambo_atomic.specs.declared.verdict.Verdict.{Verdict}
use Rattle.rambo_history.specs.Proper.{IsComplete, IsDistinct, HasNoStranger, AnswersLatest, KeepsRealTime, IsProper, HasAllAnswered, HasCallsAlone, IsProperForAll}
use Rattle.rambo_atomic.specs.Tests.{of_key}
use Rattle.rambo_atomic.specs.Verdicts.{IsLeastBroken}

-- whether an operation is one of those within
abbrev pub within : Scope → Op → Bool
within (scope.Key key) = of_key key.now
within scope.AllKeys = λ op. true

abbrev pub IsCompleteIn : Scope → List Event → List CallId → Type 0
IsCompleteIn (scope.Key key) h order = IsComplete h key.now order
IsCompleteIn scope.AllKeys h order = HasAllAnswered h order

abbrev pub HasNoStrangerIn : Scope → List Event → List CallId → Type 0
HasNoStrangerIn (scope.Key key) h order = HasNoStranger h key.now order
HasNoStrangerIn scope.AllKeys h order = HasCallsAlone h order

abbrev pub IsProperIn : Scope → List Event → List CallId → Type 0
IsProperIn (scope.Key key) h order = IsProper h key.now order
IsProperIn scope.AllKeys h order = IsProperForAll h order

-- the verdict on an order of the calls within
abbrev pub IsVerdictIn : Scope → List Event → List CallId → Verdict → Type 0
IsVerdictIn s h order v =
    IsLeastBroken (IsProperIn s h order) (IsCompleteIn s h order) (IsDistinct order) (HasNoStrangerIn s h order) (AnswersLatest h order) (KeepsRealTime h order) v
