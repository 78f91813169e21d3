-- Which verdicts were given so far
use Rattle.std.specs.Prelude.{ℕ, Bool, false, List, IfSome, is_some}
use Rattle.std.specs.Map.{lookup}
use Rattle.std.specs.Str.{bytes_eq}
use Rattle.rambo_history.specs.declared.event.Event.{Event}
use Rattle.rambo_history.specs.declared.event.Event.TheVariants as event
use Rattle.rambo_atomic.specs.declared.verdict.Verdict.{Verdict}
use Rattle.rambo_history.specs.Calls.{key_of}
use Rattle.rambo_atomic.specs.Verdicts.{IsVerdict}
use Rattle.rambo_check.specs.EvidenceStates.{EvidenceState}
use Rattle.rambo_check.specs.Verdicts.{order_of}

-- each verdict that is given is right
abbrev pub AreRight : EvidenceState → List (List ℕ × Verdict) → Type 0
AreRight s verdicts = (key : List ℕ) → IfSome (lookup (bytes_eq key) verdicts) (IsVerdict s.events key (order_of s key))

-- whether there is a verdict on a key
abbrev pub is_judged : List (List ℕ × Verdict) → List ℕ → Bool
is_judged verdicts key = is_some (lookup (bytes_eq key) verdicts)

-- whether a call of the key was made there
abbrev pub is_call_of : List ℕ → Event → Bool
is_call_of key (event.Call c o) = bytes_eq (key_of o) key
is_call_of key (event.Answer c a) = false
