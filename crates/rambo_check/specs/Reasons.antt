-- Why an order was refused, with the lines of the text that tell it
use Rattle.std.specs.Prelude.{◌≡◌, ℕ, ◌++◌, ◌∷◌, [], List, Bool, ◌&&◌, not, nat_lt, nat_eq, if◌then◌else◌, Option, None, Some, codes, decimal}
use Rattle.std.specs.List.{list_all}
use Rattle.rambo_history.specs.declared.operation.Op.{Op}
use Rattle.rambo_history.specs.declared.operation.Op.TheVariants as op
use Rattle.rambo_history.specs.declared.operation.Answer.{Answer}
use Rattle.rambo_history.specs.declared.operation.Answer.TheVariants as answer
use Rattle.rambo_history.specs.declared.event.CallId.{CallId}
use Rattle.rambo_history.specs.Calls.{key_of}
use Rattle.rambo_history.specs.Histories.{call_in, answer_in, called_at, answered_at}
use Rattle.rambo_atomic.specs.declared.verdict.Rule.{Rule}
use Rattle.rambo_atomic.specs.declared.verdict.Rule.TheVariants.{Missing, Repeated, Stranger, WrongAnswer, OutOfOrder}
use Rattle.rambo_atomic.specs.declared.verdict.Verdict.{Verdict}
use Rattle.rambo_atomic.specs.declared.verdict.Verdict.TheVariants.{Yes, No}
use Rattle.rambo_atomic.specs.Verdicts.{number_of, IsVerdict, IsVerdictForAll}
use Rattle.rambo_text.specs.Signs.{call_text, hex_text}
use Rattle.rambo_witness.specs.declared.witness.Witness.{Witness}
use Rattle.rambo_witness.specs.Tests.{is_of}
use Rattle.rambo_witness.specs.Witnesses.{IsWitness}
use Rattle.rambo_check.specs.EvidenceStates.{EvidenceState}
use Rattle.rambo_check.specs.Verdicts.{order_of, store_order_of, order_line_of, event_line_of, order_verdict_text}

-- printable ASCII, but no space and no quote
abbrev pub is_plain : ℕ → Bool
is_plain b = nat_lt 32 b && (nat_lt b 127 && not (nat_eq b 34))

-- the sign of bytes, and where they are plain in quotes what they spell
abbrev pub shown : List ℕ → List ℕ
shown bytes = if list_all is_plain bytes then hex_text bytes ++ 32 ∷ 34 ∷ (bytes ++ 34 ∷ []) else hex_text bytes

-- the number of a line
abbrev pub line_text : ℕ → List ℕ
line_text n = codes " (line " ++ decimal n ++ codes ")"

-- where a call is told, and where its answer is
abbrev pub call_line : EvidenceState → CallId → List ℕ
call_line s c = line_text (event_line_of s (called_at s.events c))

abbrev pub answer_line : EvidenceState → CallId → List ℕ
answer_line s c = line_text (event_line_of s (answered_at s.events c))

-- where an order is told, if it is
abbrev pub placed_text : Option ℕ → List ℕ
placed_text None = []
placed_text (Some n) = line_text n

-- an answered call isn't in the order, or there is none
abbrev pub missing_text : Option ℕ → List ℕ
missing_text None = codes " and no order is told"
missing_text (Some n) = codes " and isn't in the order" ++ line_text n

-- why what is asked there may not stand in the order
abbrev pub strange_text : Option (List ℕ) → Op → List ℕ
strange_text key o = if is_of key o then codes " and is a get without an answer" else codes " and is a call of " ++ shown (key_of o)

-- what stands in the order and may not
abbrev pub stranger_text : EvidenceState → Option (List ℕ) → CallId → Option Op → List ℕ
stranger_text s key c None = codes " and was never called"
stranger_text s key c (Some o) = strange_text key o ++ call_line s c

-- what a get was told
abbrev pub told_text : Option Answer → List ℕ
told_text None = codes "nothing"
told_text (Some answer.Ok) = codes "ok"
told_text (Some answer.Nil) = codes "nil"
told_text (Some (answer.Value value)) = shown value

-- the value that a set gives its key
abbrev pub value_text : Option Op → List ℕ
value_text None = []
value_text (Some (op.Get key)) = []
value_text (Some (op.Set key value)) = codes " of " ++ shown value

-- the set that a get should have seen
abbrev pub latest_text : EvidenceState → Option CallId → List ℕ
latest_text s None = codes " and no set stands before it"
latest_text s (Some c) = codes " and the latest set before it is " ++ call_text c ++ value_text (call_in s.events c) ++ call_line s c

-- the call that was made too late to stand before another
abbrev pub later_text : EvidenceState → Option CallId → List ℕ
later_text s None = []
later_text s (Some c) = codes " before " ++ call_text c ++ codes " was called" ++ call_line s c

-- why an order of the key, or of all keys, breaks a rule
abbrev pub reason_text : EvidenceState → Option (List ℕ) → Rule → Witness → List ℕ
reason_text s key Missing w = codes " was answered" ++ answer_line s w.call ++ missing_text (order_line_of s key)
reason_text s key Repeated w = codes " stands twice in the order" ++ placed_text (order_line_of s key)
reason_text s key Stranger w = codes " stands in the order" ++ placed_text (order_line_of s key) ++ stranger_text s key w.call (call_in s.events w.call)
reason_text s key WrongAnswer w = codes " answered " ++ told_text (answer_in s.events w.call) ++ answer_line s w.call ++ codes "," ++ latest_text s w.other
reason_text s key OutOfOrder w =
    codes " was answered" ++ answer_line s w.call ++ later_text s w.other ++ codes " and stands behind it" ++ placed_text (order_line_of s key)

-- the line after a no
abbrev pub reason_line : EvidenceState → Option (List ℕ) → Rule → Witness → List ℕ
reason_line s key rule w = codes "  " ++ call_text w.call ++ reason_text s key rule w ++ 10 ∷ []

-- the order that is judged
abbrev pub order_within : EvidenceState → Option (List ℕ) → List CallId
order_within s None = store_order_of s
order_within s (Some key) = order_of s key

-- the verdict on it
abbrev pub IsVerdictWithin : EvidenceState → Option (List ℕ) → Verdict → Type 0
IsVerdictWithin s None v = IsVerdictForAll s.events (store_order_of s) v
IsVerdictWithin s (Some key) v = IsVerdict s.events key (order_of s key) v

-- what stands after a verdict: after a no the line that names the first witness, with its lines
abbrev pub IsReason : EvidenceState → Option (List ℕ) → Verdict → List ℕ → Type 0
IsReason s key Yes text = text ≡ []
IsReason s key (No rule) text = (w : Witness) × IsWitness rule s.events key (order_within s key) w × (text ≡ reason_line s key rule w)

-- the line of a verdict, with what the key spells
abbrev pub shown_verdict : List ℕ → Verdict → List ℕ
shown_verdict key Yes = codes "yes " ++ shown key ++ 10 ∷ []
shown_verdict key (No rule) = codes "no " ++ shown key ++ codes " " ++ decimal (number_of rule) ++ 10 ∷ []

-- the line of each verdict, and behind each no the line that tells why
abbrev pub AreExplained : EvidenceState → List (List ℕ × Verdict) → List ℕ → Type 0
AreExplained s [] text = text ≡ []
AreExplained s (v ∷ vs) text =
    (reason : List ℕ) × (rest : List ℕ) × IsReason s (Some v.0) v.1 reason × AreExplained s vs rest × (text ≡ shown_verdict v.0 v.1 ++ reason ++ rest)

-- the same of the verdict on all keys, where there is one
abbrev pub IsExplainedOnAll : EvidenceState → Option Verdict → List ℕ → Type 0
IsExplainedOnAll s None text = text ≡ []
IsExplainedOnAll s (Some v) text = (reason : List ℕ) × IsReason s None v reason × (text ≡ order_verdict_text (Some v) ++ reason)
