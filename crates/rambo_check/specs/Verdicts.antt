-- The verdict on each key of a text, and how verdicts are written
use Rattle.std.specs.Prelude.{◌≡◌, ◌⊎◌, ℕ, Bool, true, false, List, [], ◌∷◌, ◌++◌, map, Option, None, Some, IsSome, unwrap_or, slice_get, codes, decimal}
use Rattle.std.specs.List.{list_all, IsDistinct}
use Rattle.std.specs.List.Sorted.{IsSorted}
use Rattle.std.specs.Map.{lookup}
use Rattle.std.specs.Ordering.{nat_cmp}
use Rattle.std.specs.Cmp.Lexicographic.{slice_cmp}
use Rattle.std.specs.Str.{bytes_eq}
use Rattle.rambo_history.specs.declared.operation.Op.{Op}
use Rattle.rambo_history.specs.declared.event.CallId.{CallId}
use Rattle.rambo_history.specs.declared.event.Event.TheVariants as event
use Rattle.rambo_atomic.specs.declared.verdict.Verdict.{Verdict}
use Rattle.rambo_atomic.specs.declared.verdict.Verdict.TheVariants.{Yes, No}
use Rattle.rambo_history.specs.Calls.{key_of}
use Rattle.rambo_history.specs.Proper.{Stands}
use Rattle.rambo_atomic.specs.Verdicts.{number_of, IsVerdict, IsVerdictForAll}
use Rattle.rambo_text.specs.declared.version.Version.{Version}
use Rattle.rambo_text.specs.declared.version.Version.TheVariants.{One, Two}
use Rattle.rambo_text.specs.Signs.{hex_text}
use Rattle.rambo_text.specs.Words.{words_text}
use Rattle.rambo_check.specs.EvidenceStates.{EvidenceState}

-- the order of a key: the empty one where the text has none
abbrev pub order_of : EvidenceState → List ℕ → List CallId
order_of s key = unwrap_or (lookup (bytes_eq key) s.orders) []

-- the text has a call of the key, or an order for it
abbrev pub IsKey : EvidenceState → List ℕ → Type 0
IsKey s key = ((c : CallId) × (o : Op) × Stands s.events (event.Call c o) × (key_of o ≡ key)) ⊎ IsSome (lookup (bytes_eq key) s.orders)

abbrev pub IsVerdictOn : EvidenceState → List ℕ → Option Verdict → Type 0
IsVerdictOn s key None = ¬ (IsKey s key)
IsVerdictOn s key (Some v) = IsKey s key × IsVerdict s.events key (order_of s key) v

-- one verdict on each key, keys in byte order
pub record AreVerdicts (s : EvidenceState) (verdicts : List (List ℕ × Verdict)) : Type 0 where
  pub in_order : IsSorted (slice_cmp nat_cmp) (map (λ v. v.0) verdicts)
  pub each_once : IsDistinct bytes_eq (map (λ v. v.0) verdicts)
  pub verdict : (key : List ℕ) → IsVerdictOn s key (lookup (bytes_eq key) verdicts)

abbrev pub is_yes : Verdict → Bool
is_yes Yes = true
is_yes (No rule) = false

abbrev pub all_yes : List (List ℕ × Verdict) → Bool
all_yes verdicts = list_all (λ v. is_yes v.1) verdicts

abbrev pub verdict_words : List ℕ → Verdict → List (List ℕ)
verdict_words key Yes = codes "yes" ∷ hex_text key ∷ []
verdict_words key (No rule) = codes "no" ∷ hex_text key ∷ decimal (number_of rule) ∷ []

-- the order of the calls of all keys: the empty one where the text has none
abbrev pub store_order_of : EvidenceState → List CallId
store_order_of s = unwrap_or s.order []

-- the line that tells the order of a key, or where no key is told that of all
abbrev pub order_line_of : EvidenceState → Option (List ℕ) → Option ℕ
order_line_of s None = s.order_line
order_line_of s (Some key) = lookup (bytes_eq key) s.order_lines

-- the line of the event at a place
abbrev pub event_line_of : EvidenceState → Option ℕ → ℕ
event_line_of s None = 0
event_line_of s (Some place) = unwrap_or (slice_get s.event_lines place) 0

-- it is judged in version 2 alone
abbrev pub IsVerdictOnAll : Version → EvidenceState → Option Verdict → Type 0
IsVerdictOnAll One s verdict = verdict ≡ None
IsVerdictOnAll Two s verdict = (v : Verdict) × (verdict ≡ Some v) × IsVerdictForAll s.events (store_order_of s) v

abbrev pub yes_to_all : Option Verdict → Bool
yes_to_all None = true
yes_to_all (Some v) = is_yes v

abbrev pub order_words : Verdict → List (List ℕ)
order_words Yes = codes "yes" ∷ codes "order" ∷ []
order_words (No rule) = codes "no" ∷ codes "order" ∷ decimal (number_of rule) ∷ []

-- a line for the verdict on all keys, where there is one
abbrev pub order_verdict_text : Option Verdict → List ℕ
order_verdict_text None = []
order_verdict_text (Some v) = words_text (order_words v) ++ 10 ∷ []

-- a line for each verdict
abbrev pub verdicts_text : List (List ℕ × Verdict) → List ℕ
verdicts_text [] = []
verdicts_text (v ∷ vs) = (words_text (verdict_words v.0 v.1) ++ 10 ∷ []) ++ verdicts_text vs
