-- The forms of words, and the first word that isn't in its form
use Rattle.std.specs.Prelude.{◌≡◌, ◌⊎◌, ℕ, ◌<◌, ◌^◌, List, [], ◌∷◌, Option, decimal}
use Rattle.rambo_names.specs.Names.{IsName, NameSet}
use Rattle.rambo_names.specs.Signs.{set_text, conf_text}
use Rattle.rambo_names.specs.Weights.{Weights}
use Rattle.rambo_history.specs.declared.event.CallId.{CallId}
use Rattle.rambo_text.specs.declared.fault.Fault.{Fault}
use Rattle.rambo_text.specs.declared.fault.Fault.TheVariants.{BadNumber, BadHex}
use Rattle.rambo_text.specs.Signs.{call_text, hex_text, standing_text, IsCall, AreBytes}

-- a number, a name, a set of names, a configuration, a call, bytes, or what is at a place
pub data Form : Type 0 where
  Num : Form
  Name : Form
  Set : Form
  Conf : Form
  Call : Form
  Hex : Form
  Standing : Form

-- the word is the spelling of a value of this form
abbrev pub IsSpelt : Form → List ℕ → Type 0
IsSpelt Num word = (n : ℕ) × (n < 2 ^ 64) × (word ≡ decimal n)
IsSpelt Name word = (n : ℕ) × IsName n × (word ≡ decimal n)
IsSpelt Set word = (s : NameSet) × (word ≡ set_text s)
IsSpelt Conf word = (c : Weights) × (word ≡ conf_text c)
IsSpelt Call word = (c : CallId) × IsCall c × (word ≡ call_text c)
IsSpelt Hex word = (bs : List ℕ) × AreBytes bs × (word ≡ hex_text bs)
IsSpelt Standing word = (conf : Option Weights) × (word ≡ standing_text conf)

-- the fault of a word that isn't in its form
abbrev pub form_fault : Form → Fault
form_fault Num = BadNumber
form_fault Name = BadNumber
form_fault Set = BadNumber
form_fault Conf = BadNumber
form_fault Call = BadNumber
form_fault Hex = BadHex
form_fault Standing = BadNumber

-- each word is in its form, one form for each
abbrev pub AreSpelt : List Form → List (List ℕ) → Type 0
AreSpelt [] [] = Unit {0}
AreSpelt [] (w ∷ ws) = ⊥
AreSpelt (m ∷ ms) [] = ⊥
AreSpelt (m ∷ ms) (w ∷ ws) = IsSpelt m w × AreSpelt ms ws

-- the first word from the left that isn't in its form has this fault
abbrev pub IsBadWord : List Form → List (List ℕ) → Fault → Type 0
IsBadWord [] ws f = ⊥
IsBadWord (m ∷ ms) [] f = ⊥
IsBadWord (m ∷ ms) (w ∷ ws) f = (¬ (IsSpelt m w) × (f ≡ form_fault m)) ⊎ (IsSpelt m w × IsBadWord ms ws f)
