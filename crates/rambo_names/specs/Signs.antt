-- How numbers, sets of names and configurations are spelt
use Rattle.std.specs.Prelude.{◌≡◌, Bool, true, false, not, ◌&&◌, ◌||◌, ◌==◌, ℕ, ◌≤◌, nat_eq, if◌then◌else◌, List, [], ◌∷◌, ◌++◌, length, map, decimal}
use Rattle.std.specs.Char.{is_ascii_digit}
use Rattle.rambo_names.specs.Names.{NameSet, AreNames, names}
use Rattle.rambo_names.specs.Weights.{Weights, weight_of, members_of, evenly}

-- whether a number may start so: without a sign, and with a zero only where that is all of it
abbrev pub starts_plainly : List ℕ → Bool
starts_plainly [] = false
starts_plainly (b ∷ bs) = not (b == 43) && (not (b == 48) || length bs == 0)

-- a number ends where the text does, or before what is no digit
abbrev pub IsNumberEnd : List ℕ → Type 0
IsNumberEnd [] = Unit {0}
IsNumberEnd (b ∷ bs) = is_ascii_digit b ≡ false

-- a line is this sign, which ends as a number does, and this rest
pub record BeginsWith (line sign rest : List ℕ) : Type 0 where
  pub whole : line ≡ sign ++ rest
  pub ends : IsNumberEnd rest

-- further words, each after a comma
abbrev pub behind_commas : List (List ℕ) → List ℕ
behind_commas [] = []
behind_commas (w ∷ ws) = (44 ∷ w) ++ behind_commas ws

-- words joined by commas, or a dash for none
abbrev pub joined : List (List ℕ) → List ℕ
joined [] = 45 ∷ []
joined (w ∷ ws) = w ++ behind_commas ws

-- the one spelling of a set: its names
abbrev pub set_text : NameSet → List ℕ
set_text s = joined (map decimal (names s))

-- a weight is written after a colon, but 1 isn't written
abbrev pub weight_text : ℕ → List ℕ
weight_text w = if nat_eq w 1 then [] else 58 ∷ decimal w

-- a member: its name and its weight
abbrev pub member_text : ℕ → ℕ → List ℕ
member_text n w = decimal n ++ weight_text w

-- the one spelling of a configuration: its members
abbrev pub conf_text : Weights → List ℕ
conf_text c = joined (map (λ n. member_text n (weight_of c n)) (names (members_of c)))

-- a weight that a member may have
abbrev pub IsWeight : ℕ → Type 0
IsWeight w = (1 ≤ w) × (w ≤ 15)

-- a configuration whose members are names
abbrev pub IsConf : Weights → Type 0
IsConf c = AreNames (members_of c)

-- what comes before a member: a comma, unless it is the first
abbrev pub before : Bool → List ℕ
before true = []
before false = 44 ∷ []

-- a member ends where the text does, or at a comma
abbrev pub IsEnd : List ℕ → Type 0
IsEnd [] = Unit {0}
IsEnd (b ∷ bs) = b ≡ 44

-- no text is that of two configurations
abbrev pub OneConf : Type 0
OneConf = (c d : Weights) → IsConf c → IsConf d → conf_text c ≡ conf_text d → c ≡ d

-- where all members have weight 1 the text is that of their set
abbrev pub EvenIsSet : Type 0
EvenIsSet = (s : NameSet) → conf_text (evenly s) ≡ set_text s
