-- Versions of texts: in version 2 the line `rambo 2` comes before a text of version 1
use Rattle.std.specs.Prelude.{◌≡◌, ◌≢◌, ◌⊎◌, ℕ, ◌+◌, List, [], ◌∷◌, ◌++◌, length, codes}
use Rattle.rambo_text.specs.declared.fault.Fault.{Fault}
use Rattle.rambo_text.specs.declared.fault.Fault.TheVariants.{WrongCount, BadNumber}
use Rattle.rambo_text.specs.declared.fault.ScriptFault.{ScriptFault}
use Rattle.rambo_text.specs.declared.version.Version.{Version}
use Rattle.rambo_text.specs.declared.version.Version.TheVariants.{One, Two}
use Rattle.rambo_text.specs.Words.{IsFirstLine, AreWords}

-- the line that gives version 2
abbrev pub head_line : List ℕ
head_line = codes "rambo 2"

-- what gives a version, with its line feed
abbrev pub head_text : Version → List ℕ
head_text One = []
head_text Two = head_line ++ 10 ∷ []

-- how many lines give it
abbrev pub head_lines : Version → ℕ
head_lines One = 0
head_lines Two = 1

-- the first word of a line is `rambo`, and these follow
abbrev pub IsHead : List ℕ → List (List ℕ) → Type 0
IsHead line others = AreWords line (codes "rambo" ∷ others)

-- a text of this version may begin with this line
abbrev pub IsFirstOf : Version → List ℕ → Type 0
IsFirstOf One line = (others : List (List ℕ)) → ¬ (IsHead line others)
IsFirstOf Two line = line ≡ head_line

-- words give no version: the first is `rambo`, and other than one follow, or the one isn't `2`
abbrev pub TellNoVersion : List (List ℕ) → Fault → Type 0
TellNoVersion words f =
    (others : List (List ℕ)) × (words ≡ codes "rambo" ∷ others)
    × (((length others ≢ 1) × (f ≡ WrongCount)) ⊎ ((length others ≡ 1) × (others ≢ codes "2" ∷ []) × (f ≡ BadNumber)))

-- a line gives none
abbrev pub IsBadHead : List ℕ → Fault → Type 0
IsBadHead line f = (words : List (List ℕ)) × AreWords line words × TellNoVersion words f

-- a text is of this version, and this is after its head
abbrev pub IsBehindHead : Version → List ℕ → List ℕ → Type 0
IsBehindHead One text behind = ((line rest : List ℕ) → IsFirstLine text line rest → IsFirstOf One line) × (text ≡ behind)
IsBehindHead Two text behind = IsFirstLine text head_line behind

-- a fault of what is after the head, by its line in the whole text
abbrev pub in_whole : Version → ScriptFault → ScriptFault
in_whole version f = record { fault = f.fault; line = f.line + head_lines version }

-- something holds of what is after the head of a text of a version, and of a fault there
abbrev pub BehindHead : (Version → List ℕ → ScriptFault → Type 0) → List ℕ → ScriptFault → Type 0
BehindHead IsSo text f =
    (version : Version) × (behind : List ℕ) × (g : ScriptFault) × IsBehindHead version text behind × IsSo version behind g × (f ≡ in_whole version g)
