-- Outcome texts, and what is wrong with other texts
use Rattle.std.specs.Prelude.{◌≡◌, ◌≢◌, ◌⊎◌, ℕ, ◌+◌, List, [], ◌∷◌, ◌++◌, length}
use Rattle.rambo_text.specs.declared.fault.Fault.{Fault}
use Rattle.rambo_text.specs.declared.fault.Fault.TheVariants.{OutOfMemory, BadHistory}
use Rattle.rambo_text.specs.declared.fault.ScriptFault.{ScriptFault}
use Rattle.rambo_text.specs.declared.version.Version.{Version}
use Rattle.rambo_text.specs.Versions.{IsBehindHead, BehindHead, IsBadHead}
use Rattle.rambo_text.specs.Words.{IsFirstLine, AreWords}
use Rattle.rambo_check.specs.EvidenceStates.{EvidenceState, evidence_of, IsBadItem, AreGood}
use Rattle.rambo_check.specs.Items.{IsItem, IsLineIn, IsPassed}
use Rattle.rambo_check.specs.Lines.{Item, item_words, items_text}
use Rattle.rambo_check.specs.Plans.{IsLineFault, TellsBytesOrCalls}

-- the text is the lines of these items, of which the last may lack its line feed
abbrev pub AreLinesOf : List ℕ → List Item → Type 0
AreLinesOf text items = (text ≡ items_text items) ⊎ (text ++ 10 ∷ [] ≡ items_text items)

-- the text of this version says this, after its head
pub record IsTold (version : Version) (text : List ℕ) (s : EvidenceState) : Type 0 where
  pub items : List Item
  pub good : AreGood version items
  pub lines : AreLinesOf text items
  pub evidence : s ≡ evidence_of version items

-- the line spells an item of this version that is bad after those before it
abbrev pub IsBadLine : Version → EvidenceState → List ℕ → Type 0
IsBadLine version s line = (i : Item) × IsItem i × IsLineIn version i × AreWords line (item_words i) × IsBadItem s i

-- the line spells an item of this version that is kept, and isn't bad after those before it
abbrev pub IsKeptLine : Version → EvidenceState → List ℕ → Type 0
IsKeptLine version s line = (i : Item) × IsItem i × IsLineIn version i × AreWords line (item_words i) × (¬ (IsBadItem s i)) × (¬ (IsPassed i))

-- the fault of a line after good ones: of its words, of what it says, or that memory ran out, at bytes or calls before
-- which the line has no fault, or for the whole line, which has none
abbrev pub IsFaultBehind : Version → EvidenceState → List ℕ → Fault → Type 0
IsFaultBehind version s line f =
    ((f ≡ OutOfMemory) × (TellsBytesOrCalls version line ⊎ IsKeptLine version s line))
    ⊎ (IsLineFault version line f ⊎ ((f ≡ BadHistory) × IsBadLine version s line))

-- the first faulty line of a text of this version, after its head, and its fault
pub record IsTextFault (version : Version) (text : List ℕ) (f : ScriptFault) : Type 0 where
  pub items : List Item
  pub good : AreGood version items
  pub line : List ℕ
  pub rest : List ℕ
  pub left : List ℕ
  pub whole : text ≡ items_text items ++ left
  pub there : left ≢ []
  pub first : IsFirstLine left line rest
  pub number : f.line ≡ length items + 1
  pub fault : IsFaultBehind version (evidence_of version items) line f.fault

-- a whole text of this version says this
abbrev pub IsToldIn : Version → List ℕ → EvidenceState → Type 0
IsToldIn version text s = (behind : List ℕ) × IsBehindHead version text behind × IsTold version behind s

-- the first line should give the version, and doesn't
pub record IsHeadFault (text : List ℕ) (f : ScriptFault) : Type 0 where
  pub line : List ℕ
  pub rest : List ℕ
  pub is_first : IsFirstLine text line rest
  pub fault : IsBadHead line f.fault
  pub number : f.line ≡ 1

-- the first faulty line of a whole text, and its fault
abbrev pub IsFaultIn : List ℕ → ScriptFault → Type 0
IsFaultIn text f = IsHeadFault text f ⊎ BehindHead IsTextFault text f
