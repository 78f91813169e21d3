-- The first faulty line of a text, and its first fault
use Rattle.std.specs.Prelude.{◌≡◌, ◌≢◌, ◌⊎◌, ℕ, ◌+◌, ◌<◌, ◌++◌, List, [], ◌∷◌, length, codes}
use Rattle.rambo_names.specs.Weights.{Weights}
use Rattle.rambo_history.specs.declared.operation.Op.{Op}
use Rattle.rambo_node.specs.Steps.{Step}
use Rattle.rambo_node.specs.declared.step.StepOf.TheVariants as step
use Rattle.rambo_text.specs.declared.fault.Fault.{Fault}
use Rattle.rambo_text.specs.declared.fault.Fault.TheVariants.{NoFounders, UnknownWord, WrongCount, LineTooLong, OutOfMemory}
use Rattle.rambo_text.specs.declared.fault.ScriptFault.{ScriptFault}
use Rattle.rambo_text.specs.Forms.{Form, Name, Conf, IsSpelt, IsBadWord}
use Rattle.rambo_text.specs.Words.{AreWords, IsFirstLine}
use Rattle.rambo_lines.specs.StepLines.{word_of, forms_of, step_line}
use Rattle.rambo_lines.specs.Scripts.{ScriptState, script_text, IsShort, HasLine, HasLines}

-- words aren't of these forms: there is another number of them, or one isn't in its form
abbrev pub AreUnfit : List Form → List (List ℕ) → Fault → Type 0
AreUnfit forms words f = ((length words ≢ length forms) × (f ≡ WrongCount)) ⊎ ((length words ≡ length forms) × IsBadWord forms words f)

-- words give no step: the first begins none, or those after it are unfit to the steps that it begins
abbrev pub TellNoStep : List (List ℕ) → Fault → Type 0
TellNoStep words f =
    (((st : Step Weights) (others : List (List ℕ)) → words ≢ word_of st ∷ others) × (f ≡ UnknownWord))
    ⊎ ((st : Step Weights) × (others : List (List ℕ)) × (words ≡ word_of st ∷ others) × AreUnfit (forms_of st) others f)

-- words give no founders: the first is another one, those after it are unfit, or there is no founder
abbrev pub TellNoFounders : List (List ℕ) → Fault → Type 0
TellNoFounders words f =
    (((others : List (List ℕ)) → words ≢ codes "founders" ∷ others) × (f ≡ NoFounders))
    ⊎ ((others : List (List ℕ)) × (words ≡ codes "founders" ∷ others) × AreUnfit (Conf ∷ []) others f)
    ⊎ ((words ≡ codes "founders" ∷ codes "-" ∷ []) × (f ≡ NoFounders))

-- a line is too long, or its words have a fault
abbrev pub IsLineFault : (List (List ℕ) → Fault → Type 0) → List ℕ → Fault → Type 0
IsLineFault TellNone line f =
    ((16384 < length line) × (f ≡ LineTooLong)) ⊎ (IsShort line × ((words : List (List ℕ)) × AreWords line words × TellNone words f))

-- the first of some words is a name
abbrev pub AreNamed : List (List ℕ) → Type 0
AreNamed [] = ⊥
AreNamed (w ∷ ws) = IsSpelt Name w

-- words after the first have bytes: they are as many as these forms, and a name comes before the bytes
abbrev pub TellBytes : List Form → List (List ℕ) → Type 0
TellBytes forms others = (length others ≡ length forms) × AreNamed others

-- a line has the bytes of a call, and has no fault before them
pub record TellsBytes (line : List ℕ) : Type 0 where
  pub short : IsShort line
  pub name : ℕ
  pub op : Op
  pub others : List (List ℕ)
  pub words : AreWords line (word_of (step.Call name op) ∷ others)
  pub tell : TellBytes (forms_of (step.Call name op)) others

-- a line tells no step, or there is no room for the bytes that it tells
abbrev pub IsFaultyStep : List ℕ → Fault → Type 0
IsFaultyStep line f = ((f ≡ OutOfMemory) × TellsBytes line) ⊎ IsLineFault TellNoStep line f

-- a line has bytes, or a whole step
abbrev pub TellsBytesOrStep : List ℕ → Type 0
TellsBytesOrStep line = TellsBytes line ⊎ ((st : Step Weights) × HasLine st × (line ≡ step_line st))

-- the first line has a fault
pub record IsFirstFault (bytes : List ℕ) (f : ScriptFault) : Type 0 where
  pub line : List ℕ
  pub rest : List ℕ
  pub is_first : IsFirstLine bytes line rest
  pub fault : IsLineFault TellNoFounders line f.fault
  pub number : f.line ≡ 1

-- a line comes after the lines of a script, and has this number
pub record IsNextLine (bytes line : List ℕ) (number : ℕ) : Type 0 where
  pub before : ScriptState
  pub behind : List ℕ
  pub rest : List ℕ
  pub lines : HasLines before
  pub whole : bytes ≡ script_text before ++ behind
  pub some : behind ≢ []
  pub is_first : IsFirstLine behind line rest
  pub number_is : number ≡ length before.steps + 2

-- a later line has a fault, and the lines before it have none
pub record IsLaterFault (bytes : List ℕ) (f : ScriptFault) : Type 0 where
  pub line : List ℕ
  pub is_next : IsNextLine bytes line f.line
  pub fault : IsLineFault TellNoStep line f.fault

-- bytes are no script: their first faulty line, and its first fault
abbrev pub IsScriptFault : List ℕ → ScriptFault → Type 0
IsScriptFault bytes f = IsFirstFault bytes f ⊎ IsLaterFault bytes f

-- memory ran out while a line was read that needs some, and the lines before it have no fault
pub record RanOut (NeedsRoom : List ℕ → Type 0) (bytes : List ℕ) (f : ScriptFault) : Type 0 where
  pub line : List ℕ
  pub is_next : IsNextLine bytes line f.line
  pub needs : NeedsRoom line
  pub fault : f.fault ≡ OutOfMemory
