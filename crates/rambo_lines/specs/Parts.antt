-- What a word gives, with the words after it
use Rattle.std.specs.Prelude.{◌≡◌, ◌≢◌, ◌⊎◌, ℕ, List, Option, map}
use Rattle.std.specs.List.{AllByRecursion}
use Rattle.rambo_names.specs.Weights.{Weights}
use Rattle.rambo_history.specs.declared.operation.Op.{Op}
use Rattle.rambo_node.specs.Steps.{Step}
use Rattle.rambo_node.specs.declared.step.StepOf.TheVariants as step
use Rattle.rambo_text.specs.declared.fault.Fault.{Fault}
use Rattle.rambo_text.specs.declared.fault.Fault.TheVariants.{UnknownWord, OutOfMemory}
use Rattle.rambo_text.specs.Forms.{Form, IsSpelt, form_fault}
use Rattle.rambo_text.specs.Words.{AreMore}
use Rattle.rambo_lines.specs.StepParts.{Part, part_text, IsPart}
use Rattle.rambo_lines.specs.StepLines.{word_of, parts_of, forms_of}
use Rattle.rambo_lines.specs.Faults.{AreUnfit, TellBytes}

-- a word isn't in this form
abbrev pub IsUnspelt : Form → List ℕ → Fault → Type 0
IsUnspelt m word f = ¬ (IsSpelt m word) × (f ≡ form_fault m)

-- the words after the first give these parts
abbrev pub TellParts : List Part → Option (List ℕ) → Type 0
TellParts parts more = AreMore more (map part_text parts) × AllByRecursion IsPart parts

-- they aren't of these forms
abbrev pub TellUnfit : List Form → Option (List ℕ) → Fault → Type 0
TellUnfit forms more f = (others : List (List ℕ)) × AreMore more others × AreUnfit forms others f

-- they have bytes of these forms, for which there may be no room
abbrev pub NeedRoom : List Form → Option (List ℕ) → Type 0
NeedRoom forms more = (others : List (List ℕ)) × AreMore more others × TellBytes forms others

-- they aren't of these forms, or memory ran out
abbrev pub TellFault : List Form → Option (List ℕ) → Fault → Type 0
TellFault forms more f = ((f ≡ OutOfMemory) × NeedRoom forms more) ⊎ TellUnfit forms more f

-- a word gives this step, with those after it
pub record TellStep (word : List ℕ) (more : Option (List ℕ)) (st : Step Weights) : Type 0 where
  pub word_is : word ≡ word_of st
  pub parts : TellParts (parts_of st) more

-- those after it are unfit to the steps that it begins
abbrev pub TellUnfitStep : List ℕ → Option (List ℕ) → Fault → Type 0
TellUnfitStep word more f = (st : Step Weights) × (word ≡ word_of st) × TellUnfit (forms_of st) more f

-- it begins a call, and there may be no room for the bytes behind
abbrev pub TellCall : List ℕ → Option (List ℕ) → Type 0
TellCall word more = (n : ℕ) × (o : Op) × (word ≡ word_of (step.Call n o)) × NeedRoom (forms_of (step.Call n o)) more

-- why they give no step
abbrev pub TellNone : List ℕ → Option (List ℕ) → Fault → Type 0
TellNone word more f = ((f ≡ OutOfMemory) × TellCall word more) ⊎ (((st : Step Weights) → word ≢ word_of st) × (f ≡ UnknownWord)) ⊎ TellUnfitStep word more f
