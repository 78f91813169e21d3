-- How a step is written: the word that it begins with, and a word for each of its parts
use Rattle.std.specs.Prelude.{ℕ, List, [], ◌∷◌, codes, map, unwrap_or}
use Rattle.std.specs.List.{AllByRecursion}
use Rattle.rambo_names.specs.Weights.{Weights}
use Rattle.rambo_history.specs.declared.operation.Op.TheVariants as op
use Rattle.rambo_node.specs.declared.prepared.Quiet.{Quiet}
use Rattle.rambo_node.specs.declared.prepared.Quiet.TheVariants as quiet
use Rattle.rambo_node.specs.Steps.{Step, quiet_of}
use Rattle.rambo_node.specs.declared.step.StepOf.TheVariants as step
use Rattle.rambo_text.specs.Forms.{Form}
use Rattle.rambo_text.specs.Words.{words_text}
use Rattle.rambo_lines.specs.StepParts.{Part, form_of, part_text, IsPart}
use Rattle.rambo_lines.specs.StepParts as part

-- the word of a quiet act
abbrev pub quiet_word : Quiet Weights → List ℕ
quiet_word (quiet.Join contacts) = codes "join"
quiet_word (quiet.Again c) = codes "again"
quiet_word quiet.Collect = codes "collect"
quiet_word quiet.AdvanceCollect = codes "advance-collect"
quiet_word (quiet.Recon wish) = codes "recon"
quiet_word quiet.Rebid = codes "rebid"
quiet_word quiet.AdvanceRecon = codes "advance-recon"
quiet_word quiet.Stop = codes "stop"

-- its parts, at a node
abbrev pub quiet_parts : ℕ → Quiet Weights → List Part
quiet_parts n (quiet.Join contacts) = part.Name n ∷ part.Names contacts ∷ []
quiet_parts n (quiet.Again c) = part.Call c ∷ []
quiet_parts n (quiet.Recon wish) = part.Name n ∷ part.Conf wish ∷ []
quiet_parts n _ = part.Name n ∷ []

-- its line, with no line feed
abbrev pub quiet_line : ℕ → Quiet Weights → List ℕ
quiet_line n q = words_text (quiet_word q ∷ map part_text (quiet_parts n q))

-- the quiet act that a step means, and the name of its node; nothing is asked of this where it means none
abbrev pub act_in : Step Weights → ℕ × Quiet Weights
act_in st = unwrap_or (quiet_of st) (0, quiet.Stop)

-- the word that a step begins with
abbrev pub word_of : Step Weights → List ℕ
word_of (step.Call n (op.Get key)) = codes "get"
word_of (step.Call n (op.Set key value)) = codes "set"
word_of (step.Send n to) = codes "send"
word_of (step.Deliver l) = codes "deliver"
word_of (step.Advance c) = codes "advance"
word_of st = quiet_word (act_in st).1

-- its parts
abbrev pub parts_of : Step Weights → List Part
parts_of (step.Call n (op.Get key)) = part.Name n ∷ part.Bytes key ∷ []
parts_of (step.Call n (op.Set key value)) = part.Name n ∷ part.Bytes key ∷ part.Bytes value ∷ []
parts_of (step.Send n to) = part.Name n ∷ part.Name to ∷ []
parts_of (step.Deliver l) = part.Number l ∷ []
parts_of (step.Advance c) = part.Call c ∷ []
parts_of st = quiet_parts (act_in st).0 (act_in st).1

-- the forms of the words after the first
abbrev pub forms_of : Step Weights → List Form
forms_of st = map form_of (parts_of st)

-- the words of a step
abbrev pub step_words : Step Weights → List (List ℕ)
step_words st = word_of st ∷ map part_text (parts_of st)

-- the line of a step, with no line feed
abbrev pub step_line : Step Weights → List ℕ
step_line st = words_text (step_words st)

-- a step has a line: names are names, also those of sets and configurations, and numbers have 64 bits
abbrev pub IsStep : Step Weights → Type 0
IsStep st = AllByRecursion IsPart (parts_of st)
