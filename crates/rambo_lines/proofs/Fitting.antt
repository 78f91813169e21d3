-- Words that give a step, or not
use Rattle.std.proofs.Common.{◌≡◌, ◌≢◌, ◌⊎◌, ℕ, List, [], ◌∷◌, length, map, codes, true, Option, inl, inr, refl, sym, ap, subst, ◌∙◌}
use Rattle.std.specs.Str.{bytes_eq}
use Rattle.std.proofs.lemmas.Slice.Eq.{bytes_eq-Decides}
use Rattle.rambo_names.specs.Names.{count_of}
use Rattle.rambo_names.specs.Signs.{conf_text}
use Rattle.rambo_names.specs.Weights.{Weights, members_of}
use Rattle.rambo_names.proofs.ConfTexts.{none_text}
use Rattle.rambo_history.specs.declared.operation.Op.{Op}
use Rattle.rambo_history.specs.declared.operation.Op.TheVariants as op
use Rattle.rambo_node.specs.declared.prepared.Quiet.{Quiet}
use Rattle.rambo_node.specs.Steps.{Step}
use Rattle.rambo_node.specs.declared.step.StepOf.TheVariants as step
use Rattle.rambo_text.specs.declared.fault.Fault.{Fault}
use Rattle.rambo_text.specs.declared.fault.Fault.TheVariants.{NoFounders, UnknownWord, WrongCount, BadHex, OutOfMemory}
use Rattle.rambo_text.specs.Forms.{Form, Conf, Hex, IsSpelt, IsBadWord}
use Rattle.rambo_text.specs.Signs.{hex_text, AreBytes}
use Rattle.rambo_text.specs.Words.{IsFirstWord, AreWords, AreMore, words_text}
use Rattle.rambo_text.proofs.WordSplits.{words_joined}
use Rattle.rambo_text.proofs.WordsThere.{more_has_words}
use Rattle.rambo_lines.specs.StepParts.{part_text}
use Rattle.rambo_lines.specs.StepLines.{quiet_word, act_in, word_of, parts_of, forms_of, step_line}
use Rattle.rambo_lines.specs.Scripts.{IsShort, HasLine}
use Rattle.rambo_lines.specs.Faults.{IsLineFault, TellNoFounders, AreNamed, AreUnfit, IsFaultyStep}
use Rattle.rambo_lines.specs.Parts.{TellStep, TellUnfit, TellFault, TellUnfitStep, TellNone}

-- another number of words
pub count_fault : (forms : List Form) (more : Option (List ℕ)) (f : Fault) → f ≡ WrongCount → ((words : List (List ℕ)) → AreMore more words → length words ≢ length forms) → TellUnfit forms more f
count_fault forms more f is none = let there = more_has_words more in (there.0, there.1, inl (none there.0 there.1, is))

-- a word that spells no bytes, or for whose bytes there is no room
pub hex_fault : (forms : List Form) (more : Option (List ℕ)) (words : List (List ℕ)) (word : List ℕ) (f : Fault) → AreMore more words → length words ≡ length forms → AreNamed words
    → (¬ (IsSpelt Hex word) → f ≡ BadHex → IsBadWord forms words f)
    → (f ≡ OutOfMemory) ⊎ ((f ≡ BadHex) × ((bs : List ℕ) → AreBytes bs → word ≢ hex_text bs)) → TellFault forms more f
hex_fault forms more words word f are many named bad (inl spent) = inl (spent, (words, are, (many, named)))
hex_fault forms more words word f are many named bad (inr no_bytes) =
    inr (words, are, inr (many, bad (λ spelt. no_bytes.1 spelt.0 spelt.1 spelt.2) no_bytes.0))

-- the words of a call are unfit, or there is no room for its bytes
pub call_fault : (n : ℕ) (o : Op) (word : List ℕ) (more : Option (List ℕ)) (f : Fault) → TellFault (forms_of (step.Call n o)) more f → word ≡ word_of (step.Call n o) → TellNone word more f
call_fault n o word more f (inl spent) is = inl (spent.0, (n, o, is, spent.1))
call_fault n o word more f (inr unfit) is = inr (inr (step.Call n o, is, unfit))

-- what `==` tells of a word and one that is known
pub is_word : (word other known : List ℕ) → other ≡ known → true ≡ bytes_eq word other → word ≡ known
is_word word other known is eq = (bytes_eq-Decides word other).0 (sym eq) ∙ is

-- the words of a step that holds no bytes are unfit
pub step_fault : (st : Step Weights) (word : List ℕ) (more : Option (List ℕ)) (f : Fault) → TellUnfit (forms_of st) more f → word ≡ word_of st → TellUnfitStep word more f
step_fault st word more f unfit is = (st, is, unfit)

-- a word begins none of the steps but quiet ones
abbrev pub BeginsNone : List ℕ → Type 0
BeginsNone word = (word ≢ codes "get") × (word ≢ codes "set") × (word ≢ codes "send") × (word ≢ codes "deliver") × (word ≢ codes "advance")

-- then it gives none where it gives no quiet one
unknown : (word : List ℕ) → BeginsNone word → ((q : Quiet Weights) → word ≢ quiet_word q) → (st : Step Weights) → word ≢ word_of st
unknown word other none (step.Call n (op.Get key)) = other.0
unknown word other none (step.Call n (op.Set key value)) = other.1
unknown word other none (step.Send n to) = other.2
unknown word other none (step.Deliver l) = other.3
unknown word other none (step.Advance c) = other.4
unknown word other none st = none (act_in st).1

pub other_fault : (word : List ℕ) (more : Option (List ℕ)) (f : Fault) → BeginsNone word → (((q : Quiet Weights) → word ≢ quiet_word q) × (f ≡ UnknownWord)) ⊎ TellUnfitStep word more f → TellNone word more f
other_fault word more f other (inl none) = inr (inl (unknown word other none.0, none.1))
other_fault word more f other (inr unfit) = inr (inr unfit)

-- a line gives a step
pub line_step : (line word : List ℕ) (more : Option (List ℕ)) (st : Step Weights) → IsShort line → IsFirstWord line word more → TellStep word more st → HasLine st × (line ≡ step_line st)
line_step line word more st short first tell =
    let is : line ≡ step_line st = (words_joined line word more (map part_text (parts_of st)) first tell.parts.0).whole ∙ ap (λ w. words_text (w ∷ map part_text (parts_of st))) tell.word_is in
    (record { is_step = tell.parts.1; short = subst IsShort is short }, is)

-- it gives none
pub line_fault : (line word : List ℕ) (more : Option (List ℕ)) (f : Fault) → IsShort line → IsFirstWord line word more → TellNone word more f → IsFaultyStep line f
line_fault line word more f short first (inl spent) =
    let call = spent.1 in
    let room = call.3 in
    inl (
      spent.0,
      record {
        short = short;
        name = call.0;
        op = call.1;
        others = room.0;
        words = subst (λ w. AreWords line (w ∷ room.0)) call.2 (words_joined line word more room.0 first room.1);
        tell = room.2;
      },
    )
line_fault line word more f short first (inr (inl none)) =
    let there = more_has_words more in
    inr (inr (short, (word ∷ there.0, words_joined line word more there.0 first there.1, inl ((λ st others e. none.0 st (cc)), none.1))))
line_fault line word more f short first (inr (inr unfit)) =
    let there = unfit.2 in
    inr (inr (short, (word ∷ there.0, words_joined line word more there.0 first there.1, inr (unfit.0, there.0, ap (λ w. w ∷ there.0) unfit.1, there.2))))

-- a first line whose words tell no founders
abbrev NoFounding : List ℕ → Fault → Type 0
NoFounding = IsLineFault TellNoFounders

-- the first word is another one
pub other_word : (line word : List ℕ) (more : Option (List ℕ)) → IsShort line → IsFirstWord line word more → word ≢ codes "founders" → NoFounding line NoFounders
other_word line word more short first other =
    let there = more_has_words more in
    inr (short, (word ∷ there.0, words_joined line word more there.0 first there.1, inl ((λ others e. other cc), refl)))

-- the words behind it are unfit
pub unfit_founders : (line word : List ℕ) (more : Option (List ℕ)) (others : List (List ℕ)) (f : Fault) → IsShort line → IsFirstWord line word more → word ≡ codes "founders"
    → AreMore more others → AreUnfit (Conf ∷ []) others f → NoFounding line f
unfit_founders line word more others f short first is are unfit =
    inr (short, (word ∷ others, words_joined line word more others first are, inr (inl (others, ap (λ w. w ∷ others) is, unfit))))

-- there are not as many words
pub founders_count : (line word : List ℕ) (more : Option (List ℕ)) (f : Fault) → IsShort line → IsFirstWord line word more → word ≡ codes "founders"
    → f ≡ WrongCount → ((words : List (List ℕ)) → AreMore more words → length words ≢ 1) → NoFounding line f
founders_count line word more f short first is fault none =
    let there = more_has_words more in
    unfit_founders line word more there.0 f short first is there.1 (inl (none there.0 there.1, fault))

-- there is no founder
pub no_founder : (line word set : List ℕ) (more : Option (List ℕ)) (c : Weights) → IsShort line → IsFirstWord line word more → word ≡ codes "founders"
    → AreMore more (set ∷ []) → set ≡ conf_text c → count_of (members_of c) ≡ 0 → NoFounding line NoFounders
no_founder line word set more c short first is are spelt none =
    inr (short, (word ∷ set ∷ [], words_joined line word more (set ∷ []) first are, inr (inr ((λ i. is i ∷ (spelt ∙ none_text c none) i ∷ []), refl))))
