-- A step is known by its line
use Rattle.std.proofs.Common.{◌≡◌, ℕ, ◌<◌, true, List, [], ◌∷◌, map, codes, refl, ap, subst, arith, lit<}
use Rattle.std.specs.List.{AllByRecursion}
use Rattle.std.specs.Str.{bytes_eq}
use Rattle.std.proofs.lemmas.Fmt.{decimal_injective}
use Rattle.std.proofs.lemmas.Slice.Eq.{bytes_eq-Decides}
use Rattle.rambo_names.specs.Weights.{Weights}
use Rattle.rambo_names.proofs.ConfOnce.{one_conf_is, one_set_is}
use Rattle.rambo_history.specs.declared.operation.Op.TheVariants as op
use Rattle.rambo_node.specs.Steps.{Step}
use Rattle.rambo_node.specs.declared.step.StepOf.TheVariants as step
use Rattle.rambo_text.specs.Forms.{IsSpelt, AreSpelt}
use Rattle.rambo_text.specs.Words.{Lacks, AreWords}
use Rattle.rambo_text.proofs.Alike.{same_hex, same_id, same_name}
use Rattle.rambo_text.proofs.Lacking.{lacks-decimal, lacks-name}
use Rattle.rambo_text.proofs.Plain.{lacks-set, lacks-conf, lacks-hex, lacks-call, lacks-tested, lacks-words}
use Rattle.rambo_text.proofs.WordSplits.{same_words}
use Rattle.rambo_lines.specs.StepLines.{word_of, parts_of, forms_of, step_words, step_line, IsStep}
use Rattle.rambo_lines.specs.StepParts.{Part, form_of, part_text, IsPart}
use Rattle.rambo_lines.specs.StepParts as part

-- parts are in their forms
spelt_part : (p : Part) → IsPart p → IsSpelt (form_of p) (part_text p)
spelt_part (part.Names s) is = (s, refl)
spelt_part (part.Conf c) is = (c, refl)
spelt_part _ is = (_, is, refl)

pub spelt : (ps : List Part) → AllByRecursion IsPart ps → AreSpelt (map form_of ps) (map part_text ps)
spelt [] all = tt
spelt (p ∷ ps) all = (spelt_part p all.0, spelt ps all.1)

-- their words have no spaces and line feeds
lacks-part : (b : ℕ) (p : Part) → b < 44 → IsPart p → Lacks b (part_text p)
lacks-part b (part.Number n) low is = lacks-decimal b n (omega arith) is
lacks-part b (part.Name n) low is = lacks-name b n low is
lacks-part b (part.Names s) low is = lacks-set b s low
lacks-part b (part.Conf c) low is = lacks-conf b c low
lacks-part b (part.Call c) low is = lacks-call b c low is
lacks-part b (part.Bytes bs) low is = lacks-hex b bs low

lacks-parts : (b : ℕ) (ps : List Part) → b < 44 → AllByRecursion IsPart ps → AllByRecursion (Lacks b) (map part_text ps)
lacks-parts b [] low all = tt
lacks-parts b (p ∷ ps) low all = (lacks-part b p low all.0, lacks-parts b ps low all.1)

lacks-word : (b : ℕ) (st : Step Weights) → b < 44 → Lacks b (word_of st)
lacks-word b (step.Call n (op.Get key)) low = lacks-tested b (codes "get") low refl
lacks-word b (step.Call n (op.Set key value)) low = lacks-tested b (codes "set") low refl
lacks-word b st low = lacks-tested b (word_of st) low refl

lacks-step : (b : ℕ) (st : Step Weights) → b < 44 → IsStep st → AllByRecursion (Lacks b) (step_words st)
lacks-step b st low is = (lacks-word b st low, lacks-parts b (parts_of st) low is)

-- a step's line is its words, and has no line feed
pub step_are_words : (st : Step Weights) → IsStep st → AreWords (step_line st) (step_words st)
step_are_words st is = record { some = λ e. cc; no_space = lacks-step 32 st (lit< tt) is; whole = refl }

pub step_lacks : (st : Step Weights) → IsStep st → Lacks 10 (step_line st)
step_lacks st is = lacks-words 10 (step_words st) (λ e. cc) (lacks-step 10 st (lit< tt) is)

-- parts are known by their forms and words
same_part : (p q : Part) → IsPart p → IsPart q → form_of p ≡ form_of q → part_text p ≡ part_text q → p ≡ q
same_part (part.Number n) (part.Number m) a b k e = ap part.Number (decimal_injective n m a b e)
same_part (part.Name n) (part.Name m) a b k e = ap part.Name (same_name n m a b e)
same_part (part.Names s) (part.Names t) a b k e = ap part.Names (one_set_is s t a b e)
same_part (part.Conf c) (part.Conf d) a b k e = ap part.Conf (one_conf_is c d a b e)
same_part (part.Call c) (part.Call d) a b k e = ap part.Call (same_id c d a b e)
same_part (part.Bytes bs) (part.Bytes cs) a b k e = ap part.Bytes (same_hex bs cs a b e)
same_part _ _ a b k e = cc

same_parts : (ps qs : List Part) → AllByRecursion IsPart ps → AllByRecursion IsPart qs → map form_of ps ≡ map form_of qs → map part_text ps ≡ map part_text qs → ps ≡ qs
same_parts [] [] a b k e = refl
same_parts [] (q ∷ qs) a b k e = cc
same_parts (p ∷ ps) [] a b k e = cc
same_parts (p ∷ ps) (q ∷ qs) a b k e = (λ i. same_part p q a.0 b.0 (cc) (cc) i ∷ same_parts ps qs a.1 b.1 (cc) (cc) i)

-- steps that begin with one word have parts of the same forms, and are known by these
alike : (st su : Step Weights) → bytes_eq (word_of st) (word_of su) ≡ true → (forms_of st ≡ forms_of su) × (parts_of st ≡ parts_of su → st ≡ su)
alike (step.Call n (op.Get key)) (step.Call m (op.Get other)) t = (refl, λ e. cc)
alike (step.Call n (op.Set key value)) (step.Call m (op.Set other more)) t = (refl, λ e. cc)
alike st (step.Call m (op.Get key)) t = cc
alike st (step.Call m (op.Set key value)) t = cc
alike (step.Call n (op.Get key)) su t = cc
alike (step.Call n (op.Set key value)) su t = cc
alike _ _ t = (cc, λ e. cc)

begin_alike : (st su : Step Weights) → word_of st ≡ word_of su → (forms_of st ≡ forms_of su) × (parts_of st ≡ parts_of su → st ≡ su)
begin_alike st su e = alike st su ((bytes_eq-Decides (word_of st) (word_of su)).1 e)

pub same_forms : (st su : Step Weights) → word_of st ≡ word_of su → forms_of st ≡ forms_of su
same_forms st su e = (begin_alike st su e).0

-- a step is known by its line
pub same_step : (st su : Step Weights) → IsStep st → IsStep su → step_line st ≡ step_line su → st ≡ su
same_step st su a b e =
    let words = same_words (step_line su) (step_words st) (step_words su) (subst (λ l. AreWords l (step_words st)) e (step_are_words st a)) (step_are_words su b) in
    let word : word_of st ≡ word_of su = cc in
    (begin_alike st su word).1 (same_parts (parts_of st) (parts_of su) a b (same_forms st su word) (cc))
