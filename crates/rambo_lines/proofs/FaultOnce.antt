-- A text has one fault at most
use Rattle.std.proofs.Common.{◌≡◌, ℕ, suc, ◌+◌, List, [], ◌∷◌, ◌++◌, length, codes, inl, inr, refl, sym, ap, subst, ◌∙◌, arith, append_assoc}
use Rattle.std.specs.List.{AllByRecursion}
use Rattle.std.specs.FinSet.{empty}
use Rattle.rambo_names.specs.Weights.{Weights, evenly}
use Rattle.rambo_names.proofs.ConfTexts.{empty_text}
use Rattle.rambo_node.specs.Steps.{Step}
use Rattle.rambo_text.specs.declared.fault.Fault.{Fault}
use Rattle.rambo_text.specs.declared.fault.ScriptFault.{ScriptFault}
use Rattle.rambo_text.specs.Forms.{Form, Conf, IsBadWord}
use Rattle.rambo_text.specs.Words.{IsFirstLine}
use Rattle.rambo_text.proofs.FirstLines.{first_line_is}
use Rattle.rambo_text.proofs.Heads.{same_lines}
use Rattle.rambo_text.proofs.SpeltWords.{not_bad, same_bad_word}
use Rattle.rambo_text.proofs.WordSplits.{cut, same_words}
use Rattle.rambo_lines.specs.StepLines.{forms_of, step_line}
use Rattle.rambo_lines.specs.Scripts.{HasLine, founders_line, steps_text}
use Rattle.rambo_lines.specs.Faults.{AreUnfit, IsLineFault, TellNoStep, TellNoFounders, IsScriptFault, IsFirstFault, IsLaterFault}
use Rattle.rambo_lines.proofs.StepShapes.{same_forms, step_lacks}
use Rattle.rambo_lines.proofs.Texts.{founders_lack, good_founders, good_step}

same_unfit : (ms : List Form) (ws : List (List ℕ)) (f g : Fault) → AreUnfit ms ws f → AreUnfit ms ws g → f ≡ g
same_unfit ms ws f g (inl a) (inl b) = a.1 ∙ sym b.1
same_unfit ms ws f g (inl a) (inr b) = absurd (a.0 b.0)
same_unfit ms ws f g (inr a) (inl b) = absurd (b.0 a.0)
same_unfit ms ws f g (inr a) (inr b) = same_bad_word ms ws f g a.1 b.1

-- what words that are no step are told to be
no_step_once : (words : List (List ℕ)) (f g : Fault) → TellNoStep words f → TellNoStep words g → f ≡ g
no_step_once words f g (inl a) (inl b) = a.1 ∙ sym b.1
no_step_once words f g (inl a) (inr b) = absurd (a.0 b.0 b.1 b.2)
no_step_once words f g (inr a) (inl b) = absurd (b.0 a.0 a.1 a.2)
no_step_once words f g (inr a) (inr b) =
    let both = sym b.2 ∙ a.2 in
    let others : b.1 ≡ a.1 = cc in
    same_unfit (forms_of a.0) a.1 f g a.3 (subst (λ ms. AreUnfit ms a.1 g) (same_forms b.0 a.0 (cc)) (subst (λ o. AreUnfit (forms_of b.0) o g) others b.3))

dash_fits : (others : List (List ℕ)) (f : Fault) → others ≡ codes "-" ∷ [] → AreUnfit (Conf ∷ []) others f → ⊥
dash_fits others f is (inl many) = many.0 (ap length is)
dash_fits others f is (inr bad) =
    not_bad (Conf ∷ []) (codes "-" ∷ []) f ((evenly empty, sym empty_text), tt) (subst (λ o. IsBadWord (Conf ∷ []) o f) is bad.1)

-- what words that are no founders are told to be
no_founders_once : (words : List (List ℕ)) (f g : Fault) → TellNoFounders words f → TellNoFounders words g → f ≡ g
no_founders_once words f g (inl a) (inl b) = a.1 ∙ sym b.1
no_founders_once words f g (inl a) (inr (inl b)) = absurd (a.0 b.0 b.1)
no_founders_once words f g (inl a) (inr (inr b)) = absurd (a.0 (codes "-" ∷ []) b.0)
no_founders_once words f g (inr (inl a)) (inl b) = absurd (b.0 a.0 a.1)
no_founders_once words f g (inr (inl a)) (inr (inl b)) =
    let both = sym b.1 ∙ a.1 in
    let others : b.0 ≡ a.0 = cc in
    same_unfit (Conf ∷ []) a.0 f g a.2 (subst (λ o. AreUnfit (Conf ∷ []) o g) others b.2)
no_founders_once words f g (inr (inl a)) (inr (inr b)) = absurd (let both = sym a.1 ∙ b.0 in dash_fits a.0 f (cc) a.2)
no_founders_once words f g (inr (inr a)) (inl b) = absurd (b.0 (codes "-" ∷ []) a.0)
no_founders_once words f g (inr (inr a)) (inr (inl b)) = absurd (let both = sym b.1 ∙ a.0 in dash_fits b.0 g (cc) b.2)
no_founders_once words f g (inr (inr a)) (inr (inr b)) = a.1 ∙ sym b.1

-- of a line
pub line_once : (Tell : List (List ℕ) → Fault → Type 0) → ((words : List (List ℕ)) (f g : Fault) → Tell words f → Tell words g → f ≡ g)
    → (line : List ℕ) (f g : Fault) → IsLineFault Tell line f → IsLineFault Tell line g → f ≡ g
line_once Tell once line f g (inl a) (inl b) = a.1 ∙ sym b.1
line_once Tell once line f g (inl a) (inr b) = absurd (let long = a.0 in let short = b.0 in omega arith)
line_once Tell once line f g (inr a) (inl b) = absurd (let long = b.0 in let short = a.0 in omega arith)
line_once Tell once line f g (inr a) (inr b) =
    once a.1.0 f g a.1.2 (subst (λ ws. Tell ws g) (same_words line b.1.0 a.1.0 b.1.1 a.1.1) b.1.2)

-- the line behind some lines that have no fault
front_line : (y : Step Weights) (ys : List (Step Weights)) (behind text line rest : List ℕ) → HasLine y → text ≡ steps_text (y ∷ ys) ++ behind → IsFirstLine text line rest → line ≡ step_line y
front_line y ys behind text line rest has is first =
    first_line_is (step_line y) (steps_text ys ++ behind) text line rest (step_lacks y has.is_step) (inl (is ∙ append_assoc (step_line y) (10 ∷ steps_text ys) behind)) first

same_place : (xs ys : List (Step Weights)) (b c l r m s : List ℕ) (f g : Fault) → AllByRecursion HasLine xs → AllByRecursion HasLine ys → steps_text xs ++ b ≡ steps_text ys ++ c
    → IsFirstLine b l r → IsFirstLine c m s → IsLineFault TellNoStep l f → IsLineFault TellNoStep m g → (l ≡ m) × (length xs ≡ length ys)
same_place [] [] b c l r m s f g p q e first other a d = ((same_lines c l r m s (subst (λ t. IsFirstLine t l r) e first) other).0, refl)
same_place [] (y ∷ ys) b c l r m s f g p q e first other a d =
    absurd (good_step y f q.0 (subst (λ t. IsLineFault TellNoStep t f) (front_line y ys c b l r q.0 e first) a))
same_place (x ∷ xs) [] b c l r m s f g p q e first other a d =
    absurd (good_step x g p.0 (subst (λ t. IsLineFault TellNoStep t g) (front_line x xs b c m s p.0 (sym e) other) d))
same_place (x ∷ xs) (y ∷ ys) b c l r m s f g p q e first other a d =
    let tails = cut 10 (step_line x) (step_line y) (steps_text xs ++ b) (steps_text ys ++ c) (step_lacks x p.0.is_step) (step_lacks y q.0.is_step)
    (sym (append_assoc (step_line x) (10 ∷ steps_text xs) b) ∙ e ∙ append_assoc (step_line y) (10 ∷ steps_text ys) c) in
    let rest = same_place xs ys b c l r m s f g p.1 q.1 tails.1 first other a d in
    (rest.0, ap (λ n. suc n) rest.1)

both_first : (bytes : List ℕ) (f g : ScriptFault) → IsFirstFault bytes f → IsFirstFault bytes g → f ≡ g
both_first bytes f g a b =
    let line = (same_lines bytes b.line b.rest a.line a.rest b.is_first a.is_first).0 in
    let fault = line_once TellNoFounders no_founders_once a.line f.fault g.fault a.fault (subst (λ l. IsLineFault TellNoFounders l g.fault) line b.fault) in
    let number = a.number ∙ sym b.number in
    (λ i. record { fault = fault i; line = number i })

first_or_later : (bytes : List ℕ) (f g : ScriptFault) → IsFirstFault bytes f → IsLaterFault bytes g → ⊥
first_or_later bytes f g a b =
    let before = b.is_next.before in
    let line = first_line_is (founders_line before.founders) (steps_text before.steps ++ b.is_next.behind) bytes a.line a.rest (founders_lack before.founders)
    (inl (b.is_next.whole ∙ append_assoc (founders_line before.founders) (10 ∷ steps_text before.steps) b.is_next.behind)) a.is_first in
    good_founders before.founders f.fault b.is_next.lines.founders (subst (λ l. IsLineFault TellNoFounders l f.fault) line a.fault)

both_later : (bytes : List ℕ) (f g : ScriptFault) → IsLaterFault bytes f → IsLaterFault bytes g → f ≡ g
both_later bytes f g a b =
    let x = a.is_next in
    let y = b.is_next in
    let tails = cut 10 (founders_line x.before.founders) (founders_line y.before.founders) (steps_text x.before.steps ++ x.behind) (steps_text y.before.steps ++ y.behind)
    (founders_lack x.before.founders) (founders_lack y.before.founders)
    (sym (append_assoc (founders_line x.before.founders) (10 ∷ steps_text x.before.steps) x.behind) ∙ sym x.whole ∙ y.whole
    ∙ append_assoc (founders_line y.before.founders) (10 ∷ steps_text y.before.steps) y.behind) in
    let place = same_place x.before.steps y.before.steps x.behind y.behind a.line x.rest b.line y.rest f.fault g.fault x.lines.steps y.lines.steps tails.1 x.is_first y.is_first a.fault b.fault in
    let fault = line_once TellNoStep no_step_once b.line f.fault g.fault (subst (λ l. IsLineFault TellNoStep l f.fault) place.0 a.fault) b.fault in
    let number = x.number_is ∙ ap (λ n. n + 2) place.1 ∙ sym y.number_is in
    (λ i. record { fault = fault i; line = number i })

pub one_fault_is : (bytes : List ℕ) (f g : ScriptFault) → IsScriptFault bytes f → IsScriptFault bytes g → f ≡ g
one_fault_is bytes f g (inl a) (inl b) = both_first bytes f g a b
one_fault_is bytes f g (inl a) (inr b) = absurd (first_or_later bytes f g a b)
one_fault_is bytes f g (inr a) (inl b) = absurd (first_or_later bytes g f b a)
one_fault_is bytes f g (inr a) (inr b) = both_later bytes f g a b
