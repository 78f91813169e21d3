-- A text is that of one script, and has no fault then
use Rattle.std.proofs.Common.{◌≡◌, ◌≢◌, ℕ, List, [], ◌∷◌, ◌++◌, length, map, codes, inl, inr, refl, sym, ap, subst, ◌∙◌, arith, lit<, append_assoc}
use Rattle.std.specs.List.{AllByRecursion}
use Rattle.rambo_names.specs.Names.{count_of}
use Rattle.rambo_names.specs.Signs.{conf_text}
use Rattle.rambo_names.specs.Weights.{Weights, members_of}
use Rattle.rambo_names.proofs.ConfOnce.{one_conf_is}
use Rattle.rambo_names.proofs.ConfTexts.{text_none}
use Rattle.rambo_history.specs.declared.operation.Op.TheVariants as op
use Rattle.rambo_node.specs.Steps.{Step}
use Rattle.rambo_node.specs.declared.step.StepOf.TheVariants as step
use Rattle.rambo_text.specs.declared.fault.Fault.{Fault}
use Rattle.rambo_text.specs.declared.fault.ScriptFault.{ScriptFault}
use Rattle.rambo_text.specs.Forms.{Conf, IsBadWord}
use Rattle.rambo_text.specs.Words.{Lacks, AreWords, IsFirstLine}
use Rattle.rambo_text.proofs.FirstLines.{no_nothing, first_line_is}
use Rattle.rambo_text.proofs.SpeltWords.{not_bad, as_many}
use Rattle.rambo_text.proofs.WordSplits.{cut, same_words}
use Rattle.rambo_lines.specs.StepLines.{word_of, parts_of, forms_of, step_words, step_line, IsStep}
use Rattle.rambo_lines.specs.StepParts.{part_text}
use Rattle.rambo_lines.specs.Scripts.{ScriptState, HasLine, HasLines, AreFounders, IsTextOf, IsScript, founders_words, founders_line, steps_text, script_text}
use Rattle.rambo_lines.specs.Faults.{IsLineFault, TellNoStep, TellNoFounders, AreUnfit, IsScriptFault}
use Rattle.rambo_text.proofs.Plain.{lacks-conf, lacks-tested, lacks-words}
use Rattle.rambo_lines.proofs.StepShapes.{spelt, same_forms, step_are_words, step_lacks, same_step}

pub founders_are_words : (s : Weights) → AreWords (founders_line s) (founders_words s)
founders_are_words s = record { some = λ e. cc; no_space = (lacks-tested 32 (codes "founders") (lit< tt) refl, (lacks-conf 32 s (lit< tt), tt)); whole = refl }

pub founders_lack : (s : Weights) → Lacks 10 (founders_line s)
founders_lack s = lacks-words 10 (founders_words s) (λ e. cc) (lacks-tested 10 (codes "founders") (lit< tt) refl, (lacks-conf 10 s (lit< tt), tt))

same_steps : (xs ys : List (Step Weights)) → AllByRecursion HasLine xs → AllByRecursion HasLine ys
    → steps_text xs ≡ steps_text ys → xs ≡ ys
same_steps [] [] a b e = refl
same_steps [] (y ∷ ys) a b e = absurd (no_nothing (step_line y) (steps_text ys) e)
same_steps (x ∷ xs) [] a b e = absurd (no_nothing (step_line x) (steps_text xs) (sym e))
same_steps (x ∷ xs) (y ∷ ys) a b e =
    let parts = cut 10 (step_line x) (step_line y) (steps_text xs) (steps_text ys) (step_lacks x a.0.is_step) (step_lacks y b.0.is_step) e in
    (λ i. same_step x y a.0.is_step b.0.is_step parts.0 i ∷ same_steps xs ys a.1 b.1 parts.1 i)

word_there : (st : Step Weights) → word_of st ≡ [] → ⊥
word_there (step.Call n (op.Get key)) e = cc
word_there (step.Call n (op.Set key value)) e = cc
word_there _ e = cc

-- a line of a step isn't empty
not_empty : (y : Step Weights) → IsStep y → [] ≡ step_line y → ⊥
not_empty y is e =
    let words = same_words (step_line y) (step_words y) ([] ∷ []) (step_are_words y is) (record { some = λ n. cc; no_space = (tt, tt); whole = sym e }) in
    word_there y (cc)

no_line_more : (xs ys : List (Step Weights)) → AllByRecursion HasLine xs → AllByRecursion HasLine ys → steps_text xs ++ 10 ∷ [] ≡ steps_text ys → ⊥
no_line_more [] [] a b e = cc
no_line_more [] (y ∷ ys) a b e = not_empty y b.0.is_step (cut 10 [] (step_line y) [] (steps_text ys) tt (step_lacks y b.0.is_step) e).0
no_line_more (x ∷ xs) [] a b e =
    no_nothing (step_line x) (steps_text xs ++ 10 ∷ []) (sym e ∙ append_assoc (step_line x) (10 ∷ steps_text xs) (10 ∷ []))
no_line_more (x ∷ xs) (y ∷ ys) a b e =
    no_line_more xs ys a.1 b.1
    (cut 10 (step_line x) (step_line y) (steps_text xs ++ 10 ∷ []) (steps_text ys) (step_lacks x a.0.is_step) (step_lacks y b.0.is_step)
    (sym (append_assoc (step_line x) (10 ∷ steps_text xs) (10 ∷ [])) ∙ e)).1

same_text : (s t : ScriptState) → HasLines s → HasLines t → script_text s ≡ script_text t → s ≡ t
same_text s t a b e =
    let parts = cut 10 (founders_line s.founders) (founders_line t.founders) (steps_text s.steps) (steps_text t.steps) (founders_lack s.founders) (founders_lack t.founders) e in
    let words = same_words (founders_line t.founders) (founders_words s.founders) (founders_words t.founders)
    (subst (λ l. AreWords l (founders_words s.founders)) parts.0 (founders_are_words s.founders)) (founders_are_words t.founders) in
    let founders = one_conf_is s.founders t.founders a.founders.names b.founders.names (cc) in
    let steps = same_steps s.steps t.steps a.steps b.steps parts.1 in
    (λ i. record { founders = founders i; steps = steps i })

no_feed_more : (s t : ScriptState) → HasLines s → HasLines t → script_text s ++ 10 ∷ [] ≡ script_text t → ⊥
no_feed_more s t a b e =
    no_line_more s.steps t.steps a.steps b.steps
    (cut 10 (founders_line s.founders) (founders_line t.founders) (steps_text s.steps ++ 10 ∷ []) (steps_text t.steps) (founders_lack s.founders) (founders_lack t.founders)
    (sym (append_assoc (founders_line s.founders) (10 ∷ steps_text s.steps) (10 ∷ [])) ∙ e)).1

pub one_reading_is : (bytes : List ℕ) (s t : ScriptState) → IsScript bytes s → IsScript bytes t → s ≡ t
one_reading_is bytes s t a b = elim a.whole [
  | inl whole ↦ elim b.whole [
    | inl other ↦ same_text s t a.lines b.lines (sym whole ∙ other)
    | inr other ↦ absurd (no_feed_more s t a.lines b.lines (ap (λ x. x ++ 10 ∷ []) (sym whole) ∙ other))
  ]
  | inr whole ↦ elim b.whole [
    | inl other ↦ absurd (no_feed_more t s b.lines a.lines (ap (λ x. x ++ 10 ∷ []) (sym other) ∙ whole))
    | inr other ↦ same_text s t a.lines b.lines (sym whole ∙ other)
  ]
]

pub reads_back_is : (s : ScriptState) → HasLines s → IsScript (script_text s) s × ((t : ScriptState) → IsScript (script_text s) t → t ≡ s)
reads_back_is s lines =
    let is : IsScript (script_text s) s = record { lines = lines; whole = inl refl } in
    (is, λ t other. one_reading_is (script_text s) t s other is)

-- behind a first line that two texts have
tail_text : (l p behind m q bytes : List ℕ) → Lacks 10 l → Lacks 10 m → bytes ≡ (l ++ 10 ∷ p) ++ behind → IsTextOf bytes (m ++ 10 ∷ q) → IsTextOf (p ++ behind) q
tail_text l p behind m q bytes a b is text = elim text [
  | inl whole ↦ inl (cut 10 l m (p ++ behind) q a b (sym (append_assoc l (10 ∷ p) behind) ∙ sym is ∙ whole)).1
  | inr whole ↦ inr (cut 10 l m ((p ++ behind) ++ 10 ∷ []) q a b
      (sym (append_assoc l (10 ∷ (p ++ behind)) (10 ∷ [])) ∙ ap (λ x. x ++ 10 ∷ []) (sym (append_assoc l (10 ∷ p) behind) ∙ sym is) ∙ whole)).1
]

no_text : (bytes : List ℕ) → bytes ≢ [] → IsTextOf bytes [] → ⊥
no_text [] some text = some refl
no_text (b ∷ bs) some (inl e) = cc
no_text (b ∷ bs) some (inr e) = cc

not_nothing : (xs ys : List ℕ) → ys ≢ [] → xs ++ ys ≢ []
not_nothing [] ys some e = some e
not_nothing (x ∷ xs) ys some e = cc

-- a later line is that of a step
step_there : (xs ys : List (Step Weights)) (bytes behind line rest : List ℕ) → AllByRecursion HasLine xs → AllByRecursion HasLine ys → bytes ≡ steps_text xs ++ behind
    → IsTextOf bytes (steps_text ys) → behind ≢ [] → IsFirstLine behind line rest → (st : Step Weights) × HasLine st × (line ≡ step_line st)
step_there xs [] bytes behind line rest a b is text some first =
    absurd (no_text bytes (λ none. not_nothing (steps_text xs) behind some (sym is ∙ none)) text)
step_there [] (y ∷ ys) bytes behind line rest a b is text some first =
    (y, b.0, first_line_is (step_line y) (steps_text ys) behind line rest (step_lacks y b.0.is_step) (subst (λ x. IsTextOf x (steps_text (y ∷ ys))) is text) first)
step_there (x ∷ xs) (y ∷ ys) bytes behind line rest a b is text some first =
    step_there xs ys (steps_text xs ++ behind) behind line rest a.1 b.1 refl
    (tail_text (step_line x) (steps_text xs) behind (step_line y) (steps_text ys) bytes (step_lacks x a.0.is_step) (step_lacks y b.0.is_step) is text) some first

founders_fit : (s : Weights) (f : Fault) (others : List (List ℕ)) → others ≡ conf_text s ∷ [] → AreUnfit (Conf ∷ []) others f → ⊥
founders_fit s f others same (inl many) = many.0 (ap length same)
founders_fit s f others same (inr bad) = not_bad (Conf ∷ []) (conf_text s ∷ []) f ((s, refl), tt) (subst (λ o. IsBadWord (Conf ∷ []) o f) same bad.1)

founders_told : (s : Weights) (f : Fault) (words : List (List ℕ)) → AreFounders s → words ≡ founders_words s → TellNoFounders words f → ⊥
founders_told s f words are same (inl other) = other.0 (conf_text s ∷ []) same
founders_told s f words are same (inr (inl unfit)) =
    let others : unfit.0 ≡ conf_text s ∷ [] = (let both = sym unfit.1 ∙ same in cc) in
    founders_fit s f unfit.0 others unfit.2
founders_told s f words are same (inr (inr none)) =
    let some = are.some in
    let zero_of : count_of (members_of s) ≡ 0 = text_none s (let both = sym same ∙ none.0 in cc) in omega arith

pub good_founders : (s : Weights) (f : Fault) → AreFounders s → IsLineFault TellNoFounders (founders_line s) f → ⊥
good_founders s f are (inl long) = let some = long.0 in let short = are.short in omega arith
good_founders s f are (inr fault) =
    founders_told s f fault.1.0 are (same_words (founders_line s) fault.1.0 (founders_words s) fault.1.1 (founders_are_words s)) fault.1.2

step_fit : (st su : Step Weights) (f : Fault) (others : List (List ℕ)) → IsStep st → forms_of su ≡ forms_of st → others ≡ map part_text (parts_of st) → AreUnfit (forms_of su) others f → ⊥
step_fit st su f others is forms same (inl many) =
    many.0 (ap length same ∙ as_many (forms_of st) (map part_text (parts_of st)) (spelt (parts_of st) is) ∙ ap length (sym forms))
step_fit st su f others is forms same (inr bad) =
    not_bad (forms_of st) (map part_text (parts_of st)) f (spelt (parts_of st) is)
    (subst (λ ms. IsBadWord ms (map part_text (parts_of st)) f) forms (subst (λ o. IsBadWord (forms_of su) o f) same bad.1))

step_told : (st : Step Weights) (f : Fault) (words : List (List ℕ)) → IsStep st → words ≡ step_words st → TellNoStep words f → ⊥
step_told st f words is same (inl none) = none.0 st (map part_text (parts_of st)) same
step_told st f words is same (inr unfit) =
    let both = sym unfit.2 ∙ same in
    step_fit st unfit.0 f unfit.1 is (same_forms unfit.0 st (cc)) (cc) unfit.3

pub good_step : (st : Step Weights) (f : Fault) → HasLine st → IsLineFault TellNoStep (step_line st) f → ⊥
good_step st f has (inl long) = let some = long.0 in let short = has.short in omega arith
good_step st f has (inr fault) = step_told st f fault.1.0 has.is_step (same_words (step_line st) fault.1.0 (step_words st) fault.1.1 (step_are_words st has.is_step)) fault.1.2

pub no_fault_is : (bytes : List ℕ) (s : ScriptState) (f : ScriptFault) → IsScript bytes s → ¬ (IsScriptFault bytes f)
no_fault_is bytes s f is (inl first) =
    let line = first_line_is (founders_line s.founders) (steps_text s.steps) bytes first.line first.rest (founders_lack s.founders) is.whole first.is_first in
    good_founders s.founders f.fault is.lines.founders (subst (λ l. IsLineFault TellNoFounders l f.fault) line first.fault)
no_fault_is bytes s f is (inr later) =
    let next = later.is_next in
    let before = next.before in
    let text = tail_text (founders_line before.founders) (steps_text before.steps) next.behind (founders_line s.founders) (steps_text s.steps) bytes
    (founders_lack before.founders) (founders_lack s.founders) next.whole is.whole in
    let there = step_there before.steps s.steps (steps_text before.steps ++ next.behind) next.behind later.line next.rest next.lines.steps is.lines.steps refl text next.some next.is_first in
    good_step there.0 f.fault there.1 (subst (λ l. IsLineFault TellNoStep l f.fault) there.2 later.fault)
