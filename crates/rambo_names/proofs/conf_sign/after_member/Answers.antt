use Rattle.std.proofs.Common.{◌≡◌, ◌≢◌, ◌++◌, List, ℕ, decimal, sym, ap, ◌∙◌, append_assoc}
use Rattle.std.specs.Prelude.{Option, None, Some, IfNone, ◌+◌}
use Rattle.std.proofs.lemmas.List.{append_cancel_left}
use Rattle.rambo_names.specs.Signs.{before, IsEnd, IsWeight, member_text, weight_text}
use Rattle.rambo_names.proofs.conf_sign.after_member.Goals as goal

-- behind the name stands the weight
weight_behind : (a d w text begun behind r : List ℕ) → text ≡ a ++ begun → begun ≡ d ++ behind → text ≡ a ++ (d ++ w) ++ r → behind ≡ w ++ r
weight_behind a d w text begun behind r e f g =
    append_cancel_left (a ++ d) behind (w ++ r)
    (append_assoc a d behind ∙ ap (λ l. a ++ l) (sym f) ∙ sym e ∙ g ∙ ap (λ l. l ++ r) (sym (append_assoc a d w)) ∙ append_assoc (a ++ d) w r)

-- what no weight stands behind is told of the whole
none_told : {T : Type 0} (o : Option T) {b : List ℕ} (P : ℕ → List ℕ → Type 0) → IfNone o ((w : ℕ) (r : List ℕ) → IsWeight w → IsEnd r → b ≢ weight_text w ++ r)
    → ((w : ℕ) (r : List ℕ) → P w r → b ≡ weight_text w ++ r) → IfNone o ((w : ℕ) (r : List ℕ) → IsWeight w → IsEnd r → P w r → ⊥)
none_told None P none back = λ w r weight end p. none w r weight end (back w r p)
none_told (Some x) P none back = tt

pub returns-clause-none : goal.returns-clause-none
returns-clause-none c =
    none_told c.after_weight.result (λ w r. c.args.text.now ≡ before c.args.first ++ member_text (c.args.place + 1) w ++ r) c.after_weight.ensures.none
    (λ w r. weight_behind (before c.args.first) (decimal (c.args.place + 1)) (weight_text w) c.args.text.now c.in-Some.begun.now c.in-Some-after_front.behind.now r c.in-Some.ensures.found
    (c.in-Some-after_front.ensures ∙ ap (λ l. l ++ c.in-Some-after_front.behind.now) (c.as_bytes.ensures.value ∙ c.format.ensures.text)))
