use Rattle.std.proofs.Common.{◌≡◌, ◌++◌, ℕ, List, ◌∷◌, Bool, map, append-nil, append_assoc, ap, sym, ◌∙◌}
use Rattle.rambo_names.specs.Signs.{behind_commas, member_text, before}
use Rattle.rambo_names.specs.Weights.{weight_of}
use Rattle.rambo_names.proofs.ConfTexts.{rest_text, rest_text-part}
use Rattle.rambo_names.proofs.conf_sign.append_conf.Goals as goal
use Rattle.rambo_names.proofs.conf_sign.append_conf.Goals.{then-not-first+in_ok-push, else-not-first}

-- one member more is written, behind a comma unless it is the first
one_more : (o m e d a : List ℕ) (b : Bool) (f : ℕ → List ℕ) (n : ℕ) (s ns : List ℕ) → s ≡ n ∷ ns → o ++ rest_text b (map f s) ≡ a → m ≡ o ++ before b → e ≡ m ++ d → d ≡ f n
    → e ++ behind_commas (map f ns) ≡ a
one_more o m e d a b f n s ns steps text mid end is =
    ap (λ x. x ++ behind_commas (map f ns)) (end ∙ (λ i. mid i ++ is i))
    ∙ append_assoc (o ++ before b) (f n) (behind_commas (map f ns)) ∙ append_assoc o (before b) (f n ++ behind_commas (map f ns))
    ∙ ap (λ x. o ++ x) (sym (append_assoc (before b) (f n) (behind_commas (map f ns))) ∙ sym (rest_text-part b (f n) (map f ns)))
    ∙ ap (λ x. o ++ rest_text b (map f x)) (sym steps) ∙ text

-- what is written is behind what was there
grown : (a f o x m : List ℕ) → o ≡ a ++ f → m ≡ o ++ x → m ≡ a ++ (f ++ x)
grown a f o x m h is = is ∙ ap (λ y. y ++ x) h ∙ append_assoc a f x

mid : (g : _) (c : goal.In_ok-append_member g) → c.if-not-first.out.items ≡ c.loop-name.out.items ++ before c.loop-name.first
mid g c = elim c.if-not-first.branch [
  | then-not-first+in_ok-push w ↦ ap (λ v. v.items) w.out-is ∙ w.in_ok-push.ensures.items ∙ ap (λ b. c.loop-name.out.items ++ before b) (sym w.if-not-first.true)
  | else-not-first w ↦ ap (λ v. v.items) w.out-is ∙ sym (append-nil c.loop-name.out.items) ∙ ap (λ b. c.loop-name.out.items ++ before b) (sym w.if-not-first.false)
]

pub loop-name-preserved : goal.loop-name-preserved
loop-name-preserved g c =
    let front = c.loop-name.invariant.front in
    let written = c.in_ok-append_member.ensures.ok in
    record {
      text = one_more c.loop-name.out.items c.if-not-first.out.items c.append_member.new.out.items (member_text c.in-Some.name c.weight.result) _ c.loop-name.first (λ n. member_text n (weight_of c.args.conf.now n)) c.in-Some.name c.loop-name.name-iterator c.next.new.self c.in-Some.ensures.steps c.loop-name.invariant.text (mid g c) written (ap (member_text c.in-Some.name) c.weight.ensures);
      front = ((front.0 ++ before c.loop-name.first) ++ member_text c.in-Some.name c.weight.result, grown c.args.out.now.items (front.0 ++ before c.loop-name.first) c.if-not-first.out.items (member_text c.in-Some.name c.weight.result) c.append_member.new.out.items (grown c.args.out.now.items front.0 c.loop-name.out.items (before c.loop-name.first) c.if-not-first.out.items front.1 (mid g c)) written);
    }
