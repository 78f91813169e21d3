use Rattle.std.proofs.Common.{◌≡◌, ◌++◌, List, [], ◌∷◌, length, refl, sym, ap, ◌∙◌, arith}
use Rattle.std.proofs.lemmas.List.{append-nil}
use Rattle.rambo_post.proofs.post.Post.with_keepers.Goals as goal

nil_of : {A : Type 0} (xs : List A) → length xs ≡ 0 → xs ≡ []
nil_of [] e = refl
nil_of (x ∷ xs) e = absurd (omega arith)

pub invariant_of-result : goal.invariant_of-result
invariant_of-result g c =
    let none : c.loop-keeper.keeper-iterator.rest.items ≡ [] = nil_of c.loop-keeper.keeper-iterator.rest.items (sym c.loop-keeper.keeper-iterator.rest.ok.0 ∙ c.in-None.ensures.steps.0) in
    let passed : c.loop-keeper.yielded ≡ c.args.keepers.items = sym (append-nil c.loop-keeper.yielded) ∙ ap (λ l. c.loop-keeper.yielded ++ l) (sym none) ∙ c.loop-keeper.invariant.rest in
    record { names = c.loop-keeper.invariant.each ∙ ap length passed ∙ c.requires.many; boxes = c.requires.boxes }
