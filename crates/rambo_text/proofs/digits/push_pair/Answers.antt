use Rattle.std.proofs.Common.{◌+◌, ◌%◌, ◌++◌, ◌∷◌, [], ◌∙◌, append_assoc}
use Rattle.rambo_text.proofs.Decimals.{PAIRS_at}
use Rattle.rambo_text.proofs.digits.push_pair.Goals as goal

pub returns-clause-items : goal.returns-clause-items
returns-clause-items c =
    let held = PAIRS_at c.args.number c.requires.low in
    c.push_reserved-2.ensures.items
    ∙ (λ i. c.push_reserved.ensures.items i ++ held.1 i ∷ [])
    ∙ append_assoc c.args.out.now.items (_ ∷ []) (_ ∷ [])
    ∙ (λ i. c.args.out.now.items ++ held.0 i ∷ (48 + c.args.number % 10) ∷ [])
