use Rattle.std.proofs.Common.{rules, ◌≡◌, [], ◌∷◌, ◌++◌, sym, ap, ◌∙◌, arith}
use Rattle.std.specs.Prelude.{if◌then◌else◌}
use Rattle.std.specs.List.{flat_map}
use Rattle.rambo_text.specs.Signs.{pairs_text}
use Rattle.rambo_text.proofs.Pairs.{eight_bytes}
use Rattle.rambo_text.proofs.digits.push_eight.Goals as goal

pub returns-clause-items : goal.returns-clause-items
returns-clause-items c =
    let old = c.args.out.now.items in
    let pairs : flat_map (λ x. x) (c.pair_of.result ∷ c.pair_of-2.result ∷ c.pair_of-3.result ∷ c.pair_of-4.result ∷ c.pair_of-5.result ∷ c.pair_of-6.result ∷ c.pair_of-7.result ∷ c.pair_of-8.result ∷ []) ≡ pairs_text c.args.bytes.now =
    (λ i. flat_map (λ x. x) (c.pair_of.ensures i ∷ c.pair_of-2.ensures i ∷ c.pair_of-3.ensures i ∷ c.pair_of-4.ensures i ∷ c.pair_of-5.ensures i ∷ c.pair_of-6.ensures i ∷ c.pair_of-7.ensures i ∷ c.pair_of-8.ensures i ∷ []))
    ∙ ap pairs_text (sym (eight_bytes c.args.bytes.now (search rules))) in
    c.extend_from_slice.ensures.items
    ∙ ap (λ t. if t then old ++ c.as_flattened.result.now else old) (c.extend_from_slice.ensures.succeeds (omega (arith, c.requires, c.as_flattened.ensures.len)))
    ∙ ap (λ xs. old ++ xs) (c.as_flattened.ensures.value ∙ pairs)
