use Rattle.std.proofs.Common.{◌++◌, sym, ap, ◌∙◌}
use Rattle.std.proofs.lemmas.Nat.{le_bytes_4}
use Rattle.rambo_text.proofs.Pairs.{front_and_rest, front_length}
use Rattle.rambo_check.proofs.Fronts.{front_fits}
use Rattle.rambo_check.proofs.front.behind_four.Goals as goal

pub returns-then-from_le_bytes-word : goal.returns-then-from_le_bytes-word
returns-then-from_le_bytes-word c =
    let parts = c.in_ok-four.ensures.cases in
    let bytes = le_bytes_4 c.in_ok-four.four.now c.args.word (front_length 4 _ _ _ parts.0 parts.2) (front_fits 4 _ _ parts.0 c.type_inv.text) (sym c.if-from_le_bytes-word.true ∙ c.from_le_bytes.ensures) in
    front_and_rest 4 _ _ _ parts.0 parts.1 ∙ ap (λ f. f ++ c.in_ok-four.more.now) (sym bytes)
