use Rattle.std.proofs.Common.{◌++◌, length, sym, ap, ◌∙◌, arith}
use Rattle.rambo_text.specs.Signs.{pairs_text}
use Rattle.rambo_text.proofs.Pairs.{hex_is}
use Rattle.rambo_text.proofs.reading.leading_hex.Goals as goal

pub returns-clause-found : goal.returns-clause-found
returns-clause-found c =
    let front = c.short_front-length.ensures in
    front.whole ∙ ap (λ t. t ++ c.short_front-length.result.1.now) (ap pairs_text (sym c.short.ensures) ∙ sym (hex_is _ (let long = ap length c.short.ensures in omega (arith, front.few.1, long, c.if-length-eq0.false))))
