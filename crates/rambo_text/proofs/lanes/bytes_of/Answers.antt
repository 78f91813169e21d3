use Rattle.std.proofs.Common.{◌+◌, ◌*◌, sym, ap, subst, ◌∙◌, true≢false}
use Rattle.std.proofs.lemmas.List.Elements.{recursion_from_All}
use lib.Lanes.{zip2}
use Rattle.rambo_text.specs.Signs.{pairs_text, AreBytes}
use Rattle.rambo_text.proofs.Halves.{Low, made_bytes, spelt, unspelt}
use Rattle.rambo_text.proofs.lanes.bytes_of.Goals as goal

pub returns-then-are_below_16-clause-found : goal.returns-then-are_below_16-clause-found
returns-then-are_below_16-clause-found c =
    let highs = c.numbers-highs.ensures in
    let lows = c.numbers-lows.ensures in
    let low = c.are_below_16.ensures.0 c.if-are_below_16.true in
    let is = c.bytes.ensures ∙ (λ i. zip2 (λ h l. h * 16 + l) (highs i) (lows i)) in (
      subst AreBytes (sym c.bytes.ensures) (made_bytes _ _ low.0 low.1),
      c.parted.ensures.turned ∙ spelt _ _ c.parted.ensures.len (subst Low highs low.0) (subst Low lows low.1) ∙ ap pairs_text (sym is),
    )

pub returns-else-are_below_16-clause-none : goal.returns-else-are_below_16-clause-none
returns-else-are_below_16-clause-none c bs bytes is =
    let low = unspelt _ _ bs c.parted.ensures.len (recursion_from_All _ bs bytes) (sym c.parted.ensures.turned ∙ is) in
    true≢false (sym (c.are_below_16.ensures.1 (subst Low (sym c.numbers-highs.ensures) low.0, subst Low (sym c.numbers-lows.ensures) low.1)) ∙ c.if-are_below_16.false)
