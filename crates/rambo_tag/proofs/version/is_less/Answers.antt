use Rattle.std.proofs.Common.{◌∙◌, sym}
use Rattle.rambo_tag.specs.Tags.{value_lt}
use Rattle.rambo_tag.proofs.CopyOrder.{bytes_lt-cmp}
use Rattle.rambo_tag.proofs.version.is_less.Goals as goal

pub returns-in-Some-Some : goal.returns-in-Some-Some
returns-in-Some-Some c =
    c.lt.ensures ∙ bytes_lt-cmp c.in-Some-Some.a c.in-Some-Some.b
    ∙ (λ i. value_lt (sym c.in-Some-Some.is-0 i) (sym c.in-Some-Some.is-1 i))
