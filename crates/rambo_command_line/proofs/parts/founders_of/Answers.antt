use Rattle.std.proofs.Common.{inl, ap, sym, ◌∙◌}
use Rattle.rambo_names.specs.Names.{count_of}
use Rattle.rambo_names.proofs.ConfTexts.{none_text}
use Rattle.rambo_command_line.proofs.parts.founders_of.Goals as goal

pub returns-then-count-eq0 : goal.returns-then-count-eq0
returns-then-count-eq0 c =
    inl (sym c.as_bytes.ensures.value ∙ c.in_ok-founders.ensures.found ∙ none_text c.in_ok-founders.founders (ap count_of (sym c.members.ensures) ∙ sym c.count.ensures.count ∙ c.if-count-eq0.true))
