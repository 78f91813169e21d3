use Rattle.std.proofs.Common.{inr, inl, refl, rules, ap, sym, ◌∙◌}
use Rattle.rambo_names.specs.Names.{count_of}
use Rattle.rambo_text.proofs.WordsThere.{different, alike}
use Rattle.rambo_lines.proofs.Fitting.{other_word, founders_count, unfit_founders, no_founder}
use Rattle.rambo_lines.proofs.script.read_founders.Goals as goal

pub returns-then-ne-clause-fault : goal.returns-then-ne-clause-fault
returns-then-ne-clause-fault c = other_word _ _ _ c.if-line-gt-LINE_LIMIT.false c.next_word.ensures (different _ _ _ c.as_slice.ensures c.if-ne.ensures)

pub returns-in_err-conf-clause-fault : goal.returns-in_err-conf-clause-fault
returns-in_err-conf-clause-fault c =
    search (rules, founders_count _ _ _ _ c.if-line-gt-LINE_LIMIT.false c.next_word.ensures (alike _ _ _ c.as_slice.ensures c.if-ne.ensures) c.in_err-conf.ensures.fault.0 c.in_err-conf.ensures.fault.1)

pub returns-in_err-founders-clause-fault : goal.returns-in_err-founders-clause-fault
returns-in_err-founders-clause-fault c =
    search (rules, unfit_founders _ _ _ _ _ c.if-line-gt-LINE_LIMIT.false c.next_word.ensures (alike _ _ _ c.as_slice.ensures c.if-ne.ensures) c.in_ok-conf.ensures.found (inr (refl, inl c.in_err-founders.ensures.fault)))

pub returns-then-count-eq0-clause-fault : goal.returns-then-count-eq0-clause-fault
returns-then-count-eq0-clause-fault c =
    no_founder _ _ _ _ _ c.if-line-gt-LINE_LIMIT.false c.next_word.ensures (alike _ _ _ c.as_slice.ensures c.if-ne.ensures) c.in_ok-conf.ensures.found c.in_ok-founders.ensures.found.1 (ap count_of (sym c.members.ensures) ∙ sym c.count.ensures.count ∙ c.if-count-eq0.true)
