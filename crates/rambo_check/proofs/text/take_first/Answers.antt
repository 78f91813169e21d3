use Rattle.std.proofs.Common.{◌≡◌, ◌-◌, length, drop, subst, sym, ap, ◌∙◌}
use Rattle.rambo_check.specs.Readings.{TakesLine}
use Rattle.rambo_check.proofs.UsedLines.{rest_of}
use Rattle.rambo_check.proofs.text.take_first.Goals as goal

pub returns-clause-taken : goal.returns-clause-taken
returns-clause-taken c =
    let held = c.args.unread.now.held in
    let rest = c.in_ok-rest.rest.now in
    let old = c.args.evidence.now in
    let new = c.take_front.new.evidence in
    let taken : TakesLine c.args.version held rest old new = subst (λ h. TakesLine c.args.version h rest old new) c.as_slice-held.ensures.held c.in_ok-rest.ensures.taken in
    let left : c.forget.new.self.held ≡ rest =
    ap (λ u. u.held) c.forget.ensures ∙ ap (λ h. drop (length h - length rest) held) c.as_slice-held.ensures.held ∙ rest_of held taken.line rest taken.first in
    subst (λ r. TakesLine c.args.version held r old new) (sym left) taken
