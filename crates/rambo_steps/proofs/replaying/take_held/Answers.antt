use Rattle.std.proofs.Common.{◌≡◌, ◌-◌, length, drop, subst, sym, ap, ◌∙◌}
use Rattle.rambo_atomic.specs.Unreads.{UnreadState}
use Rattle.rambo_text.specs.Words.{IsFirstLine}
use Rattle.rambo_check.proofs.UsedLines.{rest_of}
use Rattle.rambo_steps.proofs.replaying.take_held.Goals as goal

pub returns-clause-taken : goal.returns-clause-taken
returns-clause-taken g c =
    let taken = c.in_ok-rest.ensures.taken in
    let held = c.args.unread.now.held in
    let rest = c.in_ok-rest.rest.now in
    let first : IsFirstLine held taken.line rest = subst (λ h. IsFirstLine h taken.line rest) c.as_slice-held.ensures.held taken.is_first in
    let left : c.forget.new.self.held ≡ rest =
    ap (λ (u : UnreadState). u.held) c.forget.ensures ∙ ap (λ h. drop (length h - length rest) held) c.as_slice-held.ensures.held ∙ rest_of held taken.line rest first in
    record { line = taken.line; is_first = subst (IsFirstLine held taken.line) (sym left) first; takes = taken.takes }
