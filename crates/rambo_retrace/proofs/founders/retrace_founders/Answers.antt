use Rattle.std.proofs.Common.{◌≡◌, ◌++◌, inr, ap, subst, sym}
use Rattle.rambo_names.proofs.Errors.{err_kept}
use Rattle.rambo_atomic.specs.Unreads.{UnreadState, TakesIn}
use Rattle.rambo_text.specs.declared.fault.ScriptFault.{ScriptFault}
use Rattle.rambo_text.specs.declared.version.Version.TheVariants.{Two}
use Rattle.rambo_text.specs.Versions.{head_text}
use Rattle.rambo_retrace.specs.declared.fault.RetraceFault.{RetraceFault}
use Rattle.rambo_retrace.specs.declared.fault.RetraceFault.TheVariants.{Script}
use Rattle.rambo_retrace.specs.Retraces.{FoundsNone, IsUnrefused, TellsNone}
use Rattle.rambo_retrace.proofs.Heads.{stream_unrefused, so_of_each, so_of_one, whole_or_end, version_read, founders_read}
use Rattle.rambo_retrace.proofs.founders.retrace_founders.Goals as goal

pub returns-in_err-find_line-clause-unrefused : goal.returns-in_err-find_line-clause-unrefused
returns-in_err-find_line-clause-unrefused g c = err_kept c.from_residual.result IsUnrefused _ c.from_residual.ensures.1 (stream_unrefused c.in_err-find_line.field-0.0)

pub returns-in_err-head-clause-unrefused : goal.returns-in_err-head-clause-unrefused
returns-in_err-head-clause-unrefused g c = err_kept c.from_residual-in_err-head.result IsUnrefused _ c.from_residual-in_err-head.ensures.1 tt

pub returns-in_err-find_line-2-clause-unrefused : goal.returns-in_err-find_line-2-clause-unrefused
returns-in_err-find_line-2-clause-unrefused g c = err_kept c.from_residual-in_err-find_line-2.result IsUnrefused _ c.from_residual-in_err-find_line-2.ensures.1 (stream_unrefused c.in_err-find_line-2.field-0.0)

pub returns-in_err-founders-clause-unrefused : goal.returns-in_err-founders-clause-unrefused
returns-in_err-founders-clause-unrefused g c = err_kept c.from_residual-in_err-founders.result IsUnrefused _ c.from_residual-in_err-founders.ensures.1 tt

pub returns-in_err-head-clause-whole : goal.returns-in_err-head-clause-whole
returns-in_err-head-clause-whole g c =
    let found = c.in_ok-find_line.ensures in
    so_of_each c.from_residual-in_err-head.result _ (whole_or_end c.in_ok-find_line.field-0 c.find_line.new.self c.forget_head.new.unread (g.S.Source.left c.find_line.new.reader) found.line found.knows c.in_err-head.ensures.kept)

pub returns-in_err-founders-clause-whole : goal.returns-in_err-founders-clause-whole
returns-in_err-founders-clause-whole g c =
    let found = c.in_ok-find_line-2.ensures in
    so_of_each c.from_residual-in_err-founders.result _ (whole_or_end c.in_ok-find_line-2.field-0 c.find_line-2.new.self c.take_founders.new.unread (g.S.Source.left c.find_line-2.new.reader) found.line found.knows c.in_err-founders.ensures.kept)

pub returns-in_err-founders-clause-script : goal.returns-in_err-founders-clause-script
returns-in_err-founders-clause-script g c =
    let first = g.S.Source.left c.args.reader.now in
    let last = g.S.Source.left c.find_line-2.new.reader in
    let before = c.args.unread.now.held in
    let bad = c.in_err-founders.field-0.0 in
    let after = c.take_founders.new.unread.held in
    let kept : after ≡ c.find_line-2.new.self.held = ap (λ (u : UnreadState). u.held) c.in_err-founders.ensures.kept in
    let read = version_read _ _ _ _ _ _ _ c.in_ok-find_line.ensures.bytes c.in_ok-head.ensures.head c.in_ok-find_line-2.ensures.bytes in
    let why = c.in_err-founders.ensures.fault in
    let told : TellsNone first last before after bad =
    inr (why.0, subst (λ h. TakesIn first last before (head_text Two ++ h)) (sym kept) read, subst (λ h. FoundsNone h bad.fault) (sym kept) why.1) in
    err_kept c.from_residual-in_err-founders.result (λ (f : RetraceFault). (h : ScriptFault) → f ≡ Script h → TellsNone first last before after h) _ c.from_residual-in_err-founders.ensures.1
    (so_of_one (TellsNone first last before after) bad told)

pub returns-clause-head : goal.returns-clause-head
returns-clause-head g c =
    let read = version_read _ _ _ _ _ _ _ c.in_ok-find_line.ensures.bytes c.in_ok-head.ensures.head c.in_ok-find_line-2.ensures.bytes in
    founders_read _ _ _ _ _ _ read c.in_ok-founders.ensures.founders.1
