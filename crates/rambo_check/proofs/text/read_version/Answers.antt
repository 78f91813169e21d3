use Rattle.std.proofs.Common.{◌≡◌, ◌++◌, ap, subst, ◌∙◌}
use Rattle.std.specs.Bool.{MatchBool}
use Rattle.rambo_atomic.specs.Unreads.{UnreadState, TakesIn, HoldsLine, IsDone}
use Rattle.rambo_text.specs.declared.fault.ScriptFault.{ScriptFault}
use Rattle.rambo_check.specs.Texts.{IsHeadFault}
use Rattle.rambo_check.proofs.TextSteps.{taken_more, head_told, bad_head_told}
use Rattle.rambo_check.proofs.text.read_version.Goals as goal

pub returns-in-Ok-clause-head : goal.returns-in-Ok-clause-head
returns-in-Ok-clause-head g c =
    let found = c.in_ok-find_line.ensures in
    let u = c.find_line.new.self in
    let first = g.R.Source.left c.args.reader.now in
    let left = g.R.Source.left c.find_line.new.reader in
    let taken = subst (λ h. TakesIn first left h u.held) (ap (λ (w : UnreadState). w.held) c.requires) found.bytes in
    let holds : HoldsLine u = subst (λ b. MatchBool b (HoldsLine u) (IsDone u)) c.if-not-branch.false found.line in
    λ more is. (u.held ++ more, taken_more first left u.held more taken is.0, head_told c.in-Ok.version u c.take_head.new.unread more holds (λ e. is.1 (c.in-Ok.ensures.ended ∙ e)) c.in-Ok.ensures.taken)

pub returns-in_ok-read_rest-in-Err-clause-script : goal.returns-in_ok-read_rest-in-Err-clause-script
returns-in_ok-read_rest-in-Err-clause-script g c =
    let found = c.in_ok-find_line.ensures in
    let u = c.find_line.new.self in
    let first = g.R.Source.left c.args.reader.now in
    let left = g.R.Source.left c.find_line.new.reader in
    let taken = subst (λ h. TakesIn first left h u.held) (ap (λ (w : UnreadState). w.held) c.requires) found.bytes in
    let holds : HoldsLine u = subst (λ b. MatchBool b (HoldsLine u) (IsDone u)) c.if-not-branch.false found.line in
    let bad = c.in-Err.ensures.fault in
    let told = bad_head_told u first left bad.0 bad.1 c.in-Err.fault taken holds found.knows bad.2 bad.3 in
    λ f is.
    let this : ScriptFault = record { fault = c.in-Err.fault; line = 1 } in
    let same : this ≡ f = cc in (told.0, told.1, subst (IsHeadFault told.0) same told.2, c.in_ok-read_rest-in-Err.ensures.end)
