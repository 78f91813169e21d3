use Rattle.std.proofs.Common.{subst, sym}
use Rattle.rambo_steps.specs.Runs.{GivesUpBehind, IsOfWhole, FoundsNone}
use Rattle.rambo_steps.proofs.Pieces.{is_ready}
use Rattle.rambo_replay.proofs.Founding.{none_founded_there}
use Rattle.rambo_replay.proofs.replaying.founded.Goals as goal

pub returns-in-Ok-clause-line : goal.returns-in-Ok-clause-line
returns-in-Ok-clause-line g c = is_ready c.in_ok-find_line.field-0 c.find_line.new.self c.in_ok-find_line.ensures.line

pub returns-in-Err-clause-script : goal.returns-in-Err-clause-script
returns-in-Err-clause-script g c =
    let found = c.in_ok-find_line.ensures in
    let u = c.find_line.new.self in
    let first = g.R.Source.left c.args.reader.now in
    let bad = subst (λ h. FoundsNone c.args.version h c.in-Err.fault) c.as_slice.ensures.held c.in-Err.ensures.fault in
    λ fault is.
    subst (λ f. IsOfWhole (λ bytes. GivesUpBehind c.args.version bytes f) c.args.unread.now first) (sym (c.told_at_end.ensures.kept fault is))
    (none_founded_there c.args.version c.args.unread.now u first (g.R.Source.left c.find_line.new.reader) c.in-Err.fault found.bytes found.ended
    (is_ready c.in_ok-find_line.field-0 u found.line) found.knows bad)
