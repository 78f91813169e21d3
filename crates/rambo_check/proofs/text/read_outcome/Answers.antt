use Rattle.std.proofs.Common.{rules}
use Rattle.rambo_check.proofs.TextSteps.{told_in, fault_in}
use Rattle.rambo_check.proofs.text.read_outcome.Goals as goal

pub returns-in_err-read_behind-clause-script : goal.returns-in_err-read_behind-clause-script
returns-in_err-read_behind-clause-script g c =
    search (
      rules,
      fault_in (g.R.Source.left c.args.reader.now) (g.R.Source.left c.read_version.new.reader) c.in_ok-version.version c.read_version.new.unread c.in_ok-version.ensures.head
          (g.R.Source.left c.read_behind.new.reader) c.in_err-read_behind.field-0.0 c.in_err-read_behind.ensures.script,
    )

pub returns-clause-told : goal.returns-clause-told
returns-clause-told g c =
    told_in (g.R.Source.left c.args.reader.now) (g.R.Source.left c.read_version.new.reader) c.in_ok-version.version c.read_version.new.unread c.in_ok-version.ensures.head
    c.read_behind.new.evidence c.in_ok-read_behind.ensures.told
