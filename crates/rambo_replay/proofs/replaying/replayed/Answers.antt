use Rattle.std.proofs.Common.{rules}
use Rattle.rambo_outcome.specs.Notes.{told_text}
use Rattle.rambo_steps.specs.Runs.{IsReplayBehind}
use Rattle.rambo_steps.proofs.Pieces.{whole_before}
use Rattle.rambo_replay.proofs.Founding.{replay_of, gives_up_where, gives_up_later}
use Rattle.rambo_replay.proofs.replaying.replayed.Goals as goal

pub returns-in_err-running-clause-script : goal.returns-in_err-running-clause-script
returns-in_err-running-clause-script g c =
    search (
      rules,
      gives_up_where c.in_ok-version.version (g.R.Source.left c.args.reader.now) (g.R.Source.left c.read_version.new.reader) c.read_version.new.unread c.in_err-running.field-0.0 c.in_ok-version.ensures.head
          c.in_err-running.ensures.script,
    )

pub returns-in_err-told-clause-script : goal.returns-in_err-told-clause-script
returns-in_err-told-clause-script g c =
    let now = c.in_ok-running.ensures in
    search (
      rules,
      gives_up_later c.in_ok-version.version (g.R.Source.left c.args.reader.now) (g.R.Source.left c.read_version.new.reader) (g.R.Source.left c.founded.new.reader) c.read_version.new.unread c.founded.new.unread
          c.in_err-told.field-0.0 c.in_ok-version.ensures.head now.held now.same c.in_err-told.ensures.script,
    )

pub returns-clause-ok : goal.returns-clause-ok
returns-clause-ok g c =
    let u = c.read_version.new.unread in
    let left = g.R.Source.left c.read_version.new.reader in
    let now = c.in_ok-running.ensures in
    let text = told_text c.run_through.new.running.state.history c.in_ok-told.told in
    replay_of c.in_ok-version.version (g.R.Source.left c.args.reader.now) left u text c.in_ok-version.ensures.head
    (whole_before (λ bytes. IsReplayBehind c.in_ok-version.version bytes text) u c.founded.new.unread left (g.R.Source.left c.founded.new.reader) now.held now.same c.in_ok-told.ensures.ok)
