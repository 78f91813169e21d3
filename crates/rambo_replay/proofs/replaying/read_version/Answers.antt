use Rattle.std.proofs.Common.{ℕ, List, subst, sym, ap}
use Rattle.rambo_atomic.specs.Unreads.{UnreadState, TakesIn}
use Rattle.rambo_check.specs.Checks.{IsLeft}
use Rattle.rambo_steps.specs.Replays.{GivesUp}
use Rattle.rambo_steps.proofs.Pieces.{is_ready}
use Rattle.rambo_replay.proofs.Founding.{head_told, bad_head}
use Rattle.rambo_replay.proofs.replaying.read_version.Goals as goal

pub returns-in-Ok-clause-head : goal.returns-in-Ok-clause-head
returns-in-Ok-clause-head g c =
    let found = c.in_ok-find_line.ensures in
    let u = c.find_line.new.self in
    let first = g.R.Source.left c.args.reader.now in
    let left = g.R.Source.left c.find_line.new.reader in
    let taken = subst (λ h. TakesIn first left h u.held) (ap (λ (w : UnreadState). w.held) c.requires) found.bytes in
    head_told c.in-Ok.version u c.take_head.new.unread first left taken (is_ready c.in_ok-find_line.field-0 u found.line) c.in-Ok.ensures.ended c.in-Ok.ensures.head

pub returns-in-Err-clause-script : goal.returns-in-Err-clause-script
returns-in-Err-clause-script g c =
    let found = c.in_ok-find_line.ensures in
    let u = c.find_line.new.self in
    let first = g.R.Source.left c.args.reader.now in
    let left = g.R.Source.left c.find_line.new.reader in
    let taken = subst (λ h. TakesIn first left h u.held) (ap (λ (w : UnreadState). w.held) c.requires) found.bytes in
    let bad = c.in-Err.ensures.fault in
    λ fault is.
    subst (λ f. (bytes : List ℕ) × IsLeft first bytes × GivesUp bytes f) (sym (c.told_at_end.ensures.kept fault is))
    (bad_head u first left c.in-Err.fault bad.0 taken (is_ready c.in_ok-find_line.field-0 u found.line) found.knows bad.1 bad.2)
