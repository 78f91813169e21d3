use Rattle.std.proofs.Common.{◌+◌, length, ap, sym, subst}
use Rattle.rambo_telling.specs.Telling.{Tells, resumed_line, stream}
use Rattle.rambo_lasting.specs.Resumings.{TellsCut}
use Rattle.rambo_lasting.proofs.GoingOn.{cut_told, nothing_told, uncut_told}
use Rattle.rambo_lasting.proofs.resuming.announce.Goals.{then-read-gt0, else-read-gt0}
use Rattle.rambo_lasting.proofs.resuming.announce.Goals as goal

pub returns : goal.returns
returns g c = λ steps torn is. (
  c.if-read-gt0.errors,
  c.tell_resumed.new.errors,
  elim c.if-read-gt0.branch [
    | then-read-gt0 w ↦ subst (λ e. TellsCut torn (length steps + 3) (stream g.E.Sink.taken g.E.Sink.failures c.args.errors.now e)) (sym w.errors-is)
        (cut_told torn c.args.read.now.torn (length steps + 3) (c.args.read.now.steps + 3) _ (ap (λ r. r.torn) is) (ap (λ r. r.steps + 3) is) w.if-read-gt0.true w.tell_torn.ensures.line)
    | else-read-gt0 w ↦ subst (λ e. TellsCut torn (length steps + 3) (stream g.E.Sink.taken g.E.Sink.failures c.args.errors.now e)) (sym w.errors-is)
        (uncut_told torn c.args.read.now.torn (length steps + 3) _ (ap (λ r. r.torn) is) w.if-read-gt0.false (nothing_told g.E.Sink.taken g.E.Sink.failures c.args.errors.now))
  ],
  subst (λ n. Tells (resumed_line n) (stream g.E.Sink.taken g.E.Sink.failures c.if-read-gt0.errors c.tell_resumed.new.errors)) (ap (λ r. r.steps) is) c.tell_resumed.ensures.line,
  c.tell_listening.ensures.line,
)
