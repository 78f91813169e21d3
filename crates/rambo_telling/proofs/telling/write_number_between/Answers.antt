use Rattle.std.proofs.Common.{◌++◌, [], ap, append-nil, decimal, refl, rules, sym}
use Rattle.rambo_telling.proofs.Told.{breaks_next, takes_next}
use Rattle.rambo_telling.proofs.Untouched.{takes_nothing}
use Rattle.rambo_telling.proofs.telling.write_number_between.Goals as goal

pub returns-in_err-write_number-clause-err : goal.returns-in_err-write_number-clause-err
returns-in_err-write_number-clause-err g c =
    let front = c.args.before.now ++ decimal c.args.number in
    let stopped = c.in_err-write_number.ensures.err in
    search (rules, breaks_next g.E.Sink.taken g.E.Sink.failures _ [] front c.args.behind.now _ _ _ _ refl (takes_nothing g.E.Sink.taken g.E.Sink.failures _) refl stopped.taken stopped.failed)

pub returns-in_err-write_all-clause-err : goal.returns-in_err-write_all-clause-err
returns-in_err-write_all-clause-err g c =
    let front = c.args.before.now ++ decimal c.args.number in
    search (
      rules,
      breaks_next g.E.Sink.taken g.E.Sink.failures _ front c.args.behind.now [] _ _ _ _ (ap (λ r. front ++ r) (sym (append-nil c.args.behind.now)))
          c.in_ok-write_number.ensures.ok c.as_bytes.ensures.value c.in_err-write_all.ensures.err c.in_err-write_all.ensures.fault.1,
    )

pub returns-clause-ok : goal.returns-clause-ok
returns-clause-ok g c =
    takes_next g.E.Sink.taken g.E.Sink.failures _ c.args.behind.now _ _ _ _ c.in_ok-write_number.ensures.ok c.as_bytes.ensures.value
    c.in_ok-write_all.ensures.ok c.in_ok-write_all.ensures.fine
