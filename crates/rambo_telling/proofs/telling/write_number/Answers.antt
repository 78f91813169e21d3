use Rattle.std.proofs.Common.{◌≡◌, ◌++◌, [], ap, append-nil, decimal, refl, rules, sym, ◌∙◌}
use Rattle.rambo_telling.proofs.Told.{breaks_next, takes_first, takes_next}
use Rattle.rambo_telling.proofs.Untouched.{takes_nothing}
use Rattle.rambo_telling.proofs.telling.write_number.Goals as goal

pub returns-in_err-write_all-clause-err : goal.returns-in_err-write_all-clause-err
returns-in_err-write_all-clause-err g c =
    search (
      rules,
      breaks_next g.E.Sink.taken g.E.Sink.failures _ [] c.args.before.now (decimal c.args.number) _ _ _ _ refl (takes_nothing g.E.Sink.taken g.E.Sink.failures _)
          c.as_bytes.ensures.value c.in_err-write_all.ensures.err c.in_err-write_all.ensures.fault.1,
    )

pub returns-in_err-write_all-2-clause-err : goal.returns-in_err-write_all-2-clause-err
returns-in_err-write_all-2-clause-err g c =
    let n = decimal c.args.number in
    let number : c.as_bytes-2.result.now ≡ n = c.as_bytes-2.ensures.value ∙ c.format.ensures.text in
    let before = takes_first g.E.Sink.taken g.E.Sink.failures c.args.before.now _ _ _ c.as_bytes.ensures.value c.in_ok-write_all.ensures.ok c.in_ok-write_all.ensures.fine in
    search (
      rules,
      breaks_next g.E.Sink.taken g.E.Sink.failures _ c.args.before.now n [] _ _ _ _ (ap (λ r. c.args.before.now ++ r) (sym (append-nil n))) before number
          c.in_err-write_all-2.ensures.err c.in_err-write_all-2.ensures.fault.1,
    )

pub returns-clause-ok : goal.returns-clause-ok
returns-clause-ok g c =
    let number : c.as_bytes-2.result.now ≡ decimal c.args.number = c.as_bytes-2.ensures.value ∙ c.format.ensures.text in
    let before = takes_first g.E.Sink.taken g.E.Sink.failures c.args.before.now _ _ _ c.as_bytes.ensures.value c.in_ok-write_all.ensures.ok c.in_ok-write_all.ensures.fine in
    takes_next g.E.Sink.taken g.E.Sink.failures _ (decimal c.args.number) _ _ _ _ before number c.in_ok-write_all-2.ensures.ok c.in_ok-write_all-2.ensures.fine
