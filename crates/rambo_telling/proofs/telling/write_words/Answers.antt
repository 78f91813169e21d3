use Rattle.std.proofs.Common.{[], ◌∷◌, refl, rules}
use Rattle.rambo_telling.proofs.Told.{takes_first, takes_next, breaks_next}
use Rattle.rambo_telling.proofs.Untouched.{takes_nothing}
use Rattle.rambo_telling.proofs.telling.write_words.Goals as goal

pub returns-in_err-write_all-clause-err : goal.returns-in_err-write_all-clause-err
returns-in_err-write_all-clause-err g c =
    search (
      rules,
      breaks_next g.E.Sink.taken g.E.Sink.failures _ [] c.args.words.now (10 ∷ []) _ _ _ _ refl (takes_nothing g.E.Sink.taken g.E.Sink.failures _)
          c.as_bytes.ensures.value c.in_err-write_all.ensures.err c.in_err-write_all.ensures.fault.1,
    )

pub returns-in_err-write_all-2-clause-err : goal.returns-in_err-write_all-2-clause-err
returns-in_err-write_all-2-clause-err g c =
    let words = takes_first g.E.Sink.taken g.E.Sink.failures c.args.words.now _ _ _ c.as_bytes.ensures.value c.in_ok-write_all.ensures.ok c.in_ok-write_all.ensures.fine in
    search (rules, breaks_next g.E.Sink.taken g.E.Sink.failures _ c.args.words.now (10 ∷ []) [] _ _ _ _ refl words refl c.in_err-write_all-2.ensures.err c.in_err-write_all-2.ensures.fault.1)

pub returns-clause-ok : goal.returns-clause-ok
returns-clause-ok g c =
    let words = takes_first g.E.Sink.taken g.E.Sink.failures c.args.words.now _ _ _ c.as_bytes.ensures.value c.in_ok-write_all.ensures.ok c.in_ok-write_all.ensures.fine in
    takes_next g.E.Sink.taken g.E.Sink.failures _ (10 ∷ []) _ _ _ _ words refl c.in_ok-write_all-2.ensures.ok c.in_ok-write_all-2.ensures.fine
