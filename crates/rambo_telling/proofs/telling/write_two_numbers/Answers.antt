use Rattle.std.proofs.Common.{◌++◌, [], ◌∷◌, append_assoc, decimal, refl, rules}
use Rattle.rambo_telling.proofs.Told.{breaks_next, from_first, from_second, takes_next, takes_same}
use Rattle.rambo_telling.proofs.Untouched.{takes_nothing}
use Rattle.rambo_telling.proofs.telling.write_two_numbers.Goals as goal

pub returns-in_err-write_number-clause-err : goal.returns-in_err-write_number-clause-err
returns-in_err-write_number-clause-err g c =
    let a = c.args.before.now in
    let n = decimal c.args.first in
    let b = c.args.between.now in
    let l = decimal c.args.second in
    let stopped = c.in_err-write_number.ensures.err in
    search (
      rules,
      breaks_next g.E.Sink.taken g.E.Sink.failures _ [] (a ++ n) (b ++ (l ++ 10 ∷ [])) _ _ _ _ (from_first a n b l (10 ∷ []))
          (takes_nothing g.E.Sink.taken g.E.Sink.failures _) refl stopped.taken stopped.failed,
    )

pub returns-in_err-write_number-2-clause-err : goal.returns-in_err-write_number-2-clause-err
returns-in_err-write_number-2-clause-err g c =
    let a = c.args.before.now in
    let n = decimal c.args.first in
    let b = c.args.between.now in
    let l = decimal c.args.second in
    let stopped = c.in_err-write_number-2.ensures.err in
    search (
      rules,
      breaks_next g.E.Sink.taken g.E.Sink.failures _ (a ++ n) (b ++ l) (10 ∷ []) _ _ _ _ (from_second a n b l (10 ∷ []))
          c.in_ok-write_number.ensures.ok refl stopped.taken stopped.failed,
    )

pub returns-in_err-write_all-clause-err : goal.returns-in_err-write_all-clause-err
returns-in_err-write_all-clause-err g c =
    let a = c.args.before.now in
    let n = decimal c.args.first in
    let b = c.args.between.now in
    let l = decimal c.args.second in
    let second = c.in_ok-write_number-2.ensures.ok in
    let both = takes_same g.E.Sink.taken g.E.Sink.failures _ (((a ++ n) ++ b) ++ l) _ _ (append_assoc (a ++ n) b l)
    (takes_next g.E.Sink.taken g.E.Sink.failures (a ++ n) (b ++ l) _ _ _ _ c.in_ok-write_number.ensures.ok refl second.taken second.fine) in
    search (
      rules,
      breaks_next g.E.Sink.taken g.E.Sink.failures _ (((a ++ n) ++ b) ++ l) (10 ∷ []) [] _ _ _ _ refl both refl
          c.in_err-write_all.ensures.err c.in_err-write_all.ensures.fault.1,
    )

pub returns-clause-ok : goal.returns-clause-ok
returns-clause-ok g c =
    let a = c.args.before.now in
    let n = decimal c.args.first in
    let b = c.args.between.now in
    let l = decimal c.args.second in
    let second = c.in_ok-write_number-2.ensures.ok in
    let both = takes_same g.E.Sink.taken g.E.Sink.failures _ (((a ++ n) ++ b) ++ l) _ _ (append_assoc (a ++ n) b l)
    (takes_next g.E.Sink.taken g.E.Sink.failures (a ++ n) (b ++ l) _ _ _ _ c.in_ok-write_number.ensures.ok refl second.taken second.fine) in
    takes_next g.E.Sink.taken g.E.Sink.failures _ (10 ∷ []) _ _ _ _ both refl c.in_ok-write_all.ensures.ok c.in_ok-write_all.ensures.fine
