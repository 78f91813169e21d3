use Rattle.std.proofs.Common.{[], ◌∷◌, ◌++◌, subst}
use Rattle.rambo_telling.specs.Telling.{Tells, stream}
use Rattle.rambo_telling.proofs.telling.tell_stream.Goals as goal

pub returns-clause-line : goal.returns-clause-line
returns-clause-line g c =
    let s = stream g.E.Sink.taken g.E.Sink.failures c.args.errors.now c.tell_failure.new.errors in
    subst (λ w. Tells (w ++ 10 ∷ []) s) c.words.ensures c.tell_failure.ensures.line
