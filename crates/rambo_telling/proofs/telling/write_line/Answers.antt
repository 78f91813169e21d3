use Rattle.std.proofs.Common.{◌++◌, [], ◌∷◌, codes, decimal, subst}
use Rattle.std.specs.Prelude.{OnErr, OnOk}
use Rattle.rambo_telling.specs.Telling.{Breaks, Takes, stream}
use Rattle.rambo_telling.proofs.telling.write_line.Goals as goal

pub returns-clause-ok : goal.returns-clause-ok
returns-clause-ok g c =
    let s = stream g.E.Sink.taken g.E.Sink.failures c.args.errors.now c.write_two_numbers.new.errors in
    subst (λ n. OnOk c.write_two_numbers.result (Takes (codes "script fault S" ++ decimal n ++ codes " at line " ++ decimal c.args.fault.line ++ 10 ∷ []) s))
    c.number.ensures c.write_two_numbers.ensures.ok

pub returns-clause-err : goal.returns-clause-err
returns-clause-err g c =
    let s = stream g.E.Sink.taken g.E.Sink.failures c.args.errors.now c.write_two_numbers.new.errors in
    subst (λ n. OnErr c.write_two_numbers.result (Breaks (codes "script fault S" ++ decimal n ++ codes " at line " ++ decimal c.args.fault.line ++ 10 ∷ []) s))
    c.number.ensures c.write_two_numbers.ensures.err
