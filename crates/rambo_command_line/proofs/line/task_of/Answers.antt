use Rattle.std.proofs.Common.{map, rules, subst}
use Rattle.clap.specs.Simple.{App, HasMatchesOf, app_of}
use Rattle.rambo_command_line.proofs.Asked.{faultless_as, kinds_as}
use Rattle.rambo_command_line.proofs.line.task_of.Goals as goal

pub returns-clause-task : goal.returns-clause-task
returns-clause-task g c =
    let words = map g.S.AsStr.text c.args.words.now in
    c.in_ok-task_in.ensures words (faultless_as _ words c.in_ok-command.ensures c.in_ok-matches.ensures.kinds)
    (subst (λ (a : App). HasMatchesOf a words c.in_ok-matches.matches) c.in_ok-command.ensures c.in_ok-matches.ensures.matches)

pub returns-in_err-matches-clause-other : goal.returns-in_err-matches-clause-other
returns-in_err-matches-clause-other g c =
    let words = map g.S.AsStr.text c.args.words.now in
    search (rules, kinds_as (app_of c.in_ok-command.command) words c.in_err-matches.field-0.0 c.in_ok-command.ensures c.in_err-matches.ensures.kinds)
