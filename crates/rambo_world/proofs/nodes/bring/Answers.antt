use Rattle.std.proofs.Common.{ap, sym, ◌∙◌}
use Rattle.rambo_tag.specs.Logs.{greatest_of}
use Rattle.rambo_tag.proofs.Logged.{greatest_of-nil}
use Rattle.rambo_world.proofs.Heard.{lacks_nothing}
use Rattle.rambo_world.proofs.nodes.bring.Goals as goal

pub returns-then-end-start-clause-given : goal.returns-then-end-start-clause-given
returns-then-end-start-clause-given g c =
    let nothing = lacks_nothing c.args.logs.now.logs c.args.letter.now c.args.start c.args.end c.if-end-start.true in
    c.empty.ensures ∙ sym greatest_of-nil ∙ ap greatest_of (sym nothing)
