use Rattle.std.proofs.Common.{ap, ◌∙◌}
use Rattle.std.specs.Option.{option_copied}
use Rattle.std.specs.Str.{bytes_eq}
use Rattle.rambo_check.proofs.LineFaults.{plan_unknown}
use Rattle.rambo_check.proofs.item.read_passed.Goals as goal

pub returns-clause-fault : goal.returns-clause-fault
returns-clause-fault c =
    plan_unknown c.args.version c.args.first.now (option_copied c.args.more) c.requires.call c.requires.answer c.requires.sequence
    (c.if-eq.ensures ∙ ap (bytes_eq c.args.first.now) c.as_slice.ensures)
    (c.if-eq-2.ensures ∙ ap (bytes_eq c.args.first.now) c.as_slice-2.ensures)
    (c.if-eq-3.ensures ∙ ap (bytes_eq c.args.first.now) c.as_slice-3.ensures)
    (c.if-eq-4.ensures ∙ ap (bytes_eq c.args.first.now) c.as_slice-4.ensures)
    c.requires.order
