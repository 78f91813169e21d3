use Rattle.std.proofs.Common.{◌++◌, map, ap, ◌∙◌}
use Rattle.rambo_text.specs.Versions.{head_text}
use Rattle.rambo_check.specs.Lines.{Happened, items_text}
use Rattle.rambo_check.specs.Placings.{order_items}
use Rattle.rambo_check.proofs.OutcomeTexts.{whole-text}
use Rattle.rambo_check.proofs.outcome_lines.outcome_lines.Goals as goal

pub returns-clause-text : goal.returns-clause-text
returns-clause-text c =
    whole-text c.args.version c.args.evidence.now c.orders.result.now.entries c.write_head.new.out.items c.write_events.new.out.items c.write_sequences.new.out.items
    c.write_order.new.out.items c.orders.ensures (c.in_ok-write_head.ensures.ok ∙ ap (λ t. t ++ head_text c.args.version) c.new-out.ensures.items)
    (c.in_ok-write_events.ensures.ok ∙ ap (λ es. c.write_head.new.out.items ++ items_text (map Happened es)) (c.events.ensures.events ∙ c.history.ensures))
    c.in_ok-write_sequences.ensures.ok
    (c.in_ok-write_order.ensures.ok ∙ ap (λ o. c.write_sequences.new.out.items ++ items_text (order_items o)) c.told_order.ensures)
