use Rattle.std.proofs.Common.{ap, ◌∙◌, ◌++◌, map}
use Rattle.rambo_text.specs.Versions.{head_text}
use Rattle.rambo_check.specs.Lines.{Ordered, items_text}
use Rattle.rambo_outcome.specs.Outcomes.{steps_items, order_items_in, map_item, outcome_lines}
use Rattle.rambo_outcome.proofs.Loops.{whole_text}
use Rattle.rambo_outcome.proofs.outcome.outcome_text.Goals as goal

pub returns-clause-text : goal.returns-clause-text
returns-clause-text c =
    let o = c.outcome.inside in
    whole_text c.args.version (record { effects = o.effects.items; history = o.history.events; sequences = o.sequences.items; order = o.order.items; maps = o.maps.items })
    c.write_head.new.out.items c.append_steps.new.out.items c.write_sequences.new.out.items c.write_order_in.new.out.items c.write_maps.new.out.items
    (c.in_ok-write_head.ensures.ok ∙ ap (λ t. t ++ head_text c.args.version) c.new-out.ensures.items)
    (c.in_ok-append_steps.ensures.ok ∙ ap (λ rs. c.write_head.new.out.items ++ items_text (steps_items o.history.events 1 rs)) c.as_slice.ensures.value)
    (c.in_ok-write_sequences.ensures.ok ∙ ap (λ ss. c.append_steps.new.out.items ++ items_text (map Ordered ss)) c.as_slice-2.ensures.value)
    (c.in_ok-write_order_in.ensures.ok ∙ ap (λ cs. c.write_sequences.new.out.items ++ items_text (order_items_in c.args.version cs)) c.as_slice-3.ensures.value)
    (c.in_ok-write_maps.ensures.ok ∙ ap (λ ms. c.write_order_in.new.out.items ++ items_text (map map_item ms)) c.as_slice-4.ensures.value)
    ∙ ap (outcome_lines c.args.version) c.outcome.view_is
