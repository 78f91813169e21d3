use Rattle.std.proofs.Common.{◌≡◌, ◌∷◌, ◌++◌, ◌∙◌, sym, ap, subst}
use Rattle.rambo_history.specs.declared.event.Event.TheVariants as event
use Rattle.rambo_sequence.specs.CallPlaces.{lists, joined}
use Rattle.rambo_sequence.proofs.NotedCalls.{SoFar, so_far_first, so_far_call, so_far_unknown, so_far_given, so_far_last, place_there}
use Rattle.rambo_sequence.proofs.store_order.one_order.Goals as goal

pub loop-event-init : goal.loop-event-init
loop-event-init c =
    so_far_first _ c.args.history.now.events c.args.sequences.now c.new-order.result.items (lists c.in_ok-left.left.items) c.events-events.result.now
    c.requires c.in_ok-places.ensures.places c.new-order.ensures.items c.in_ok-left.ensures.calls c.events-events.ensures.events

pub give-requires : goal.give-requires
give-requires c =
    place_there _ c.args.history.now.events c.args.sequences.now c.loop-event.order.items c.loop-event.left.items c.loop-event.events.now c.in-Answer.id c.in-Some-get.place.now
    c.loop-event.invariant (sym c.in-Some-get.ensures.value)

pub loop-event-preserved-in_ok-give : goal.loop-event-preserved-in_ok-give
loop-event-preserved-in_ok-give c =
    let rest = c.in-Some.others.now in
    let e : c.loop-event.events.now ≡ event.Answer c.in-Answer.id c.in-Answer.field-1 ∷ rest = c.in-Some.ensures.cases.0 ∙ ap (λ e. e ∷ rest) c.in-Answer.is in
    so_far_given _ c.args.history.now.events c.args.sequences.now c.loop-event.order.items (lists c.loop-event.left.items) c.in-Answer.id c.in-Answer.field-1 rest c.in-Some-get.place.now
    c.give.new.order.items (lists c.give.new.left.items) (sym c.in-Some-get.ensures.value) (subst (SoFar _ _ _ _ _) e c.loop-event.invariant) c.in_ok-give.ensures.given c.in_ok-give.ensures.left

pub loop-event-preserved-in_default-get : goal.loop-event-preserved-in_default-get
loop-event-preserved-in_default-get c =
    let rest = c.in-Some.others.now in
    let e : c.loop-event.events.now ≡ event.Answer c.in-Answer.id c.in-Answer.field-1 ∷ rest = c.in-Some.ensures.cases.0 ∙ ap (λ e. e ∷ rest) c.in-Answer.is in
    so_far_unknown _ c.args.history.now.events c.args.sequences.now c.loop-event.order.items (lists c.loop-event.left.items) c.in-Answer.id c.in-Answer.field-1 rest
    (sym c.in_default-get.ensures.value) (subst (SoFar _ _ _ _ _) e c.loop-event.invariant)

pub loop-event-preserved : goal.loop-event-preserved
loop-event-preserved c =
    let rest = c.in-Some.others.now in
    let e : c.loop-event.events.now ≡ event.Call c.in_default-event.field-0 c.in_default-event.field-1 ∷ rest = c.in-Some.ensures.cases.0 ∙ ap (λ e. e ∷ rest) c.in_default-event.is in
    so_far_call _ c.args.history.now.events c.args.sequences.now c.loop-event.order.items (lists c.loop-event.left.items) c.in_default-event.field-0 c.in_default-event.field-1 rest
    (subst (SoFar _ _ _ _ _) e c.loop-event.invariant)

pub returns-clause-given : goal.returns-clause-given
returns-clause-given c =
    c.in_ok-give_all.ensures.given ∙ ap (λ l. c.loop-event.order.items ++ joined (lists l)) c.as_slice.ensures.value
    ∙ so_far_last _ c.args.history.now.events c.args.sequences.now c.loop-event.order.items (lists c.loop-event.left.items) c.loop-event.events.now
    c.loop-event.invariant c.in_default.ensures.cases
