use Rattle.std.proofs.Common.{◌∙◌, ap, sym, subst}
use Rattle.rambo_sequence.specs.StoreOrders.{NoTwice, all_calls, order_of}
use Rattle.rambo_names.proofs.Sizes.{up_fits, back_fits, next}
use Rattle.rambo_run.specs.Chronicles.{ChronicleView}
use Rattle.rambo_run.specs.Runs.{given_sequences, maps_of, outcome_at}
use Rattle.rambo_world.proofs.Longer.{outcome_made}
use Rattle.rambo_world.proofs.runs.outcome.Goals as goal

pub take_all-requires : goal.take_all-requires
take_all-requires g c = (c.requires-raw.1.1.0, c.requires.fits)

pub order-requires : goal.order-requires
order-requires g c =
    let given = c.in_ok-sequences.ensures.given ∙ ap given_sequences c.state.view_is in
    subst (λ ss. NoTwice (all_calls ss)) (sym (c.as_slice.ensures.value ∙ given ∙ ap given_sequences c.in_ok-effects.ensures.after)) c.requires.once

pub returns-clause-outcome : goal.returns-clause-outcome
returns-clause-outcome g c =
    let is = c.state.view_is in
    let given = c.in_ok-sequences.ensures.given ∙ ap given_sequences is in
    let ordered = c.in_ok-order.ensures.given ∙ (λ i. order_of (is i).history (c.as_slice.ensures.value i)) in
    outcome_made c.in_ok-effects.effects.items c.take_all.new.self _ c.in_ok-sequences.sequences.items c.in_ok-order.order.items c.in_ok-maps.maps.items (c.into_history-history.ensures ∙ ap (λ (v : ChronicleView). v.events) c.replace.ensures.value ∙ ap (λ w. w.history) is) given ordered
    (c.in_ok-maps.ensures.maps ∙ ap (λ w. maps_of w.nodes) is)
    ∙ (λ i. outcome_at (c.in_ok-effects.ensures.told i) (c.in_ok-effects.ensures.after i))

pub maps-requires : goal.maps-requires
maps-requires g c = back_fits _ _ _ (next _ _ _ _ (next _ _ _ _ (next _ _ _ _ (up_fits _ _ _ c.requires-raw.1.1.0))))
