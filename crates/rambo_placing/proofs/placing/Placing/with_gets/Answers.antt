use Rattle.std.proofs.Common.{◌≡◌, ◌++◌, None, append-nil, filter, sym, ap, ◌∙◌}
use Rattle.rambo_history.specs.Histories.{answer_in, call_in}
use Rattle.rambo_atomic.specs.Tests.{tells}
use Rattle.rambo_placing.specs.Placings.{gets_of, in_place, readers}
use Rattle.rambo_placing.proofs.InPlaces.{in_places-on}
use Rattle.rambo_placing.proofs.placing.Placing.with_gets.Goals as goal

pub loop-id-init : goal.loop-id-init
loop-id-init c =
    let h = c.self.inside.history.now.events in
    let none : c.get.result.now ≡ readers c.args.self.now c.args.key.now None
    = c.get.ensures ∙ c.in_ok-readers.ensures.readers None ∙ ap (filter (λ d. tells None (answer_in h d))) c.gets_of.ensures
    ∙ ap (λ k. filter (λ d. tells None (answer_in k d)) (gets_of c.args.key.now c.args.self.now)) c.self.view_is in
    c.in_ok-extend_from_slice.ensures.items ∙ (λ i. c.new-placed.ensures.items i ++ none i) ∙ sym (append-nil (readers c.args.self.now c.args.key.now None))

pub loop-id-preserved : goal.loop-id-preserved
loop-id-preserved c =
    let id = c.id-item.result in
    c.in_ok-place.ensures.placed ∙ ap (λ h. c.loop-id.placed.items ++ in_place h c.args.key.now id (call_in h id)) c.self.view_is
    ∙ in_places-on c.args.self.now c.args.key.now (readers c.args.self.now c.args.key.now None) c.args.order.now c.loop-id.id-index id c.loop-id.placed.items
    c.loop-id-test.true c.id-item.is c.loop-id.invariant
