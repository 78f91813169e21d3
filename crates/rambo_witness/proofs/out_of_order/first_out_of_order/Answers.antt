use Rattle.std.proofs.Common.{◌≡◌, ◌+◌, [], ◌∷◌, ◌++◌, take, drop, sym, ap, ◌∙◌, subst}
use Rattle.rambo_history.specs.Proper.{KeepsRealTime}
use Rattle.rambo_history.proofs.Splits.{splits-nil, stands-nil}
use Rattle.rambo_witness.specs.LastMade.{HasLast}
use Rattle.rambo_witness.proofs.Fronts.{split-at, take-item}
use Rattle.rambo_witness.proofs.Times.{time-push}
use Rattle.rambo_witness.proofs.out_of_order.first_out_of_order.Goals as goal

pub loop-id-init : goal.loop-id-init
loop-id-init c = (λ d s. absurd (stands-nil d s), splits-nil _)

pub returns-in-Some : goal.returns-in-Some
returns-in-Some c key =
    let h = c.args.history.now.events in
    let order = c.args.order.now in
    let i = c.loop-id.id-index in
    let id = c.id-item.result in
    let found = c.in-Some.ensures (take i order) (subst (HasLast h (take i order)) (sym c.as_ref.ensures.value) c.loop-id.invariant.0) in
    record {
      front = take i order;
      back = drop (i + 1) order;
      whole = split-at order i id (take-item order i id c.loop-id-test.true c.id-item.is) ∙ ap (λ x. take i order ++ x ∷ drop (i + 1) order) (sym found.0);
      breaks = found.1 key;
      first = c.loop-id.invariant.1;
    }

pub loop-id-preserved : goal.loop-id-preserved
loop-id-preserved c =
    let h = c.args.history.now.events in
    let order = c.args.order.now in
    let i = c.loop-id.id-index in
    let id = c.id-item.result in
    let more : take (i + 1) order ≡ take i order ++ id ∷ [] = take-item order i id c.loop-id-test.true c.id-item.is in (
      subst (λ l. HasLast h l c.note.new.last) (sym more) (c.note.ensures (take i order) c.loop-id.invariant.0),
      subst (KeepsRealTime h) (sym more) (time-push h (take i order) id c.loop-id.invariant.1 (c.in_default.ensures (take i order) (subst (HasLast h (take i order)) (sym c.as_ref.ensures.value) c.loop-id.invariant.0))),
    )
