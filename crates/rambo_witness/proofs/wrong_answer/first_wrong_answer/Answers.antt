use Rattle.std.proofs.Common.{◌≡◌, ◌+◌, [], ◌∷◌, ◌++◌, take, drop, sym, ap, ◌∙◌, subst}
use Rattle.rambo_history.specs.Proper.{AnswersLatest}
use Rattle.rambo_witness.specs.LatestSets.{HasLatest}
use Rattle.rambo_witness.proofs.Fronts.{split-at, take-item}
use Rattle.rambo_witness.proofs.Latest.{answers-push}
use Rattle.rambo_witness.proofs.wrong_answer.first_wrong_answer.Goals as goal

pub returns-in-Some-clause-found : goal.returns-in-Some-clause-found
returns-in-Some-clause-found c key =
    let order = c.args.order.now in
    let i = c.loop-id.id-index in
    let id = c.id-item.result in
    let found = c.in-Some.ensures (take i order) c.loop-id.invariant.0 in
    record {
      front = take i order;
      back = drop (i + 1) order;
      whole = split-at order i id (take-item order i id c.loop-id-test.true c.id-item.is) ∙ ap (λ x. take i order ++ x ∷ drop (i + 1) order) (sym found.0);
      breaks = found.1 key;
      first = c.loop-id.invariant.1;
    }

pub loop-id-preserved : goal.loop-id-preserved
loop-id-preserved c =
    let h = c.args.history.now.events in
    let order = c.args.order.now in
    let i = c.loop-id.id-index in
    let id = c.id-item.result in
    let more : take (i + 1) order ≡ take i order ++ id ∷ [] = take-item order i id c.loop-id-test.true c.id-item.is in (
      subst (λ l. HasLatest h l c.note.new.latest.entries) (sym more) (c.in_ok-note.ensures.noted (take i order) c.loop-id.invariant.0),
      subst (AnswersLatest h) (sym more) (answers-push h (take i order) id c.loop-id.invariant.1 (c.in_default.ensures (take i order) c.loop-id.invariant.0)),
    )
