use Rattle.std.proofs.Common.{◌≡◌, ◌+◌, [], ◌∷◌, ◌++◌, cond, bytes_eq, take, sym, ap, ◌∙◌, append-nil}
use Rattle.std.proofs.lemmas.List.{take_more}
use Rattle.rambo_sequence.specs.Marks.{mark_at, marks_at, with_some}
use Rattle.rambo_sequence.specs.RankedCalls.{ranked_calls}
use Rattle.rambo_sequence.proofs.GroupLists.{ranked_calls-told, ranked_calls-untold}
use Rattle.rambo_sequence.proofs.PlacedMarks.{marks_at-push}
use Rattle.rambo_sequence.proofs.given.calls_of.Goals.{in-Some+then-eq+in_ok-push, in-Some+else-eq, in_default}
use Rattle.rambo_sequence.proofs.given.calls_of.Goals as goal

pub loop-mark-init : goal.loop-mark-init
unfolding marks_at
loop-mark-init c = c.new-calls.ensures.items

pub loop-mark-preserved : goal.loop-mark-preserved
loop-mark-preserved c =
    let h = c.args.history.now.events in
    let marks = c.args.marks.now in
    let n = c.loop-mark.mark-index in
    let mark = c.mark-item.result in
    let key = c.args.key.now in
    let ms = marks_at h (take n marks) in
    let more : marks_at h (take (n + 1) marks) ≡ ms ++ with_some (mark_at h mark) [] =
    ap (marks_at h) (take_more marks n mark c.loop-mark-test.true ∙ ap (λ m. take n marks ++ m ∷ []) (sym c.mark-item.is)) ∙ marks_at-push h (take n marks) mark in
    elim c.match-ranked_call.branch [
      | in-Some+then-eq+in_ok-push w ↦
          ap (λ calls. calls.items) w.calls-is ∙ w.in_ok-push.ensures.items ∙ ap (λ calls. calls ++ w.in-Some.call ∷ []) c.loop-mark.invariant
          ∙ sym (ranked_calls-told h ms (mark_at h mark) w.in-Some.of.now w.in-Some.call key w.in-Some.ensures.key w.in-Some.ensures.call
          ∙ ap (λ t. ranked_calls h ms key ++ cond t (w.in-Some.call ∷ []) []) ((λ i. bytes_eq (sym w.as_slice.ensures i) key) ∙ sym w.if-eq.ensures))
      | in-Some+else-eq w ↦
          ap (λ calls. calls.items) w.calls-is ∙ c.loop-mark.invariant
          ∙ sym (ranked_calls-told h ms (mark_at h mark) w.in-Some.of.now w.in-Some.call key w.in-Some.ensures.key w.in-Some.ensures.call
          ∙ ap (λ t. ranked_calls h ms key ++ cond t (w.in-Some.call ∷ []) []) ((λ i. bytes_eq (sym w.as_slice.ensures i) key) ∙ sym w.if-eq.ensures) ∙ append-nil (ranked_calls h ms key))
      | in_default w ↦ ap (λ calls. calls.items) w.calls-is ∙ c.loop-mark.invariant ∙ sym (ranked_calls-untold h ms (mark_at h mark) key w.in_default.ensures.key)
    ] ∙ ap (λ ms. ranked_calls h ms c.args.key.now) (sym more)
