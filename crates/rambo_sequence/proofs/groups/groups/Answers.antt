use Rattle.std.proofs.Common.{◌≡◌, ◌+◌, [], ◌∷◌, ◌++◌, take, sym, ap, subst, ◌∙◌}
use Rattle.std.proofs.lemmas.List.{take_more, take_all}
use Rattle.rambo_sequence.specs.Groups.{calls_at, HasGroups}
use Rattle.rambo_sequence.specs.Marks.{mark_at, marks_at, with_some}
use Rattle.rambo_sequence.proofs.GroupLists.{HasGroups-told, HasGroups-untold}
use Rattle.rambo_sequence.proofs.PlacedMarks.{marks_at-push}
use Rattle.rambo_sequence.proofs.groups.groups.Goals.{in-Some+in_ok-add, in_default}
use Rattle.rambo_sequence.proofs.groups.groups.Goals as goal

pub loop-mark-init : goal.loop-mark-init
unfolding marks_at
loop-mark-init c = λ key. ap (λ gs. calls_at gs key) c.new-groups.ensures.empty

pub loop-mark-preserved : goal.loop-mark-preserved
loop-mark-preserved c =
    let h = c.args.history.now.events in
    let marks = c.args.marks.now in
    let n = c.loop-mark.mark-index in
    let mark = c.mark-item.result in
    let old = c.loop-mark.groups.entries in
    let ms = marks_at h (take n marks) in
    let more : marks_at h (take (n + 1) marks) ≡ ms ++ with_some (mark_at h mark) [] =
    ap (marks_at h) (take_more marks n mark c.loop-mark-test.true ∙ ap (λ m. take n marks ++ m ∷ []) (sym c.mark-item.is)) ∙ marks_at-push h (take n marks) mark in
    subst (λ ms. HasGroups h ms c.match-ranked_call.groups.entries) (sym more)
    (elim c.match-ranked_call.branch [
      | in-Some+in_ok-add w ↦ subst (λ gs. HasGroups h (ms ++ with_some (mark_at h mark) []) gs.entries) (sym w.groups-is)
          (HasGroups-told h ms (mark_at h mark) w.in-Some.key.now w.in-Some.call old w.add.new.groups.entries c.loop-mark.invariant w.in-Some.ensures.key w.in-Some.ensures.call w.in_ok-add.ensures.added)
      | in_default w ↦ subst (λ gs. HasGroups h (ms ++ with_some (mark_at h mark) []) gs.entries) (sym w.groups-is)
          (HasGroups-untold h ms (mark_at h mark) old c.loop-mark.invariant w.in_default.ensures.key)
    ])

pub returns-clause-groups : goal.returns-clause-groups
returns-clause-groups c =
    let h = c.args.history.now.events in
    subst (λ ms. HasGroups h (marks_at h ms) c.loop-mark.groups.entries) (take_all c.loop-mark.mark-index c.args.marks.now c.loop-mark-test.false)
    c.loop-mark.invariant
