use Rattle.std.proofs.Common.{◌≡◌, ◌++◌, ◌∷◌, [], Some, sym, ap, subst, ◌∙◌}
use Rattle.std.specs.Option.{option_map}
use Rattle.rambo_tag.specs.declared.version.Version.{Version}
use Rattle.rambo_history.specs.Histories.{call_in, called_at}
use Rattle.rambo_sequence.specs.Marks.{marks_at}
use Rattle.rambo_run.specs.Chronicles.{ChronicleView, IsMarked, IsSettled}
use Rattle.rambo_run.proofs.Settled.{has_place, placed, marked, settled_with}
use Rattle.rambo_run.proofs.chronicle.Chronicle.add_mark.Goals.{After-push_reserved, in-Some-kept, in-None}
use Rattle.rambo_run.proofs.chronicle.Chronicle.add_mark.Goals as goal

pub unreachable-requires : goal.unreachable-requires
unreachable-requires c =
    let mark = c.args.mark.now in
    has_place c.self.inside.history.events mark.id mark.op (ap (λ (v : ChronicleView). call_in v.events mark.id) c.self.view_is ∙ c.requires.told.called)
    (sym c.called_at.ensures ∙ c.in_default.is)

-- the mark is told of the history as it lies
told : (c : After-push_reserved) → IsMarked c.self.inside.history.events c.args.mark.now
told c = subst (λ (v : ChronicleView). IsMarked v.events c.args.mark.now) (sym c.self.view_is) c.requires.told

-- its call has this place
at : (c : After-push_reserved) → called_at c.self.inside.history.events c.args.mark.now.id ≡ Some c.in-Some.place
at c = sym c.called_at.ensures ∙ c.in-Some.is

-- and it has this tag
tag : (c : After-push_reserved) → c.match-mark.tag ≡ option_map (λ (v : Version). v.tag) c.args.mark.now.kept
tag c = elim c.match-mark.branch [
  | in-Some-kept w ↦ w.tag-is ∙ sym (ap (option_map (λ (v : Version). v.tag)) w.in-Some-kept.is)
  | in-None w ↦ w.tag-is ∙ sym (ap (option_map (λ (v : Version). v.tag)) w.in-None.is)
]

items : (c : After-push_reserved) → c.push_reserved.new.self.items ≡ c.self.inside.marks.items ++ placed c.in-Some.place c.args.mark.now ∷ []
items c = c.push_reserved.ensures.items ∙ λ i. c.self.inside.marks.items ++ record { place = c.in-Some.place; tag = tag c i } ∷ []

pub invariant_of-self : goal.invariant_of-self
invariant_of-self c =
    let es = c.self.inside.history.events in
    subst (IsSettled es) (sym (items c)) (settled_with es c.self.inside.marks.items c.in-Some.place c.args.mark.now c.self.invariant (told c) (at c))

pub returns-clause-marks : goal.returns-clause-marks
returns-clause-marks c =
    let es = c.self.inside.history.events in
    ap (marks_at es) (items c) ∙ marked es c.self.inside.marks.items c.in-Some.place c.args.mark.now (told c) (at c)
    ∙ ap (λ (v : ChronicleView). v.marks ++ c.args.mark.now ∷ []) c.self.view_is
