use Rattle.std.proofs.Common.{◌∙◌, ap, option_map}
use Rattle.std.proofs.lemmas.Result.{IfOk-weaker}
use Rattle.rambo_sequence.specs.Marks.{marks_at}
use Rattle.rambo_sequence.proofs.GroupLists.{sequences_of-groups}
use Rattle.rambo_sequence.proofs.given.sequences.Goals as goal

pub returns-clause-given : goal.returns-clause-given
returns-clause-given c =
    let groups = c.sort_keys.new.self in
    IfOk-weaker c.sequences_of_groups.result _ _ (λ s each.
    each
    ∙ sequences_of-groups c.args.history.now.events (marks_at c.args.history.now.events c.args.marks.now) groups.entries
    (λ q. ap (option_map (λ calls. calls.items)) (c.in_ok-sort_keys.ensures.reordered.2 q) ∙ c.in_ok-groups.ensures.groups q)
    c.in_ok-sort_keys.ensures.sorted c.in_ok-sort_keys.ensures.unique)
    c.sequences_of_groups.ensures.each
