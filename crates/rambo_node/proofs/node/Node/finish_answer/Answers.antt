use Rattle.std.proofs.Common.{ap, ◌∙◌}
use Rattle.std.specs.List.{remove}
use Rattle.rambo_calls.specs.Kept.{calls_of}
use Rattle.rambo_node.proofs.Advances.{with_calls}
use Rattle.rambo_names.proofs.Sizes.{up_fits, back_fits, next}
use Rattle.rambo_node.proofs.node.Node.finish_answer.Goals as goal

pub returns-clause-state : goal.returns-clause-state
returns-clause-state g c =
    ap (λ v. with_calls (calls_of c.close.new.self.list) v.state) c.self.view_is
    ∙ ap (λ cs. with_calls cs c.args.self.now.state) (c.close.ensures ∙ ap (λ v. remove v.state.calls c.args.place) c.self.view_is)

pub close-requires : goal.close-requires
close-requires g c = back_fits _ _ _ (next _ _ _ _ (up_fits _ _ _ c.requires-raw.1.1))
