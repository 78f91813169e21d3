use Rattle.std.proofs.Common.{slice_get, ap, ◌∙◌}
use Rattle.rambo_node.proofs.Own.{call_there}
use Rattle.rambo_node.proofs.node.Node.call_at.Goals as goal

pub calls-requires : goal.calls-requires
calls-requires g c = assumption

pub get-requires : goal.get-requires
get-requires g c = assumption

pub returns : goal.returns
returns g c =
    let place = c.args.place in
    let found = c.get.ensures.lookup in
    call_there c.calls.result.now place c.get.result found.1 found.3 ∙ ap (λ cs. slice_get cs place) c.calls.ensures
