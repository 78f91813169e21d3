use Rattle.std.proofs.Common.{◌∙◌, ap}
use Rattle.rambo_calls.specs.Calls.{query_in}
use Rattle.rambo_names.proofs.Sizes.{up_fits, back_fits, next, variant_fits}
use Rattle.rambo_node.proofs.node.Node.query_at.Goals as goal

pub call_at-requires : goal.call_at-requires
call_at-requires g c =
    let calls = back_fits _ _ _ (next _ _ _ _ (up_fits _ _ _ c.requires-raw.1.1)) in
    (c.requires-raw.1.1, variant_fits _ _ _ _ (back_fits _ _ _ (up_fits _ _ _ calls)))

pub query_of-requires : goal.query_of-requires
query_of-requires g c = variant_fits _ _ _ _ (back_fits _ _ _ (up_fits _ _ _ (back_fits _ _ _ (next _ _ _ _ (up_fits _ _ _ c.requires-raw.1.1)))))

pub returns : goal.returns
returns g c = c.query_of.ensures ∙ ap query_in c.call_at.ensures
