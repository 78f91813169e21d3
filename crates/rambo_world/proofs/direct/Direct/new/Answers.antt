use Rattle.std.proofs.Common.{[], refl}
use Rattle.rambo_names.proofs.Sizes.{up_fits, back_fits, next}
use Rattle.rambo_world.proofs.Bare.{bare_first}
use Rattle.rambo_world.proofs.Starting.{first_fits, first_is}
use Rattle.rambo_world.proofs.direct.Direct.new.Goals as goal

pub new-requires-2 : goal.new-requires-2
new-requires-2 g c = back_fits _ _ _ (next _ _ _ _ (up_fits _ _ _ c.requires-raw.1.1))

pub invariant_of-result : goal.invariant_of-result
invariant_of-result g c =
    let s = g.Q.Quorums.system in
    let ks = c.in_ok-nodes.nodes in
    let made = c.in_ok-nodes.ensures in (
      bare_first s c.args.founders _ (first_is s c.args.founders ks made.states made.logs [] refl [] [] refl refl),
      first_fits s c.args.founders ks made.states made.logs [] refl c.in_ok-merged.merged c.in_ok-merged.ensures.none,
    )

pub returns-clause-made : goal.returns-clause-made
returns-clause-made g c = λ i. record {
  founders = c.args.founders;
  state = first_is g.Q.Quorums.system c.args.founders c.in_ok-nodes.nodes c.in_ok-nodes.ensures.states c.in_ok-nodes.ensures.logs [] refl [] [] refl refl i;
}
