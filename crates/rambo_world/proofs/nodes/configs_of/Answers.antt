use Rattle.std.proofs.Common.{◌<◌, ◌∙◌, sym, ap, subst, arith}
use Rattle.rambo_world.proofs.Starting.{next_config, no_config}
use Rattle.rambo_world.proofs.nodes.configs_of.Goals.{in-Some+in_ok-push-in-Some, in-None}
use Rattle.rambo_world.proofs.nodes.configs_of.Goals as goal

pub loop-index-preserved : goal.loop-index-preserved
loop-index-preserved g c =
    let xs = c.args.places.now.configs in
    elim c.match-get.branch [
      | in-Some+in_ok-push-in-Some w ↦
          next_config xs c.loop-index.configs.items c.match-get.configs.items c.loop-index.index w.in-Some.config c.loop-index.invariant (sym c.get.ensures ∙ w.in-Some.is)
          (ap (λ m. m.items) w.configs-is ∙ w.in_ok-push-in-Some.ensures.items)
      | in-None w ↦ no_config xs c.loop-index.index (subst (λ n. c.loop-index.index < n) c.len-index-end.ensures c.loop-index-test.true) (sym c.get.ensures ∙ w.in-None.is)
    ]

pub loop-index-smaller : goal.loop-index-smaller
loop-index-smaller g c = omega (arith, c.loop-index-test.true)
