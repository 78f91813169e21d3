use Rattle.std.proofs.Common.{◌≡◌}
use Rattle.rambo_names.specs.Weights.{weighted_majorities}
use Rattle.rambo_history.specs.Proper.{IsProperForAll}
use Rattle.rambo_run.specs.Runs.{run, given_order}
use Rattle.rambo_post.proofs.Closings.{order_of}
use Rattle.rambo_cluster.proofs.serving.left_by.Goals as goal

pub returns-clause-order : goal.returns-clause-order
returns-clause-order g c = order_of g.J.Terms.founders c.args.founders c.into_left.result.order (λ f o. o ≡ given_order (run weighted_majorities f c.into_left.result.steps)) c.requires c.into_left.ensures.order

pub returns-clause-explained : goal.returns-clause-explained
returns-clause-explained g c = order_of g.J.Terms.founders c.args.founders c.into_left.result.order (λ f o. IsProperForAll (run weighted_majorities f c.into_left.result.steps).history o) c.requires c.into_left.ensures.explained
