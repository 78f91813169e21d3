use Rattle.std.proofs.Common.{◌≡◌, ℕ, Some, refl, ap, ◌∙◌, arith}
use Rattle.rambo_names.specs.Weights.{Weights, weighted_majorities}
use Rattle.rambo_config_map.specs.Maps.{entry_at, first_map}
use Rattle.rambo_config_map.specs.declared.entry.Entry.TheVariants.{Active}
use Rattle.rambo_node.specs.Nodes.{first_node}
use Rattle.rambo_run.specs.Runs.{run}
use Rattle.rambo_run.specs.Worlds.{node_at}
use Rattle.rambo_run.proofs.FirstWorlds.{first_named}
use Rattle.rambo_run.proofs.GoingOn.{run_none}
use Rattle.rambo_local.proofs.founding.founders_of.Goals as goal

first-map : (founders : Weights) (n : ℕ) → (first_node weighted_majorities founders n).map ≡ first_map founders
unfolding first_node
first-map founders n = refl

pub returns-in-Active : goal.returns-in-Active
returns-in-Active c =
    let w = c.args.world.now in
    let one = c.in_ok-new.ensures.made.0 in
    let n = c.in_ok-new.field-0 in
    let first : node_at (run weighted_majorities w.founders w.steps) n ≡ Some (first_node weighted_majorities w.founders n)
    = ap (λ sts. node_at (run weighted_majorities w.founders sts) n) c.requires
    ∙ ap (λ v. node_at v n) (run_none weighted_majorities w.founders)
    ∙ first_named weighted_majorities w.founders n (omega (arith, one), omega (arith, one)) in
    let is : c.map.result.now ≡ first_map w.founders = c.map.ensures.map (first_node weighted_majorities w.founders n) first ∙ first-map w.founders n in
    let e : Active c.in-Active.founders ≡ Active w.founders = c.in-Active.ensures ∙ ap (λ m. entry_at m 0) is in
    cc
