use Rattle.std.proofs.Common.{◌∙◌, List, [], length, arith, ap, sym}
use Rattle.std.proofs.lemmas.List.{length-map, length-replicate}
use Rattle.rambo_tag.specs.declared.keyed_version.KeyedVersion.{KeyedVersion}
use Rattle.rambo_world.specs.Kept.{node_state}
use Rattle.rambo_names.proofs.Sizes.{up_fits, back_fits}
use Rattle.rambo_run.proofs.FirstWorlds.{first_count}
use Rattle.rambo_world.proofs.Zipping.{states_of-kept, logs_of-kept}
use Rattle.rambo_world.proofs.nodes.Nodes.new.Goals as goal

pub invariant_of-result : goal.invariant_of-result
invariant_of-result g c =
    (sym (length-map c.in_ok-list.list.items node_state) ∙ ap length c.in_ok-list.ensures.first ∙ first_count g.Q.Quorums.system c.args.founders 64 1, ap (λ s. length s.logs) c.in_ok-logs.ensures.empty ∙ length-replicate {A = List KeyedVersion} 64 [])

pub returns-clause-states : goal.returns-clause-states
returns-clause-states g c = states_of-kept c.in_ok-list.list.items c.in_ok-logs.logs.logs ∙ c.in_ok-list.ensures.first

pub returns-clause-logs : goal.returns-clause-logs
returns-clause-logs g c =
    let nodes = sym (length-map c.in_ok-list.list.items node_state) ∙ ap length c.in_ok-list.ensures.first ∙ first_count g.Q.Quorums.system c.args.founders 64 1 in
    let logs = ap (λ s. length s.logs) c.in_ok-logs.ensures.empty ∙ length-replicate {A = List KeyedVersion} 64 [] in
    logs_of-kept c.in_ok-list.list.items c.in_ok-logs.logs.logs (nodes ∙ sym logs) ∙ ap (λ s. s.logs) c.in_ok-logs.ensures.empty

pub first_node-requires : goal.first_node-requires
first_node-requires g c = (back_fits _ _ _ (up_fits _ _ _ c.requires-raw.1.1), (omega arith, omega arith))

pub first_nodes-requires : goal.first_nodes-requires
first_nodes-requires g c = back_fits _ _ _ (up_fits _ _ _ c.requires-raw.1.1)

pub drop-list-requires-room-T-Destruct : goal.drop-list-requires-room-T-Destruct
drop-list-requires-room-T-Destruct g c lives held = back_fits _ _ _ (up_fits _ _ _ c.requires-raw.1.1)
