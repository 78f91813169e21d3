use Rattle.std.proofs.Common.{map, ap, ◌∙◌}
use Rattle.std.specs.FinSet as set
use Rattle.rambo_node.specs.Nodes.{RoomyNode}
use Rattle.rambo_names.proofs.Sizes.{up_fits, back_fits, next, variant_fits}
use Rattle.rambo_visit.specs.Open.{reach_of, is_joining, number_in, stage_in, call_numbers}
use Rattle.rambo_visit.proofs.Visits.{numbers_are}
use Rattle.rambo_visit.proofs.opening.opened.Goals as goal

pub node-node-requires : goal.node-node-requires
node-node-requires g c = let keeper = c.requires-raw.1.1.1 in (keeper, back_fits _ _ _ (up_fits _ _ _ keeper))

pub name-requires : goal.name-requires
name-requires g c = back_fits _ _ _ (up_fits _ _ _ c.requires-raw.1.1.1)

pub status-requires : goal.status-requires
status-requires g c = back_fits _ _ _ (up_fits _ _ _ c.requires-raw.1.1.1)

pub known-requires : goal.known-requires
known-requires g c = back_fits _ _ _ (up_fits _ _ _ c.requires-raw.1.1.1)

pub status-requires-2 : goal.status-requires-2
status-requires-2 g c = back_fits _ _ _ (up_fits _ _ _ c.requires-raw.1.1.1)

pub calls-requires : goal.calls-requires
calls-requires g c =
    let node = back_fits _ _ _ (up_fits _ _ _ c.requires-raw.1.1.1) in
    (node, variant_fits _ _ _ _ (back_fits _ _ _ (up_fits _ _ _ (back_fits _ _ _ (next _ _ _ _ (up_fits _ _ _ node))))))

pub collection-requires : goal.collection-requires
collection-requires g c = back_fits _ _ _ (up_fits _ _ _ c.requires-raw.1.1.1)

pub attempt-requires : goal.attempt-requires
attempt-requires g c = back_fits _ _ _ (up_fits _ _ _ c.requires-raw.1.1.1)

pub map-requires : goal.map-requires
map-requires g c =
    let node = back_fits _ _ _ (up_fits _ _ _ c.requires-raw.1.1.1) in
    (node, back_fits _ _ _ (up_fits _ _ _ node))

pub returns : goal.returns
returns g c =
    let is = c.node-node.ensures in
    let me = c.name.ensures ∙ ap (λ (v : RoomyNode _). v.state.name) is in
    let status = c.status.ensures ∙ ap (λ (v : RoomyNode _). v.state.status) is in
    let known = c.known.ensures ∙ ap (λ (v : RoomyNode _). v.state.known) is in
    let calls = numbers_are c.calls.result.now ∙ ap (map call_numbers) (c.calls.ensures ∙ ap (λ (v : RoomyNode _). v.state.calls) is) in
    let collection = c.number_in.ensures ∙ ap number_in (c.collection.ensures ∙ ap (λ (v : RoomyNode _). v.state.collection) is) in
    let bid = c.stage_in.ensures ∙ ap stage_in (c.attempt.ensures ∙ ap (λ (v : RoomyNode _). v.state.attempt) is) in
    let joins = c.is_joining.ensures ∙ ap is_joining (c.status-2.ensures ∙ ap (λ (v : RoomyNode _). v.state.status) is) in
    let reach = c.reach_of.ensures ∙ (λ i. reach_of (status i) (known i)) in
    let configs = ap (λ m. m.configs) c.map.ensures ∙ ap (λ (v : RoomyNode _). v.state.map.configs) is in
    λ i. record {
      me = me i;
      reach = set.remove (reach i) (me i);
      joins = joins i;
      calls = calls i;
      wants_room = c.args.wants_room;
      collection = collection i;
      bid = bid i;
      configs = configs i;
    }
