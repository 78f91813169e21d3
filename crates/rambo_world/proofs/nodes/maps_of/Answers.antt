use Rattle.std.proofs.Common.{◌≡◌, ◌∙◌, ◌++◌, ◌∷◌, [], sym, ap, append-nil, take}
use Rattle.std.proofs.lemmas.List.{take_all}
use Rattle.rambo_joiner.specs.Statuses.{is_idle}
use Rattle.rambo_run.specs.Runs.{maps_of}
use Rattle.rambo_names.proofs.Sizes.{up_fits, back_fits}
use Rattle.rambo_world.specs.Kept.{node_states}
use Rattle.rambo_world.proofs.Starting.{maps_next, no_map, own_map}
use Rattle.rambo_world.proofs.nodes.maps_of.Goals.{then-not-is_idle+in_ok-configs_of+in_ok-push, else-not-is_idle}
use Rattle.rambo_world.proofs.nodes.maps_of.Goals as goal

pub loop-node-preserved : goal.loop-node-preserved
loop-node-preserved g c =
    let k = c.node-item.result.state in
    let idle : c.is_idle.result ≡ is_idle k.status = c.is_idle.ensures ∙ ap is_idle c.status.ensures in
    let next = sym (maps_next c.args.nodes.now c.loop-node.node-index c.node-item.result c.loop-node-test.true c.node-item.is) in
    elim c.if-not-is_idle.branch [
      | then-not-is_idle+in_ok-configs_of+in_ok-push w ↦
          ap (λ m. m.items) w.maps-is ∙ w.in_ok-push.ensures.items
          ∙ (λ i. c.loop-node.invariant i ++ record { name = w.name.ensures i; floor = (w.floor.ensures ∙ ap (λ m. m.floor) w.map-map.ensures) i; active = (w.in_ok-configs_of.ensures.all ∙ w.places.ensures.row ∙ ap (λ m. m.configs) w.map-map.ensures) i } ∷ [])
          ∙ ap (λ l. maps_of (node_states (take c.loop-node.node-index c.args.nodes.now)) ++ l) (sym (own_map k (sym idle ∙ w.if-not-is_idle.true)))
          ∙ next
      | else-not-is_idle w ↦
          ap (λ m. m.items) w.maps-is ∙ c.loop-node.invariant ∙ sym (append-nil _)
          ∙ ap (λ l. maps_of (node_states (take c.loop-node.node-index c.args.nodes.now)) ++ l) (sym (no_map k (sym idle ∙ w.if-not-is_idle.false)))
          ∙ next
    ]

pub returns-clause-maps : goal.returns-clause-maps
returns-clause-maps g c = c.loop-node.invariant ∙ ap (λ xs. maps_of (node_states xs)) (take_all c.loop-node.node-index c.args.nodes.now c.loop-node-test.false)

pub map-map-requires : goal.map-map-requires
map-map-requires g c = (c.requires-raw.1.1, back_fits _ _ _ (up_fits _ _ _ c.requires-raw.1.1))

pub floor-requires : goal.floor-requires
floor-requires g c = back_fits _ _ _ (up_fits _ _ _ c.requires-raw.1.1)

pub places-requires : goal.places-requires
places-requires g c = (back_fits _ _ _ (up_fits _ _ _ c.requires-raw.1.1), back_fits _ _ _ (up_fits _ _ _ (back_fits _ _ _ (up_fits _ _ _ c.requires-raw.1.1))))

pub configs_of-requires : goal.configs_of-requires
configs_of-requires g c = back_fits _ _ _ (up_fits _ _ _ (back_fits _ _ _ (up_fits _ _ _ c.requires-raw.1.1)))

pub name-requires : goal.name-requires
name-requires g c = assumption

pub status-requires : goal.status-requires
status-requires g c = assumption
