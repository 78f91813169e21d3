use Rattle.rambo_names.proofs.Sizes.{up_fits, back_fits}
use Rattle.std.proofs.Common.{◌≡◌, None, false, nat_le, nat_lt, length, if◌then◌else◌, sym, ap, ◌∙◌, subst}
use Rattle.rambo_config_map.specs.Maps.{without_lowest, MapState}
use Rattle.rambo_gc.specs.Collections.{move_of}
use Rattle.rambo_bids.specs.Fitting.{AttemptFits}
use Rattle.rambo_node.specs.Nodes.{NodeState}
use Rattle.rambo_node.specs.Reconfigurations.{collection_ended}
use Rattle.rambo_node.proofs.Fitting.{fits_removed, has_next_place}
use Rattle.rambo_node.proofs.node.Node.end_collection.Goals as goal

abbrev with_map : {Q : Type 0} → MapState Q → NodeState Q → NodeState Q
with_map m x = record x { map = m; collection = None }

pub remove-requires : goal.remove-requires
remove-requires g c =
    let met = ap (λ v. move_of g.Q.Quorums.system v.state.map c.args.collection.now) c.self.view_is ∙ c.requires in
    let p = c.place-place.result in
    let there : nat_lt p c.self.inside.map.floor ≡ false → nat_le (length c.self.inside.map.configs) 1 ≡ false = λ kept.
    has_next_place g.Q.Quorums.system c.self.inside.map c.args.collection.now met (sym (ap (λ q. nat_lt q c.self.inside.map.floor) c.place-place.ensures) ∙ kept) in
    (back_fits _ _ _ (up_fits _ _ _ c.requires-raw.1.1.0), there)

pub invariant_of-self : goal.invariant_of-self
invariant_of-self g c =
    let m = c.self.inside.map in
    let p = c.place-place.result in
    let met = ap (λ v. move_of g.Q.Quorums.system v.state.map c.args.collection.now) c.self.view_is ∙ c.requires in
    let there : nat_lt p m.floor ≡ false → nat_le (length m.configs) 1 ≡ false = λ kept.
    has_next_place g.Q.Quorums.system m c.args.collection.now met (sym (ap (λ q. nat_lt q m.floor) c.place-place.ensures) ∙ kept) in
    let fits = fits_removed m c.self.inside.attempt (nat_lt p m.floor) c.self.invariant.0 there in
    (subst (λ n. AttemptFits n c.self.inside.attempt) (sym c.remove.ensures) fits, c.self.invariant.1)

pub returns-clause-node : goal.returns-clause-node
unfolding collection_ended
returns-clause-node g c =
    let ended = c.remove.ensures ∙ ap (λ p. if nat_lt p c.self.inside.map.floor then c.self.inside.map else without_lowest c.self.inside.map) c.place-place.ensures
    ∙ ap (λ v. if nat_lt c.args.collection.now.place v.state.map.floor then v.state.map else without_lowest v.state.map) c.self.view_is in
    ap (with_map c.remove.new.map) (ap (λ v. v.state) c.self.view_is) ∙ ap (λ m. with_map m c.args.self.now.state) ended
