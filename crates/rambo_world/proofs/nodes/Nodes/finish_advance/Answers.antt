use Rattle.std.proofs.Common.{◌≡◌, ◌<◌, ◌-◌, ◌∙◌, ◌++◌, List, [], length, slice_set, refl, sym, ap, subst}
use Rattle.std.proofs.lemmas.List.{length-set}
use Rattle.std.specs.Prelude.{slice_index_or}
use Rattle.rambo_tag.specs.declared.keyed_version.KeyedVersion.{KeyedVersion}
use Rattle.rambo_tag.specs.Copies.{joined}
use Rattle.rambo_tag.proofs.Logged.{greatest_of-nil}
use Rattle.rambo_logs.specs.NodeLogs.{extended}
use Rattle.rambo_node.specs.Acts as act
use Rattle.rambo_node.specs.Changes.{made_by}
use Rattle.rambo_world.specs.Kept.{kept_of, kept_at, state_at, moved, SameBarRoom, AllGrow}
use Rattle.rambo_world.specs.Logging.{listed}
use Rattle.rambo_names.proofs.Sizes.{up_fits, back_fits}
use Rattle.rambo_world.proofs.Growth.{same_grow}
use Rattle.rambo_world.proofs.Logging.{made_name, made_recorded}
use Rattle.rambo_world.proofs.Zipping.{log_here, node_here, put_node, log_grows}
use Rattle.rambo_world.proofs.nodes.Nodes.finish_advance.Goals as goal

pub returns-in_err-make_log_room-clause-grow : goal.returns-in_err-make_log_room-clause-grow
returns-in_err-make_log_room-clause-grow g c =
    same_grow c.args.self.now _
    (subst (λ now. SameBarRoom now (kept_of c.self.inside.list.items c.make_log_room.new.logs.logs)) c.self.view_is
    (subst (λ ls. SameBarRoom (kept_of c.self.inside.list.items c.self.inside.logs.logs) (kept_of c.self.inside.list.items ls)) (sym c.make_log_room.ensures.same) (record { states = refl; logs = refl })))

pub finish_advance-requires : goal.finish_advance-requires
finish_advance-requires g c =
    let xs = c.self.inside.list.items in
    let ls = c.self.inside.logs.logs in
    let x = c.index_mut.result.now in
    let n = c.args.moving.now.id.name in
    let below : c.place_of.result < length xs = subst (λ n. c.place_of.result < n) (sym c.self.invariant.0) c.place_of.ensures.within in (
      back_fits _ _ _ (up_fits _ _ _ c.requires-raw.1.1.0),
      c.requires.moving _ (ap (λ ks. kept_at ks n) (sym c.self.view_is) ∙ log_here xs ls c.place_of.result n x x c.place_of.ensures.place c.place_of.ensures.named.0 below c.index_mut.ensures.value),
    )

pub invariant_of-self-2 : goal.invariant_of-self-2
invariant_of-self-2 g c =
    (length-set c.self.inside.list.items _ _ ∙ c.self.invariant.0, ap length c.log_copy.ensures.logged ∙ length-set c.make_log_room.new.logs.logs _ _ ∙ ap length c.make_log_room.ensures.same ∙ c.self.invariant.1)

pub returns-clause-nodes : goal.returns-clause-nodes
returns-clause-nodes g c =
    let xs = c.self.inside.list.items in
    let ls = c.self.inside.logs.logs in
    let x = c.index_mut.result.now in
    let id = c.args.moving.now.id in
    let below : c.place_of.result < length xs = subst (λ n. c.place_of.result < n) (sym c.self.invariant.0) c.place_of.ensures.within in
    put_node xs ls c.place_of.result id.name x c.finish_advance.new.self c.place_of.ensures.place c.place_of.ensures.named.0 below c.index_mut.ensures.value c.log_copy.new.logs.logs (λ y. (made_by y (act.Advance id)).node) c.finish_advance.ensures.node
    ∙ ap (λ now. moved now id.name (λ y. (made_by y (act.Advance id)).node)) c.self.view_is

pub returns-clause-grow : goal.returns-clause-grow
returns-clause-grow g c =
    let xs = c.self.inside.list.items in
    let ls = c.self.inside.logs.logs in
    let x = c.index_mut.result.now in
    let y = c.finish_advance.new.self in
    let id = c.args.moving.now.id in
    let made = c.finish_advance.ensures.node in
    let below : c.place_of.result < length xs = subst (λ n. c.place_of.result < n) (sym c.self.invariant.0) c.place_of.ensures.within in
    let here = ap (λ ks. state_at ks id.name) (sym c.self.view_is) ∙ node_here xs ls c.place_of.result id.name x x c.place_of.ensures.place c.place_of.ensures.named.0 below c.index_mut.ensures.value in
    let own : List KeyedVersion = slice_index_or ls (id.name - 1) [] in
    let more : List KeyedVersion = listed (made_by x.state (act.Advance id)).deed.copy in
    let within : id.name - 1 < length ls = subst (λ n. n < length ls) c.place_of.ensures.place (subst (λ n. c.place_of.result < n) (sym c.self.invariant.1) c.place_of.ensures.within) in
    let logs : c.log_copy.new.logs.logs ≡ extended ls id.name more = c.log_copy.ensures.logged ∙ λ i. extended (c.make_log_room.ensures.same i) id.name (listed (c.requires.deed x.state here i).copy) in
    subst (λ now. AllGrow now (kept_of (slice_set xs c.place_of.result y) c.log_copy.new.logs.logs)) c.self.view_is
    (subst (λ ms. AllGrow (kept_of xs ls) (kept_of (slice_set xs c.place_of.result y) ms)) (sym logs)
    (log_grows xs ls c.place_of.result id.name x y c.place_of.ensures.place c.place_of.ensures.named.0 below c.index_mut.ensures.value (own ++ more) within (record {
      name = ap (λ y. y.name) made ∙ made_name x.state (act.Advance id);
      extends = (more, refl);
      recorded = λ before. ap (λ y. y.registers) made ∙ made_recorded x.state own [] (act.Advance id) before (ap (joined x.state.registers) greatest_of-nil);
    })))
