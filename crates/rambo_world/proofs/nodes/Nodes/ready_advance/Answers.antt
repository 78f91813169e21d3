use Rattle.std.proofs.Common.{◌∙◌, sym, ap, subst}
use Rattle.std.proofs.lemmas.Result.{on_ok_weaker}
use Rattle.rambo_node.specs.Acts as act
use Rattle.rambo_node.specs.Changes.{made_by}
use Rattle.rambo_node.specs.Prepared.{IsMoving}
use Rattle.rambo_letters.proofs.Lists.{some_is}
use Rattle.rambo_world.specs.Kept.{KeptNode}
use Rattle.rambo_names.proofs.Sizes.{up_fits, back_fits}
use Rattle.rambo_world.proofs.Lent.{lent_back, lent_state, lent_same}
use Rattle.rambo_world.proofs.nodes.Nodes.ready_advance.Goals as goal

pub node_mut-requires : goal.node_mut-requires
node_mut-requires g c = (c.requires-raw.1.1.0, back_fits _ _ _ (up_fits _ _ _ c.requires-raw.1.1.0))

pub ready_advance-requires : goal.ready_advance-requires
ready_advance-requires g c =
    let lent = c.node_mut in
    let x = lent.result.now in
    (back_fits _ _ _ (up_fits _ _ _ c.requires-raw.1.1.0), (c.requires.found x.state (lent_state c.args.self.now c.args.moving.now.id.name x x lent.ensures.kept lent.ensures.named.0), (c.requires.alone, c.requires.quiet)))

pub returns-clause-same : goal.returns-clause-same
returns-clause-same g c =
    let lent = c.node_mut in
    lent_same c.args.self.now c.args.moving.now.id.name lent.result.now c.ready_advance.new.self lent.ensures.kept lent.ensures.named.0 c.ready_advance.ensures.same

pub returns-clause-moving : goal.returns-clause-moving
returns-clause-moving g c =
    let lent = c.node_mut in
    let y = c.ready_advance.new.self in
    on_ok_weaker c.ready_advance.result
    (λ moving k found. subst (λ (k : KeptNode _). IsMoving g.Q.Quorums.system k.node c.ready_advance.new.moving)
    (some_is _ k (sym (lent_back c.args.self.now c.args.moving.now.id.name lent.result.now y lent.ensures.kept lent.ensures.named.0) ∙ found)) moving)
    c.ready_advance.ensures.moving

pub returns-clause-deed : goal.returns-clause-deed
returns-clause-deed g c =
    let lent = c.node_mut in
    let x = lent.result.now in
    let id = c.args.moving.now.id in
    on_ok_weaker c.ready_advance.result
    (λ deed y found. deed ∙ ap (λ y. (made_by y (act.Advance id)).deed) (some_is x.state y (sym (lent_state c.args.self.now id.name x x lent.ensures.kept lent.ensures.named.0) ∙ found)))
    c.ready_advance.ensures.deed
