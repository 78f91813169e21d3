use Rattle.std.proofs.Common.{◌≡◌, sym, ap, ◌∙◌, subst}
use Rattle.rambo_node.specs.Acts as act
use Rattle.rambo_node.specs.declared.half.Going.{Going}
use Rattle.rambo_node.specs.Changes.{made_by}
use Rattle.rambo_node.specs.Halves.{IsEmpty}
use Rattle.rambo_node.specs.Prepared.{IsFound}
use Rattle.rambo_node.proofs.FirstHalves.{advance_ready}
use Rattle.rambo_node.proofs.node.Node.prepare_advance.Goals as goal

pub find_advance-requires : goal.find_advance-requires
find_advance-requires g c =
    let value = c.deref_mut.ensures.value in
    let empty = c.in_ok-going.ensures.empty in
    let own = ap (λ (w : Going _). w.moving.id) value ∙ empty.named in (
      c.requires-raw.1.1.0,
      (
        subst (λ (w : Going _). IsEmpty w.moving.id w) (sym value) (subst (λ n. IsEmpty n c.in_ok-going.going.value) (sym empty.named) empty),
        subst (λ n. IsFound g.Q.Quorums.system c.args.self.now.state n c.args.found) (sym own) c.requires,
      ),
    )

pub returns-clause-ready : goal.returns-clause-ready
returns-clause-ready g c =
    let found = c.in_ok-find_advance.ensures in
    let own = ap (λ (w : Going _). w.moving.id) c.deref_mut.ensures.value ∙ c.in_ok-going.ensures.empty.named in
    advance_ready g.Q.Quorums.system c.find_advance.new.self c.args.id _ (found.id ∙ own) found.moving
    (found.deed ∙ λ i. (made_by (sym found.same i) (act.Advance (own i))).deed)
