use Rattle.rambo_names.proofs.Sizes.{up_fits, back_fits}
use Rattle.std.proofs.Common.{◌≡◌, Some, None, OnOk, IfErr, ap, subst}
use Rattle.rambo_names.specs.Refusals.{least}
use Rattle.rambo_bids.specs.Wishes.{wish_causes}
use Rattle.rambo_node.proofs.node.Node.may_wish.Goals as goal

pub returns-clause-ok : goal.returns-clause-ok
returns-clause-ok g c =
    subst (λ n. OnOk c.may_wish.result (least (wish_causes g.Q.Quorums.system n.name n.known n.map n.vote n.attempt c.args.wish.now) ≡ None)) (ap (λ v. v.state) c.self.view_is) c.may_wish.ensures.ok

pub returns-clause-refused : goal.returns-clause-refused
returns-clause-refused g c =
    subst (λ n. IfErr c.may_wish.result (λ r. least (wish_causes g.Q.Quorums.system n.name n.known n.map n.vote n.attempt c.args.wish.now) ≡ Some r)) (ap (λ v. v.state) c.self.view_is) c.may_wish.ensures.refused

pub may_wish-requires : goal.may_wish-requires
may_wish-requires g c = back_fits _ _ _ (up_fits _ _ _ c.requires-raw.1.1)
