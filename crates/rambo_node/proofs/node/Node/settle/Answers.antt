use Rattle.std.proofs.Common.{◌≤◌, map, sym, ap, ◌∙◌, subst}
use Rattle.std.specs.FinSet as set
use Rattle.rambo_config_map.specs.Maps.{merged_map}
use Rattle.rambo_joiner.specs.Statuses.{woken}
use Rattle.rambo_gossip.specs.Outlines.{gossip_outlined}
use Rattle.rambo_node.specs.Hearing.{heard_gossip, collection_after, attempt_after, vote_after}
use Rattle.rambo_calls.specs.Hearing.{heard_call}
use Rattle.rambo_calls.specs.Kept.{IsRoomy}
use Rattle.rambo_bids.specs.Fitting.{AttemptFits}
use Rattle.rambo_node.specs.Nodes.{raised}
use Rattle.rambo_tag.proofs.StampLaws.{AreAtMost-later}
use Rattle.rambo_node.proofs.Late.{never_lower}
use Rattle.rambo_names.proofs.Sizes.{up_fits, back_fits, next}
use Rattle.rambo_node.proofs.node.Node.settle.Goals as goal

pub returns-clause-state : goal.returns-clause-state
unfolding heard_gossip
returns-clause-state g c =
    let v = ap (λ n. n.state) c.self.view_is in
    let from = c.args.from in
    let gossip = c.args.gossip.now in
    let name = ap (λ n. n.name) v in
    let merged = c.merge.ensures ∙ ap (λ n. merged_map n.map gossip.map.now) v in
    let kept = ap (λ n. n.calls) v in
    let number = c.requires.number in
    let calls = c.hear.ensures ∙ λ i. map (heard_call gossip.heard from gossip.map.now (number i) (merged i) (name i)) (kept i) in
    λ i. record {
      name = name i;
      status = (c.wake.ensures ∙ ap (λ n. woken n.status) v) i;
      known = (c.union-self-inside.ensures ∙ ap (λ n. set.union n.known gossip.known) v) i;
      registers = (v i).registers;
      map = merged i;
      number = number i;
      made = (v i).made;
      heard = (c.raise.ensures ∙ ap (λ n. raised n.heard from gossip.number) v) i;
      calls = calls i;
      collection = (c.hear_reply.ensures ∙ ap (λ n. collection_after n.collection from gossip.heard) v) i;
      attempt = (c.hear_vote.ensures.after ∙ ap (λ n. attempt_after n from (gossip_outlined gossip)) v) i;
      vote = (c.hear_offer.ensures ∙ ap (λ n. vote_after n (gossip_outlined gossip)) v) i;
    }

pub hear-requires : goal.hear-requires
hear-requires g c = (
  back_fits _ _ _ (next _ _ _ _ (up_fits _ _ _ c.requires-raw.1.1.0)),
  (back_fits _ _ _ (up_fits _ _ _ c.requires-raw.1.1.0), subst (λ n. IsRoomy c.args.gossip.now.map.now n.room.calls.list) (sym c.self.view_is) c.requires.room),
)

pub invariant_of-self : goal.invariant_of-self
invariant_of-self g c =
    let x = c.args.self.now.state in
    let above : x.number ≤ c.args.number = subst (λ n. x.number ≤ n) (sym c.requires.number) (never_lower x (gossip_outlined c.args.gossip.now)) in (
      subst (λ m. AttemptFits m c.hear_vote.new.attempt) (sym c.merge.ensures) (c.hear_vote.ensures.fits c.self.invariant.0),
      AreAtMost-later c.self.inside.number c.args.number (g.S.Replica.stamps c.self.inside.registers) (subst (λ v. v.state.number ≤ c.args.number) (sym c.self.view_is) above) c.self.invariant.1,
    )

pub merge-requires : goal.merge-requires
merge-requires g c = back_fits _ _ _ (up_fits _ _ _ c.requires-raw.1.1.0)

pub hear_vote-requires : goal.hear_vote-requires
hear_vote-requires g c = back_fits _ _ _ (up_fits _ _ _ c.requires-raw.1.1.0)

pub hear_offer-requires : goal.hear_offer-requires
hear_offer-requires g c = back_fits _ _ _ (up_fits _ _ _ c.requires-raw.1.1.0)
