use Rattle.std.proofs.Common.{Some, sym, ap, ◌∙◌, subst}
use Rattle.rambo_bids.specs.Fitting.{AttemptFits}
use Rattle.rambo_node.specs.Nodes.{NodeState}
use Rattle.rambo_node.specs.Reconfigurations.{attempt_rebid}
use Rattle.rambo_paxos.specs.Attempts.{AttemptState, rebid, vote_opened}
use Rattle.rambo_paxos.specs.Votes.{VoteState, is_spent}
use Rattle.rambo_node.proofs.Fitting.{fits_rebid}
use Rattle.rambo_node.proofs.node.Node.bid_again.Goals as goal

abbrev bidding : {Q : Type 0} → AttemptState Q → VoteState Q → NodeState Q → NodeState Q
bidding a v x = record x { attempt = Some a; vote = v }

pub rebid-requires : goal.rebid-requires
rebid-requires g c = ap (λ v. is_spent v.state.vote) c.self.view_is ∙ c.requires.next

pub invariant_of-self : goal.invariant_of-self
invariant_of-self g c =
    let m = c.self.inside.map in
    let again = fits_rebid m c.args.attempt _ (subst (AttemptFits m) (ap (λ v. v.state.attempt) c.self.view_is ∙ c.requires.held) c.self.invariant.0) in
    (subst (λ a. AttemptFits m (Some a)) (sym c.rebid.ensures.attempt) again, c.self.invariant.1)

pub returns-clause-state : goal.returns-clause-state
unfolding attempt_rebid
returns-clause-state g c =
    let a = c.args.attempt in
    let x = c.args.self.now.state in
    ap (bidding c.rebid.result c.rebid.new.vote) (ap (λ v. v.state) c.self.view_is)
    ∙ ap (λ b. bidding b c.rebid.new.vote x) (c.rebid.ensures.attempt ∙ ap (λ v. rebid a v.state.vote) c.self.view_is)
    ∙ ap (λ v. bidding (rebid a x.vote) v x) (c.rebid.ensures.vote ∙ ap (λ v. vote_opened v.state.vote a.ballot.name) c.self.view_is)
