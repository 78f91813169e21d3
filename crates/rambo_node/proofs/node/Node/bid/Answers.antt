use Rattle.std.proofs.lemmas.Grind.{common_steps}
use Rattle.rambo_names.proofs.Sizes.{up_fits, back_fits}
use Rattle.std.proofs.Common.{◌≤◌, Some, None, Fits, w64, sym, ap, ◌∙◌, subst, arith}
use Rattle.rambo_config_map.specs.Maps.{MapState, active_at, end_of, top_of, learnt}
use Rattle.rambo_gc.specs.Collections.{has_quorum}
use Rattle.rambo_node.specs.Changes.{bid_made}
use Rattle.rambo_bids.specs.Fitting.{AttemptFits}
use Rattle.rambo_node.specs.Nodes.{NodeState}
use Rattle.rambo_node.specs.Reconfigurations.{attempt_moved, config_learnt}
use Rattle.rambo_paxos.specs.Attempts.{AttemptState, advanced, vote_advanced}
use Rattle.rambo_paxos.specs.Votes.{VoteState}
use Rattle.rambo_node.proofs.Fitting.{fits_advanced}
use Rattle.rambo_node.proofs.node.Node.bid.Goals as goal

pub go_on-requires : goal.go_on-requires
go_on-requires g c =
    (back_fits _ _ _ (up_fits _ _ _ c.requires-raw.1.1.0), ap (λ v. has_quorum g.Q.Quorums.system (active_at v.state.map (top_of v.state.map)) c.args.attempt.repliers) c.self.view_is ∙ c.requires.met)

abbrev bidding : {Q : Type 0} → AttemptState Q → VoteState Q → NodeState Q → NodeState Q
bidding a v x = record x { attempt = Some a; vote = v }

abbrev learning : {Q : Type 0} → MapState Q → VoteState Q → NodeState Q → NodeState Q
learning m v x = record x { map = m; attempt = None; vote = v }

pub invariant_of-self : goal.invariant_of-self
invariant_of-self g c =
    let m = c.self.inside.map in
    let gone = fits_advanced m c.args.attempt _ (subst (AttemptFits m) (ap (λ v. v.state.attempt) c.self.view_is ∙ c.requires.held) c.self.invariant.0) in
    (subst (λ a. AttemptFits m (Some a)) (sym c.go_on.ensures.attempt) gone, c.self.invariant.1)

pub learn-requires : goal.learn-requires
learn-requires g c =
    let m = c.self.inside.map in
    let a = c.args.attempt in
    let fits = subst (AttemptFits m) (ap (λ v. v.state.attempt) c.self.view_is ∙ c.requires.held) c.self.invariant.0 in
    let unknown : end_of m ≤ a.place = subst (λ n. end_of n.map ≤ a.place) (sym (ap (λ v. v.state) c.self.view_is)) c.requires.unknown in
    let within : Fits w64 c.place-place.result = assumption in
    let same = c.place-place.ensures in
    (back_fits _ _ _ (up_fits _ _ _ c.requires-raw.1.1.0), (fits.1 unknown, omega (arith, unknown, within, same)))

pub returns-in-Propose-clause-node : goal.returns-in-Propose-clause-node
unfolding attempt_moved
returns-in-Propose-clause-node g c =
    let a = c.args.attempt in
    let x = c.args.self.now.state in
    ap (bidding c.go_on.new.attempt c.go_on.new.vote) (ap (λ v. v.state) c.self.view_is)
    ∙ ap (λ b. bidding b c.go_on.new.vote x) (c.go_on.ensures.attempt ∙ ap (λ v. advanced a v.state.vote) c.self.view_is)
    ∙ ap (λ v. bidding (advanced a x.vote) v x) (c.go_on.ensures.vote ∙ ap (λ v. vote_advanced a v.state.vote) c.self.view_is)
    ∙ sym (ap (λ b. (bid_made x a b).node) (sym c.go_on.ensures.bid ∙ c.in-Propose.is))

pub returns-in-Chosen-clause-node : goal.returns-in-Chosen-clause-node
unfolding config_learnt
returns-in-Chosen-clause-node g c =
    let a = c.args.attempt in
    let x = c.args.self.now.state in
    ap (learning c.learn.new.map c.go_on.new.vote) (ap (λ v. v.state) c.self.view_is)
    ∙ ap (λ m. learning m c.go_on.new.vote x) (c.learn.ensures ∙ ap (λ v. learnt v.state.map c.in-Chosen.config) c.self.view_is)
    ∙ ap (λ v. learning (learnt x.map c.in-Chosen.config) v x) (c.go_on.ensures.vote ∙ ap (λ v. vote_advanced a v.state.vote) c.self.view_is)
    ∙ sym (ap (λ b. (bid_made x a b).node) (sym c.go_on.ensures.bid ∙ c.in-Chosen.is))

pub returns-in-Propose-clause-effect : goal.returns-in-Propose-clause-effect
returns-in-Propose-clause-effect g c = grind (arith, common_steps)

pub returns-in-Chosen-clause-effect : goal.returns-in-Chosen-clause-effect
returns-in-Chosen-clause-effect g c = grind (arith, common_steps)

pub returns-in-Propose-clause-beside : goal.returns-in-Propose-clause-beside
returns-in-Propose-clause-beside g c = grind (arith, common_steps)

pub returns-in-Chosen-clause-beside : goal.returns-in-Chosen-clause-beside
returns-in-Chosen-clause-beside g c = grind (arith, common_steps)
