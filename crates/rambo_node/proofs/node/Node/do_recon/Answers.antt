use Rattle.rambo_names.proofs.Sizes.{up_fits, back_fits}
use Rattle.std.proofs.Common.{◌≡◌, Some, nat_le, arith, length, sym, ap, ◌∙◌, subst}
use Rattle.rambo_config_map.specs.Maps.{top_of}
use Rattle.rambo_config_map.specs.MapLaws.{top_below}
use Rattle.rambo_bids.specs.Fitting.{AttemptFits}
use Rattle.rambo_node.specs.Refusals.{is_last}
use Rattle.rambo_paxos.specs.Votes.{is_spent}
use Rattle.rambo_node.proofs.Judged.{recon_next, has_next}
use Rattle.rambo_node.proofs.Fitting.{fits_opened}
use Rattle.rambo_node.proofs.node.Node.do_recon.Goals as goal

pub overflow_add-place : goal.overflow_add-place
overflow_add-place g c =
    let x = c.args.self.now.state in
    let own : c.top_of-place.result ≡ top_of c.self.inside.map = omega (arith, top_below c.self.inside.map, c.top_of-place.ensures.next) in
    let top = own ∙ ap (λ v. top_of v.state.map) c.self.view_is in
    has_next c.top_of-place.result (assumption) (ap is_last top ∙ (recon_next x g.Q.Quorums.system c.args.wish c.requires).2)

pub attempt_of-requires : goal.attempt_of-requires
attempt_of-requires g c = ap (λ v. is_spent v.state.vote) c.self.view_is ∙ (recon_next c.args.self.now.state g.Q.Quorums.system c.args.wish c.requires).1

pub invariant_of-self : goal.invariant_of-self
invariant_of-self g c =
    let m = c.self.inside.map in
    let opened = fits_opened m _ _ _ _ (sym c.top_of-place.ensures.next) (ap (λ v. nat_le 8 (length v.state.map.configs)) c.self.view_is ∙ (recon_next c.args.self.now.state g.Q.Quorums.system c.args.wish c.requires).0) in
    (subst (λ a. AttemptFits m (Some a)) (sym c.attempt_of.ensures.attempt) opened, c.self.invariant.1)

pub top_of-place-requires : goal.top_of-place-requires
top_of-place-requires g c = back_fits _ _ _ (up_fits _ _ _ c.requires-raw.1.1.0)
