use Rattle.rambo_names.proofs.Sizes.{up_fits, back_fits}
use Rattle.std.proofs.Common.{◌≡◌, false, nat_lt, sym, ap, ◌∙◌}
use Rattle.std.proofs.lemmas.Bool.{ltb-false}
use Rattle.rambo_config_map.specs.Maps.{end_of}
use Rattle.rambo_node.proofs.Judged.{bid_met}
use Rattle.rambo_node.proofs.node.Node.turn_attempt.Goals as goal

pub bid-requires : goal.bid-requires
bid-requires g c =
    let x = c.args.self.now.state in
    let a = c.args.attempt in
    let unknown : nat_lt a.place (end_of x.map) ≡ false =
    sym (c.is_known.ensures ∙ ap (λ p. nat_lt p (end_of c.self.inside.map)) c.place.ensures ∙ ap (λ v. nat_lt a.place (end_of v.state.map)) c.self.view_is) ∙ c.if-is_known.false in
    (assumption, (c.requires.held, (ltb-false a.place (end_of x.map) unknown, bid_met x g.Q.Quorums.system a c.requires.judged c.requires.held unknown)))

pub end_attempt-requires : goal.end_attempt-requires
end_attempt-requires g c = assumption

pub place-requires : goal.place-requires
place-requires g c = assumption

pub is_known-requires : goal.is_known-requires
is_known-requires g c = back_fits _ _ _ (up_fits _ _ _ c.requires-raw.1.1.0)
