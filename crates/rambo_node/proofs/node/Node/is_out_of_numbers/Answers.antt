use Rattle.std.proofs.Common.{◌≡◌, true, sym, ap, ◌∙◌}
use Rattle.rambo_gossip.specs.Outlines.{outlined}
use Rattle.rambo_calls.specs.Hearing.{any_gap}
use Rattle.rambo_node.specs.Refusals.{restarts, is_last}
use Rattle.rambo_names.proofs.Sizes.{up_fits, back_fits, next}
use Rattle.rambo_node.proofs.LastNumbers.{gap_at_last, no_last}
use Rattle.rambo_node.proofs.node.Node.is_out_of_numbers.Goals as goal

pub any_gap-requires : goal.any_gap-requires
any_gap-requires g c = (back_fits _ _ _ (next _ _ _ _ (up_fits _ _ _ c.requires-raw.1.1)), back_fits _ _ _ (up_fits _ _ _ c.requires-raw.1.1))

pub returns-then-is_last : goal.returns-then-is_last
returns-then-is_last g c =
    let x = c.args.self.now.state in
    let gossip = c.in-Some.gossip in
    let last : is_last x.number ≡ true = sym (ap (λ v. is_last v.state.number) c.self.view_is) ∙ sym c.is_last.ensures ∙ c.if-is_last.true in
    gap_at_last _ _ _ last (c.any_gap.ensures ∙ ap (λ v. any_gap gossip.heard gossip.map.now v.state.calls) c.self.view_is ∙ ap (λ o. restarts x (outlined o)) (sym c.in-Some.is))

pub returns-else-is_last : goal.returns-else-is_last
returns-else-is_last g c =
    let x = c.args.self.now.state in
    let last : c.is_last.result ≡ is_last x.number = c.is_last.ensures ∙ ap (λ v. is_last v.state.number) c.self.view_is in
    no_last _ _ _ (sym last ∙ c.if-is_last.false) last
