use Rattle.std.proofs.Common.{ap, ◌∙◌}
use Rattle.rambo_names.proofs.Sizes.{back_fits, up_fits, next}
use Rattle.rambo_phase.specs.Phases.{is_met}
use Rattle.rambo_phase.proofs.phase.Phase.met.Goals as goal

pub have_quorums-requires : goal.have_quorums-requires
have_quorums-requires g c = back_fits _ _ _ (next _ _ _ _ (up_fits _ _ _ c.requires-raw.1))

pub returns : goal.returns
returns g c = c.have_quorums.ensures ∙ ap (λ p. is_met g.Q.Quorums.system p.state) c.self.view_is
