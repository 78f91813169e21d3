use Rattle.std.proofs.Common.{length, ap, ◌∙◌}
use Rattle.rambo_names.proofs.Sizes.{back_fits, up_fits, variant_fits}
use Rattle.rambo_recovery.proofs.recovery.Recovery.into_parts.Goals as goal

pub drop-spare-requires : goal.drop-spare-requires
drop-spare-requires g c = variant_fits _ _ _ _ (back_fits _ _ _ (up_fits _ _ _ (back_fits _ _ _ (up_fits _ _ _ (back_fits _ _ _ (up_fits _ _ _ c.requires-raw.1.1.1))))))

pub returns-clause-drawn : goal.returns-clause-drawn
returns-clause-drawn g c = (c.draw.ensures.given (c.draw.ensures.knows c.self.invariant.drawer)).1 ∙ c.self.view_is

pub returns-clause-rest : goal.returns-clause-rest
returns-clause-rest g c = (c.draw.ensures.given (c.draw.ensures.knows c.self.invariant.drawer)).2 ∙ ap length c.self.view_is
