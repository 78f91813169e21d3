use Rattle.std.proofs.Common.{subst, ap, ◌∙◌}
use Rattle.rambo_history.specs.Faults.{fault_of}
use Rattle.rambo_history.specs.Places.{TakesEvent}
use Rattle.rambo_history.proofs.Pushes.{indexed-push, fits-spots}
use Rattle.rambo_history.proofs.history.History.push_reserved.Goals as goal

pub take-requires-clause-fits : goal.take-requires-clause-fits
take-requires-clause-fits c = fits-spots c.self.inside.events.items c.args.event c.self.inside.places c.self.invariant (ap (λ h. fault_of h.events c.args.event) c.self.view_is ∙ c.requires.fits)

pub invariant_of-self : goal.invariant_of-self
invariant_of-self c =
    rw c.push_reserved.ensures.items
    (indexed-push c.self.inside.events.items c.args.event _ _ c.self.invariant (ap (λ h. fault_of h.events c.args.event) c.self.view_is ∙ c.requires.fits) (subst (λ n. TakesEvent c.args.event n c.self.inside.places c.take.new.self) (c.len.ensures ∙ c.self.inside.events.ok.0) c.take.ensures.spots))
