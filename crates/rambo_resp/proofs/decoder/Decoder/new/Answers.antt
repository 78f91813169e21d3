use Rattle.std.proofs.Common.{[], None, sym, ap, subst}
use Rattle.rambo_resp.specs.Progresses.{ProgressState}
use Rattle.rambo_resp.specs.Decoders.{HasTaken}
use Rattle.rambo_resp.proofs.Readings.{stands_new, stands_taken}
use Rattle.rambo_resp.proofs.Feeding.{view, fresh_reached}
use Rattle.rambo_resp.proofs.decoder.Decoder.new.Goals as goal

pub invariant_of-result : goal.invariant_of-result
invariant_of-result c = fresh_reached c.new.result.rest (ap (λ (p : ProgressState). p.rest) c.new.ensures)

pub returns-clause-taken : goal.returns-clause-taken
returns-clause-taken c = subst (λ p. HasTaken (view p None) [] 0) (sym c.new.ensures) (stands_taken 0 _ [] stands_new)
