use Rattle.rambo_phase.specs.PhaseLaws.{letter_reply, letter_ignored}
use Rattle.rambo_phase.proofs.counting.counting_laws.Goals as goal

pub returns : goal.returns
returns g c = record { counted = letter_reply; others = letter_ignored }
