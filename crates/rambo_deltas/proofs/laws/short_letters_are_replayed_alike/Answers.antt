use Rattle.rambo_deltas.proofs.Alike.{short_letters_are_replayed_alike}
use Rattle.rambo_deltas.proofs.laws.short_letters_are_replayed_alike.Goals as goal

pub returns : goal.returns
returns g c = record { alike = short_letters_are_replayed_alike }
