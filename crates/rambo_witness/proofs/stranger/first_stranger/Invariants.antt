use Rattle.std.proofs.Common.{take}
use Rattle.std.specs.Option.{option_copied}
use Rattle.rambo_history.specs.Proper.{EverySplit}
use Rattle.rambo_witness.specs.Witnesses.{IsOwn}
use Rattle.rambo_witness.proofs.stranger.first_stranger.Given as goal

abbrev pub invariant-loop-id : goal.invariant-loop-id
invariant-loop-id l = EverySplit (λ front c back. IsOwn l.history.events (option_copied l.key) c) (take l.id-index l.order)
