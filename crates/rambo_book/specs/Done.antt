-- What a step did
use Rattle.std.specs.Prelude.{List, Option}
use Rattle.rambo_history.specs.declared.event.Event.{Event}
use Rattle.rambo_gossip.specs.Letters.{LetterState}
use Rattle.rambo_sequence.specs.declared.mark.Mark.{Mark}
use Rattle.rambo_node.specs.declared.effect.Effect.{Effect}
use Rattle.rambo_node.specs.Changes.{Made}
use Rattle.rambo_run.specs.Steps.{effect_in}

pub record Done (Q : Type 0) : Type 0 where
  pub effect : Effect Q
  pub event : Option Event
  pub mark : Option Mark
  pub letter : Option (LetterState Q)

-- what goes to the letters, the history and the marks, and what is reported
abbrev pub done : {Q : Type 0} → List (LetterState Q) → Made Q → Done Q
done ls m = record { effect = effect_in ls m.deed.effect m.letter; event = m.deed.event; mark = m.deed.mark; letter = m.letter }
