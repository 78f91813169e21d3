-- What a node does: a step of it but for whose step it is, and with the letter itself where one comes
use Rattle.std.specs.Prelude.{ℕ, Option, None, Some}
use Rattle.std.specs.Option.{option_map}
use Rattle.rambo_history.specs.declared.event.CallId.{CallId}
use Rattle.rambo_history.specs.declared.operation.Op.{Op}
use Rattle.rambo_gossip.specs.Letters.{LetterState}
use Rattle.rambo_node.specs.declared.step.StepOf.{StepOf}
use Rattle.rambo_node.specs.declared.step.StepOf.TheVariants as step
use Rattle.rambo_node.specs.declared.prepared.Quiet.{Quiet}
use Rattle.rambo_node.specs.Steps.{Change, delivered_by, quiet_of}

pub data Act (Q : Type 0) : Type 0 where
  Call : Op → Act Q
  Send : ℕ → Act Q
  Hear : LetterState Q → Act Q
  Advance : CallId → Act Q
  Quietly : Quiet Q → Act Q

-- a node, by its name, and what it does
pub record Meant (Q : Type 0) : Type 0 where
  pub name : ℕ
  pub act : Act Q

-- the name of the node that is meant
abbrev pub name_in : {Q : Type 0} → Option (Meant Q) → Option ℕ
name_in None = None
name_in (Some m) = Some m.name

abbrev pub delivery : {Q : Type 0} → Option (LetterState Q) → Option (Meant Q)
delivery None = None
delivery (Some l) = Some (record { name = l.addressee; act = Hear l })

-- what a step means where this is the letter that it lets come, if it was sent
abbrev pub meant_by : {Q L : Type 0} → Option (LetterState Q) → StepOf Q L → Option (Meant Q)
meant_by o (step.Call n op) = Some (record { name = n; act = Call op })
meant_by o (step.Send n to) = Some (record { name = n; act = Send to })
meant_by o (step.Deliver l) = delivery o
meant_by o (step.Advance id) = Some (record { name = id.name; act = Advance id })
meant_by o st = option_map (λ p. record { name = p.0; act = Quietly p.1 }) (quiet_of st)

-- and of a node by itself
abbrev pub change_of : {Q : Type 0} → Change Q → Option (Meant Q)
change_of c = meant_by (delivered_by c) c
