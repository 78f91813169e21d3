-- What an outbox knows of a call that goes on
use Rattle.std.specs.Prelude.{ℕ, List, [], option_to_list}
use Rattle.rambo_node.specs.declared.effect.Effect.{Effect}
use Rattle.rambo_node.specs.declared.effect.Effect.TheVariants.{Done, Called, Sent, Moved, Answered, Collected, Decided}
use Rattle.rambo_outbox.specs.declared.entry.Waiter.{Waiter}
use Rattle.rambo_outbox.specs.Outboxes.{OutboxState, answered, progressed}
use Rattle.rambo_outbox.specs.Waiting.{waiter_of}

-- a step of the call of a number had this effect: it was answered, or something else went on
abbrev pub settled : {Q : Type 0} → Effect Q → ℕ → OutboxState → OutboxState
settled (Answered id a) number b = answered number b
settled Done number b = progressed b
settled (Called id) number b = progressed b
settled (Sent n) number b = progressed b
settled Moved number b = progressed b
settled (Collected n place) number b = progressed b
settled (Decided n d) number b = progressed b

-- who is given then: who waited for the call, where it was answered
abbrev pub given_by : {Q : Type 0} → Effect Q → ℕ → OutboxState → List Waiter
given_by (Answered id a) number b = option_to_list (waiter_of number b.waiting)
given_by Done number b = []
given_by (Called id) number b = []
given_by (Sent n) number b = []
given_by Moved number b = []
given_by (Collected n place) number b = []
given_by (Decided n d) number b = []
