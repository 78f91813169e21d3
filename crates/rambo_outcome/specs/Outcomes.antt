-- What an outcome says, line by line
use Rattle.std.specs.Prelude.{ℕ, ◌+◌, List, [], ◌∷◌, ◌++◌, map, Option, None, Some, Result, Ok, Err}
use Rattle.rambo_names.specs.declared.refusal.Refusal.{Refusal}
use Rattle.rambo_names.specs.Refusals.{number_of}
use Rattle.rambo_names.specs.Weights.{Weights}
use Rattle.rambo_history.specs.declared.operation.Op.{Op}
use Rattle.rambo_history.specs.declared.event.CallId.{CallId}
use Rattle.rambo_history.specs.declared.event.Event.{Event}
use Rattle.rambo_history.specs.declared.event.Event.TheVariants as event
use Rattle.rambo_history.specs.Histories.{call_in}
use Rattle.rambo_node.specs.declared.effect.Effect.{Effect}
use Rattle.rambo_node.specs.declared.effect.Effect.TheVariants as effect
use Rattle.rambo_run.specs.Runs.{MapOf, OutcomeState}
use Rattle.rambo_text.specs.declared.version.Version.{Version}
use Rattle.rambo_text.specs.declared.version.Version.TheVariants.{One, Two}
use Rattle.rambo_text.specs.Versions.{head_text}
use Rattle.rambo_check.specs.Lines.{Item, Happened, Collected, Settled, Refused, Ordered, OrderedAll, Mapped, items_text}

-- a call that was made, with what the history says that it asked
abbrev pub call_items : CallId → Option Op → List Item
call_items c None = []
call_items c (Some o) = Happened (event.Call c o) ∷ []

-- what is reported of a step: a call, an answer, the end of a collection or of an attempt, or a refusal
abbrev pub step_items : List Event → ℕ → Result (Effect Weights) Refusal → List Item
step_items h n (Ok effect.Done) = []
step_items h n (Ok (effect.Called c)) = call_items c (call_in h c)
step_items h n (Ok (effect.Sent l)) = []
step_items h n (Ok effect.Moved) = []
step_items h n (Ok (effect.Answered c a)) = Happened (event.Answer c a) ∷ []
step_items h n (Ok (effect.Collected name place)) = Collected name place ∷ []
step_items h n (Ok (effect.Decided name d)) = Settled name d.place d.config ∷ []
step_items h n (Err r) = Refused n (number_of r) ∷ []

-- step by step, from a number on
abbrev pub steps_items : List Event → ℕ → List (Result (Effect Weights) Refusal) → List Item
steps_items h n [] = []
steps_items h n (r ∷ rs) = step_items h n r ++ steps_items h (n + 1) rs

-- a map
abbrev pub map_item : MapOf Weights → Item
map_item m = Mapped m.name m.floor m.active

-- the order of the calls of all keys, where it has a call
abbrev pub order_items : List CallId → List Item
order_items [] = []
order_items (c ∷ cs) = OrderedAll (c ∷ cs) ∷ []

-- it is reported in version 2 alone
abbrev pub order_items_in : Version → List CallId → List Item
order_items_in One calls = []
order_items_in Two calls = order_items calls

-- the steps, then the sequences, then the order of all keys, then the maps
abbrev pub outcome_items : Version → OutcomeState Weights → List Item
outcome_items version o = steps_items o.history 1 o.effects ++ map Ordered o.sequences ++ order_items_in version o.order ++ map map_item o.maps

-- the text of an outcome in a version
abbrev pub outcome_lines : Version → OutcomeState Weights → List ℕ
outcome_lines version o = head_text version ++ items_text (outcome_items version o)
