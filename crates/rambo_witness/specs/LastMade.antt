-- Which call of a front was made last
use Rattle.std.specs.Prelude.{◌≡◌, ℕ, ◌≤◌, true, List, Option, None, Some}
use Rattle.rambo_history.specs.declared.event.CallId.{CallId}
use Rattle.rambo_history.specs.declared.event.Event.{Event}
use Rattle.rambo_history.specs.Histories.{answered_before, called_at}
use Rattle.rambo_history.specs.Proper.{Stands}
use Rattle.rambo_atomic.specs.declared.verdict.Rule.TheVariants.{OutOfOrder}
use Rattle.rambo_witness.specs.declared.out_of_order.Made.{Made}
use Rattle.rambo_witness.specs.declared.witness.Witness.{Witness}
use Rattle.rambo_witness.specs.Witnesses.{Breaks}

-- it stands in the front at its place in the history, and no call of the front was made behind it; None where none was made
abbrev pub HasLast : List Event → List CallId → Option Made → Type 0
HasLast h front None = (d : CallId) → Stands front d → called_at h d ≡ None
HasLast h front (Some m) =
    Stands front m.call × (called_at h m.call ≡ Some m.place) × ((d : CallId) (n : ℕ) → Stands front d → called_at h d ≡ Some n → n ≤ m.place)

-- whether a call breaks the rule of real time behind a front: None where it doesn't
abbrev pub DecidesTime : List Event → List CallId → CallId → Option Witness → Type 0
DecidesTime h front c None = (d : CallId) → Stands front d → ¬ (answered_before h c d ≡ true)
DecidesTime h front c (Some w) = (w.call ≡ c) × ((key : Option (List ℕ)) → Breaks OutOfOrder h key front w)
