-- What a contract sees of a history
use Rattle.std.specs.Prelude.{ℕ, List}
use Rattle.rambo_history.specs.declared.event.Event.{Event}

-- the events, and how many more of them can be pushed without allocating
pub record HistoryState : Type 0 where
  pub events : List Event
  pub room : ℕ
