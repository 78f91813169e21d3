-- A book that keeps all that its run gives
use Rattle.std.specs.Prelude.{◌≡◌, ℕ, ◌≤◌, List, length, Option, Some}
use Rattle.rambo_names.specs.Quorums.{QuorumSystem}
use Rattle.rambo_history.specs.declared.event.Event.{Event}
use Rattle.rambo_gossip.specs.Letters.{LetterState}
use Rattle.rambo_node.specs.Steps.{Step}
use Rattle.rambo_run.specs.Legal.{IsLegal}
use Rattle.rambo_run.specs.Runs.{run}
use Rattle.rambo_sequence.specs.declared.mark.Mark.{Mark}
use Rattle.rambo_book.specs.Kept.{AreSent}

-- whatever a book keeps, with its run's own history and marks it is one of these, of which all lemmas of a step speak
pub record IsWhole {Q : Type 0} (s : QuorumSystem Q) (agreed : Option Q) (most : ℕ) (rolled : List (Step Q)) (founders : Q) (steps : List (Step Q)) (letters : List (LetterState Q)) (history : List Event) (marks : List Mark) (capacity : ℕ) : Type 0 where
  pub founded : agreed ≡ Some founders
  pub terms : capacity ≡ most
  pub all : rolled ≡ steps
  pub fits : length steps ≤ capacity
  pub legal : IsLegal s founders steps
  pub sent : AreSent (run s founders steps) letters
  pub told : history ≡ (run s founders steps).history
  pub marked : marks ≡ (run s founders steps).marks
