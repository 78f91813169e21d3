-- What a closed post leaves
use Rattle.std.specs.Prelude.{◌≡◌, ◌≤◌, ℕ, List, length, IfSome, Option, Some}
use Rattle.rambo_names.specs.Quorums.{QuorumSystem}
use Rattle.rambo_history.specs.declared.event.CallId.{CallId}
use Rattle.rambo_history.specs.Proper.{IsProperForAll}
use Rattle.rambo_node.specs.Steps.{Step}
use Rattle.rambo_run.specs.Legal.{IsLegal}
use Rattle.rambo_run.specs.Runs.{run, given_order}

-- order: of the calls of all keys, where there was room for it
pub record LeftView (Q : Type 0) : Type 0 where
  pub steps : List (Step Q)
  pub order : Option (List CallId)

-- the steps are legal from these founders, and the order is the one that their run gives, which explains all answers together
pub record IsLeft {Q : Type 0} (s : QuorumSystem Q) (l : LeftView Q) (founders : Q) : Type 0 where
  pub legal : IsLegal s founders l.steps
  pub given : IfSome l.order (λ o. o ≡ given_order (run s founders l.steps))
  pub explained : IfSome l.order (λ o. IsProperForAll (run s founders l.steps).history o)

-- what a post leaves that was opened with these founders and this capacity, of which a token has seen these steps
pub record IsClosed {Q : Type 0} (s : QuorumSystem Q) (agreed : Option Q) (most : ℕ) (seen : List (Step Q)) (l : LeftView Q) : Type 0 where
  pub all : seen ≡ l.steps
  pub fits : length l.steps ≤ most
  pub left : (f : Q) → agreed ≡ Some f → IsLeft s l f

-- all steps of a post that has ended, and those that weren't drawn, where that is known
pub record EndedView (Q : Type 0) : Type 0 where
  pub all : List (Step Q)
  pub rest : Option (List (Step Q))

-- all steps are legal, and at most as many as the post takes
pub record IsEnded {Q : Type 0} (s : QuorumSystem Q) (agreed : Option Q) (most : ℕ) (all : List (Step Q)) : Type 0 where
  pub legal : (f : Q) → agreed ≡ Some f → IsLegal s f all
  pub fits : length all ≤ most
