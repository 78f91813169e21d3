-- What is true of every order with gets in their places
use Rattle.std.specs.Prelude.{◌≡◌, ◌≢◌, ℕ, List, ◌∷◌, ◌++◌, Some}
use Rattle.rambo_history.specs.declared.operation.Op.TheVariants as op
use Rattle.rambo_history.specs.declared.operation.Answer.TheVariants as answer
use Rattle.rambo_history.specs.declared.event.CallId.{CallId}
use Rattle.rambo_history.specs.declared.event.Event.{Event}
use Rattle.rambo_history.specs.Histories.{call_in, answer_in}
use Rattle.rambo_history.specs.Proper.{Stands}
use Rattle.rambo_placing.specs.Placings.{gets_of, with_gets}

-- a get of the key that was answered the value of a set of the key in the order stands behind that set
abbrev pub GetsStandBehind : Type 0
GetsStandBehind = (h : List Event) (key value : List ℕ) (front back : List CallId) (set get : CallId)
    → call_in h set ≡ Some (op.Set key value) → Stands (gets_of key h) get → answer_in h get ≡ Some (answer.Value value)
    → (before : List CallId) × (behind : List CallId) × (with_gets h key (front ++ set ∷ back) ≡ before ++ set ∷ behind) × Stands behind get

-- of two entries that aren't gets of the key the second stands behind the first
abbrev pub OthersKeepTheirOrder : Type 0
OthersKeepTheirOrder = (h : List Event) (key : List ℕ) (front between back : List CallId) (c d : CallId)
    → call_in h c ≢ Some (op.Get key) → call_in h d ≢ Some (op.Get key)
    → (before : List CallId) × (amid : List CallId) × (behind : List CallId)
    × (with_gets h key (front ++ c ∷ (between ++ d ∷ back)) ≡ before ++ c ∷ (amid ++ d ∷ behind))
