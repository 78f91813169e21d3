-- What a keeper does by itself: the first step of a list that isn't refused
use Rattle.std.specs.Prelude.{◌≡◌, ◌≢◌, ℕ, List, [], ◌∷◌, ◌++◌, map, find, All, Option, Some, is_none}
use Rattle.rambo_names.specs.Quorums.{QuorumSystem}
use Rattle.rambo_history.specs.declared.operation.Op.{Op}
use Rattle.rambo_node.specs.Nodes.{NodeState}
use Rattle.rambo_node.specs.Steps.{Step}
use Rattle.rambo_node.specs.declared.step.StepOf.TheVariants as step
use Rattle.rambo_run.specs.Worlds.{WorldState, node_at}
use Rattle.rambo_run.specs.Actors.{sent_by}
use Rattle.rambo_run.specs.Runs.{run}
use Rattle.rambo_run.specs.Steps.{refusal}
use Rattle.rambo_mail.specs.declared.mail.Mail.{Mail}
use Rattle.rambo_book.specs.Kept.{BookView, KeeperView, IsMailOf}
use Rattle.rambo_book.specs.Mailing.{without}
use Rattle.rambo_pick.specs.Picking.{Candidate, candidates}

-- the first of these steps that isn't refused
abbrev pub first_of : {Q : Type 0} → QuorumSystem Q → WorldState Q → List (Step Q) → Option (Step Q)
first_of {Q} s w sts = find (λ (st : Step Q). is_none (refusal s w st)) sts

-- the steps that a node that has this tray may do by itself
abbrev pub steps_of : {Q : Type 0} → NodeState Q → List (Mail Q) → List (Step Q)
steps_of {Q} x tray = map (λ (c : Candidate Q). c.step) (candidates x tray)

-- a book has one more step
abbrev pub longer : {Q : Type 0} → BookView Q → Step Q → BookView Q
longer b st = record b { steps = b.steps ++ st ∷ [] }

-- a tray after a step: a letter that came has left it
abbrev pub cleared : {Q : Type 0} → List (Mail Q) → Step Q → List (Mail Q)
cleared tray (step.Deliver number) = without tray number
cleared tray _ = tray

-- what a keeper does next by what it has seen, if there is something to do
abbrev pub next_of : {Q : Type 0} → QuorumSystem Q → Q → KeeperView Q → Option (Step Q)
next_of s f k = first_of s (run s f k.seen) (steps_of k.node k.tray)

-- what the node of a name does next by itself after these steps, if there is something to do, with some of the letters that
-- were sent to it
pub record IsNext {Q : Type 0} (s : QuorumSystem Q) (founders : Q) (name : ℕ) (next : Option (Step Q)) (seen : List (Step Q)) : Type 0 where
  pub node : NodeState Q
  pub here : node_at (run s founders seen) name ≡ Some node
  pub tray : List (Mail Q)
  pub mail : All (IsMailOf (run s founders seen) name) tray
  pub first : next ≡ first_of s (run s founders seen) (steps_of node tray)

-- it has no bytes, and sends no letter
pub record IsQuiet {Q : Type 0} (st : Step Q) : Type 0 where
  pub no_call : (name : ℕ) (op : Op) → st ≢ step.Call name op
  pub unsent : sent_by st ≡ []

-- a book whose letters wait so, and a keeper that has seen its steps and has this tray
abbrev pub mailed : {Q : Type 0} → BookView Q → List (List ℕ) → BookView Q
mailed b lists = record b { waiting = lists }

abbrev pub informed : {Q : Type 0} → BookView Q → KeeperView Q → List (Mail Q) → KeeperView Q
informed b k tray = record k { tray = tray; seen = b.steps }
