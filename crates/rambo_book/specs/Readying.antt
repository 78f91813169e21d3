-- Steps whose first half is made
use Rattle.std.specs.Prelude.{◌≡◌, ℕ, nat_eq, if◌then◌else◌, List, [], ◌∷◌, slice_get, Option, None, Some}
use Rattle.std.specs.Option.{option_and_then}
use Rattle.rambo_names.specs.Quorums.{QuorumSystem}
use Rattle.rambo_gossip.specs.Letters.{LetterState}
use Rattle.rambo_node.specs.Acts.{Act}
use Rattle.rambo_node.specs.Nodes.{RoomyNode}
use Rattle.rambo_node.specs.Steps.{Step, delivered_by}
use Rattle.rambo_run.specs.Worlds.{WorldState}
use Rattle.rambo_run.specs.Steps.{meant, refusal, letter_in}
use Rattle.rambo_run.specs.Runs.{run}
use Rattle.rambo_mail.specs.declared.mail.Mail.{Mail}
use Rattle.rambo_node.specs.Halves.{IsReadyStep, outline_of}
use Rattle.rambo_book.specs.declared.readied.Ready.{Ready}
use Rattle.rambo_book.specs.Kept.{KeeperView}

-- a letter of this number is in a tray
abbrev pub IsIn : {Q : Type 0} → List (Mail Q) → ℕ → Type 0
IsIn {Q} tray number = (place : ℕ) × (m : Mail Q) × (slice_get tray place ≡ Some m) × (m.number ≡ number)

-- the oldest one
abbrev pub mail_in : {Q : Type 0} → List (Mail Q) → ℕ → Option (LetterState Q)
mail_in [] number = None
mail_in (m ∷ ms) number = if nat_eq m.number number then Some m.letter else mail_in ms number

-- the letter of a tray that a step delivers, if it delivers one
abbrev pub came_in : {Q : Type 0} → List (Mail Q) → Step Q → Option (LetterState Q)
came_in tray st = option_and_then (mail_in tray) (delivered_by st)

-- the node of a keeper, with the room that is in it
abbrev pub roomy : {Q : Type 0} → KeeperView Q → RoomyNode Q
roomy k = record { state = k.node; room = k.room; beside = k.beside }

-- in this world a step is one of the keeper's node, and isn't refused; and its first half is made, by the letter that
-- it delivers, if it delivers one, which it brings along
pub record IsReadyIn {Q : Type 0} (s : QuorumSystem Q) (w : WorldState Q) (k : KeeperView Q) (r : Ready Q) : Type 0 where
  pub act : Act Q
  pub means : meant w r.step ≡ Some (record { name = k.name; act = act })
  pub accepted : refusal s w r.step ≡ None
  pub ready : IsReadyStep s (roomy k) (outline_of (letter_in w.letters r.step)) act r.half
  pub brings : outline_of r.letter ≡ outline_of (letter_in w.letters r.step)

-- that holds in the run of what the keeper has seen
abbrev pub IsReadyFor : {Q : Type 0} → QuorumSystem Q → Option Q → KeeperView Q → Ready Q → Type 0
IsReadyFor {Q} s agreed k r = (f : Q) → agreed ≡ Some f → IsReadyIn s (run s f k.seen) k r
