-- Keepers and a book that take steps again, and why they don't take one
use Rattle.std.specs.Prelude.{◌≡◌, ℕ, ◌+◌, ◌⊎◌, Bool, true, false, List, [], length, slice_get, Some}
use Rattle.rambo_names.specs.declared.refusal.Refusal.{Refusal}
use Rattle.rambo_names.specs.declared.refusal.Refusal.TheVariants.{LetterGone, OutOfMemory}
use Rattle.rambo_names.specs.Quorums.{QuorumSystem}
use Rattle.rambo_gossip.specs.Letters.{LetterState}
use Rattle.rambo_mail.specs.Waiting.{divides}
use Rattle.rambo_node.specs.Steps.{Step}
use Rattle.rambo_node.specs.declared.step.StepOf.TheVariants as step
use Rattle.rambo_run.specs.Runs.{run}
use Rattle.rambo_run.specs.Steps.{refusal}
use Rattle.rambo_run.specs.Worlds.{WorldState, letter_at}
use Rattle.rambo_book.specs.Kept.{BookView, KeeperView, Told, state}
use Rattle.rambo_book.specs.Readying.{IsIn}
use Rattle.rambo_book.specs.Windows.{delivers_gone, gone_of}
use Rattle.rambo_pass.specs.Passes.{HasStopped}

-- the keeper at a place has the next number as its name: the first has the name 1
abbrev pub AreNamed : {Q : Type 0} → List (KeeperView Q) → Type 0
AreNamed {Q} ks = (place : ℕ) (k : KeeperView Q) → slice_get ks place ≡ Some k → k.name ≡ place + 1

-- the letter of a number is in one of the trays
abbrev pub IsInSome : {Q : Type 0} → List (KeeperView Q) → ℕ → Type 0
IsInSome {Q} ks number = (place : ℕ) × (k : KeeperView Q) × (slice_get ks place ≡ Some k) × IsIn k.tray number

-- one of these steps delivered it
abbrev pub IsDelivered : {Q : Type 0} → List (Step Q) → ℕ → Type 0
IsDelivered {Q} steps number = (place : ℕ) × (slice_get steps place ≡ Some (step.Deliver number))

-- it was sent to a node that has stopped
abbrev pub IsForStopped : {Q : Type 0} → WorldState Q → ℕ → Type 0
IsForStopped {Q} w number = (l : LetterState Q) × (letter_at w.letters number ≡ Some l) × HasStopped w l.addressee

-- after these steps nobody waits for the letter of a number: each of which lose divides the number is lost, it was delivered, or
-- it was sent to a node that has stopped
abbrev pub IsSpent : {Q : Type 0} → QuorumSystem Q → Q → ℕ → List (Step Q) → ℕ → Type 0
IsSpent s founders lose steps number = (divides lose number ≡ true) ⊎ (IsDelivered steps number ⊎ IsForStopped (run s founders steps) number)

-- each letter that was sent, and that somebody may wait for, is in a tray
abbrev pub AreHeld : {Q : Type 0} → QuorumSystem Q → BookView Q → List (KeeperView Q) → Type 0
AreHeld {Q} s b ks = (number : ℕ) (l : LetterState Q) → letter_at (state s b).letters number ≡ Some l → IsSpent s b.founders b.lose b.steps number ⊎ IsInSome ks number

-- there is a keeper for each of the 64 names, and a list of letters that wait. Whoever draws has drawn all that was drawn. But for want of memory, each letter that
-- somebody may wait for is in a tray
pub record IsRecovery {Q : Type 0} (s : QuorumSystem Q) (is_endless : Bool) (b : BookView Q) (ks : List (KeeperView Q)) (drawn buffer : List (Step Q)) (is_short : Bool) : Type 0 where
  pub endless : is_endless ≡ true
  pub drawer : length drawn ≡ b.drawn
  pub empty : buffer ≡ []
  pub many : length ks ≡ 64
  pub lists : length b.waiting ≡ 64
  pub named : AreNamed ks
  pub held : is_short ≡ false → AreHeld s b ks

-- why a letter can't be delivered that neither the book nor a tray has: it is gone, or there was no room for some letter
abbrev pub IsGoneSo : Bool → Refusal → Type 0
IsGoneSo is_short r = (r ≡ OutOfMemory) ⊎ ((r ≡ LetterGone) × (is_short ≡ false))

-- why a step isn't taken after these: what the rules of its kind say, by the least number, else that all is full, or that memory
-- ran out; and of a letter that was sent too long ago to be judged, that memory ran out, or that it is gone where nobody waits
-- for it
abbrev pub WhyUntaken : {Q : Type 0} → QuorumSystem Q → Q → ℕ → ℕ → List (Step Q) → Step Q → Refusal → Type 0
WhyUntaken s founders most lose steps st r =
    Told (refusal s (run s founders steps) st) (length steps) most r
    ⊎ ((delivers_gone (gone_of true most (run s founders steps)) st ≡ true)
    × ((r ≡ OutOfMemory) ⊎ ((r ≡ LetterGone) × ((number : ℕ) → st ≡ step.Deliver number → IsSpent s founders lose steps number))))
