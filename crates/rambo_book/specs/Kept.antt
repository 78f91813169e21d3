-- What holds of a keeper and of the book whenever their lock is free
use Rattle.std.specs.Prelude.{◌≡◌, ℕ, ◌+◌, ◌-◌, ◌≤◌, ◌<◌, ◌⊎◌, Bool, true, false, List, length, slice_get, slice_set, All, Option, Some, None, is_some}
use Rattle.std.specs.FinMap as copies
use Rattle.rambo_names.specs.declared.refusal.Refusal.{Refusal}
use Rattle.rambo_names.specs.declared.refusal.Refusal.TheVariants.{HistoryFull, OutOfMemory}
use Rattle.rambo_names.specs.Quorums.{QuorumSystem}
use Rattle.rambo_gossip.specs.Letters.{LetterState, letter_with}
use Rattle.rambo_gossip.specs.Short.{IsShort}
use Rattle.rambo_names.specs.Names.{IsName}
use Rattle.rambo_tag.specs.declared.version.Version.{Version}
use Rattle.rambo_node.specs.FullNodes.{FullNode}
use Rattle.rambo_node.specs.Nodes.{NodeState, Room, Beside, heard_from}
use Rattle.rambo_node.specs.Steps.{Step}
use Rattle.rambo_run.specs.Worlds.{WorldState, node_at, held_by, letter_at}
use Rattle.rambo_node.specs.Acts.{Meant}
use Rattle.rambo_run.specs.Steps.{meant}
use Rattle.rambo_run.specs.Journals.{journal}
use Rattle.rambo_run.specs.Runs.{run}
use Rattle.rambo_deltas.specs.Bases.{IsLastChange, base_in}
use Rattle.rambo_deltas.specs.Deltas.{full_at}
use Rattle.rambo_mail.specs.declared.mail.Mail.{Mail}
use Rattle.rambo_run.specs.Legal.{IsLegal}
use Rattle.rambo_book.specs.Records.{RecordView, IsRecord}
use Rattle.rambo_book.specs.Windows.{LettersView, completed, gone_of, window_of}

-- room: what there is in the node; beside: what it keeps for letters that carry only what is new
pub record KeeperView (Q : Type 0) : Type 0 where
  pub name : ℕ
  pub node : NodeState Q
  pub room : Room Q
  pub beside : Beside
  pub tray : List (Mail Q)
  pub seen : List (Step Q)

-- drawn: how many steps were drawn, which are the first; ahead: how many others there may be
-- waiting: of the names 1, 2, .. the numbers of the letters that wait for each, the oldest first; each letter of which lose
-- divides the number waits nowhere, and each other that twice divides waits twice
pub record BookView (Q : Type 0) : Type 0 where
  pub founders : Q
  pub steps : List (Step Q)
  pub drawn : ℕ
  pub capacity : ℕ
  pub ahead : ℕ
  pub waiting : List (List ℕ)
  pub lose : ℕ
  pub twice : ℕ

-- the world that the steps of a book make
abbrev pub state : {Q : Type 0} → QuorumSystem Q → BookView Q → WorldState Q
state s b = run s b.founders b.steps

-- a stored letter represents this one of a world: it may leave out copies that the addressee holds there
abbrev pub StandsFor : {Q : Type 0} → WorldState Q → LetterState Q → LetterState Q → Type 0
StandsFor w l whole = IsShort l whole (held_by w whole.addressee)

-- the stored letters represent those that were sent in a world, one for one
abbrev pub AreSent : {Q : Type 0} → WorldState Q → List (LetterState Q) → Type 0
AreSent {Q} w letters =
    (length letters ≡ length w.letters)
    × ((place : ℕ) (l whole : LetterState Q) → slice_get letters place ≡ Some l → slice_get w.letters place ≡ Some whole → StandsFor w l whole)

-- kept letters, once that of a number, if there is one, has left out its copies
abbrev pub lightened_at : {Q : Type 0} → List (LetterState Q) → ℕ → Option (LetterState Q) → List (LetterState Q)
lightened_at letters number None = letters
lightened_at letters number (Some l) = slice_set letters (number - 1) (letter_with l copies.empty)

abbrev pub lightened : {Q : Type 0} → List (LetterState Q) → Option ℕ → List (LetterState Q)
lightened letters None = letters
lightened letters (Some number) = lightened_at letters number (letter_at letters number)

-- a letter represents that of this number
abbrev pub IsLetterOf : {Q : Type 0} → WorldState Q → ℕ → LetterState Q → Type 0
IsLetterOf {Q} w number l = (whole : LetterState Q) × (letter_at w.letters number ≡ Some whole) × StandsFor w l whole

-- a letter to this name, which represents that of its number
abbrev pub IsMailOf : {Q : Type 0} → WorldState Q → ℕ → Mail Q → Type 0
IsMailOf {Q} w name m = (whole : LetterState Q) × (letter_at w.letters m.number ≡ Some whole) × StandsFor w m.letter whole × (whole.addressee ≡ name)

-- what a keeper has seen is legal, and at most as many steps as are agreed; its node, with its stamps and bases, is
-- that of their run, and its letters were sent to it there
pub record IsKeeper {Q : Type 0} (s : QuorumSystem Q) (agreed : Option Q) (most : ℕ) (holds name : ℕ) (node : FullNode Q) (tray : List (Mail Q)) (seen : List (Step Q)) : Type 0 where
  pub named : holds ≡ name
  pub legal : (f : Q) → agreed ≡ Some f → IsLegal s f seen
  pub fits : length seen ≤ most
  pub replays : (f : Q) → agreed ≡ Some f → node_at (run s f seen) name ≡ Some node.state
  pub full : (f : Q) → agreed ≡ Some f → full_at s f seen name ≡ node
  pub mail : (f : Q) → agreed ≡ Some f → All (IsMailOf (run s f seen) name) tray

-- each copy's stamp is the phase number of the keeper's node before the step that last changed it, of those that it has seen
abbrev pub AreStampsOf : {Q : Type 0} → QuorumSystem Q → Q → KeeperView Q → Type 0
AreStampsOf {Q} s f k =
    (key : List ℕ) (v : Version) → copies.get k.node.registers key ≡ Some v
    → (m : ℕ) × (x : NodeState Q) × IsLastChange s f k.seen k.name key v m x × (copies.get k.beside.stamps key ≡ Some x.number)

-- each base is the greatest heard number that letters of its name carried to the node, of those that it has heard
abbrev pub AreBasesOf : {Q : Type 0} → QuorumSystem Q → Q → KeeperView Q → Type 0
AreBasesOf {Q} s f k = (j : ℕ) → IsName j → heard_from k.beside.bases j ≡ base_in j (journal s f k.name k.seen)

-- a book is of the founders and the capacity that it was opened with. Its steps are legal and at most as many, and of them
-- at most so many are at hand: all of them where it isn't endless. Its letters, and what it keeps of calls and answers, are
-- those of their run; where it isn't endless it keeps all of these, and else the letters that were sent last
pub record IsBook {Q : Type 0} (s : QuorumSystem Q) (agreed : Option Q) (most : ℕ) (endless : Bool) (founders : Q) (steps : List (Step Q)) (letters : LettersView Q) (kept : RecordView) (capacity drawn ahead : ℕ) : Type 0 where
  pub founded : agreed ≡ Some founders
  pub terms : capacity ≡ most
  pub fits : length steps ≤ capacity
  pub few : length steps ≤ drawn + ahead
  pub undrawn : endless ≡ false → drawn ≡ 0
  pub whole : endless ≡ false → is_some kept.all ≡ true
  pub legal : IsLegal s founders steps
  pub window : letters.window ≡ window_of endless most
  pub gone : letters.gone ≡ gone_of endless most (run s founders steps)
  pub sent : AreSent (run s founders steps) (completed (run s founders steps) letters)
  pub recorded : IsRecord (run s founders steps).history (run s founders steps).marks kept

-- the node that the step means, if it means one, is that of the name
abbrev pub IsServedBy : {Q : Type 0} → WorldState Q → Step Q → ℕ → Type 0
IsServedBy {Q} w st name = (m : Meant Q) → meant w st ≡ Some m → m.name ≡ name

-- which refusal is reported: that of the step, or that the book is full, or out of memory
abbrev pub Told : Option Refusal → ℕ → ℕ → Refusal → Type 0
Told (Some d) count capacity r = r ≡ d
Told None count capacity r = ((r ≡ HistoryFull) × (count ≡ capacity)) ⊎ ((r ≡ OutOfMemory) × (count < capacity))
