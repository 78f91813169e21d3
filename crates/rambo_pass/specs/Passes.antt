-- What a client has seen
use mathlib.Core.List.{IsPrefix}
use Rattle.std.specs.Prelude.{◌≡◌, ◌⊎◌, ℕ, Bool, List, [], ◌∷◌, ◌++◌, ◌<◌, ◌≢◌, true, false, length, slice_index_or, All, Option, None, Some, is_some, Result, IfOk, IfErr}
use Rattle.std.specs.List.{remove}
use Rattle.rambo_history.specs.declared.operation.Answer.{Answer}
use Rattle.rambo_names.specs.declared.refusal.Refusal.{Refusal}
use Rattle.rambo_names.specs.declared.refusal.Refusal.TheVariants as refused
use Rattle.rambo_names.specs.Refusals.{IsRefusal}
use Rattle.rambo_names.specs.Quorums.{QuorumSystem}
use Rattle.rambo_history.specs.Histories.{answer_in}
use Rattle.rambo_joiner.specs.Statuses.{is_stopped}
use Rattle.rambo_history.specs.declared.event.CallId.{CallId}
use Rattle.rambo_node.specs.Nodes.{NodeState}
use Rattle.rambo_run.specs.Worlds.{WorldState, node_at}
use Rattle.rambo_node.specs.declared.effect.Effect.{Effect}
use Rattle.rambo_node.specs.declared.effect.Effect.TheVariants as effect
use Rattle.rambo_node.specs.Steps.{Step}
use Rattle.rambo_run.specs.Steps.{meant_in, refusal, turn}
use Rattle.rambo_run.specs.Runs.{run}
use Rattle.rambo_node.specs.Acts.{name_in}
use Rattle.rambo_book.specs.Kept.{KeeperView, Told}
use Rattle.rambo_book.specs.Windows.{refused_in}
use Rattle.rambo_book.specs.declared.readied.Ready.{Ready}
use Rattle.rambo_pass.specs.declared.mine.Entry.{Entry}
use Rattle.rambo_run.specs.Legal.{IsLegal}

pub record PassView (Q : Type 0) : Type 0 where
  pub seen : List (Step Q)
  pub mine : List Entry

-- a call adds one entry, at the place of its step
abbrev pub mine_with : {Q : Type 0} → List Entry → ℕ → Effect Q → List Entry
mine_with mine place (effect.Called id) = mine ++ record { place = place; id = id } ∷ []
mine_with mine place effect.Done = mine
mine_with mine place (effect.Sent number) = mine
mine_with mine place effect.Moved = mine
mine_with mine place (effect.Answered id answer) = mine
mine_with mine place (effect.Collected n p) = mine
mine_with mine place (effect.Decided n d) = mine

-- what was seen goes on by some steps and then this one, which was accepted and had this effect; a call adds one entry,
-- at its place
pub record Acted {Q : Type 0} (s : QuorumSystem Q) (founders : Q) (before after : PassView Q) (st : Step Q) (e : Effect Q) : Type 0 where
  pub between : List (Step Q)
  pub seen : after.seen ≡ (before.seen ++ between) ++ st ∷ []
  pub legal : IsLegal s founders after.seen
  pub accepted : refusal s (run s founders (before.seen ++ between)) st ≡ None
  pub told : e ≡ (turn (run s founders (before.seen ++ between)) st).effect
  pub mine : after.mine ≡ mine_with before.mine (length (before.seen ++ between)) e

-- the first half of a step was refused for this cause: by the rules of its kind in what the keeper had seen; or out of
-- memory, where these allow it
abbrev pub IsRefusedHalf : {Q : Type 0} → QuorumSystem Q → Option Q → KeeperView Q → Step Q → Refusal → Type 0
IsRefusedHalf {Q} s agreed k st r = (f : Q) → agreed ≡ Some f → IsRefusal (refusal s (run s f k.seen) st) r

-- the first half of this step, which names the keeper's node, was made, or refused
pub record IsHalf {Q : Type 0} (s : QuorumSystem Q) (agreed : Option Q) (k : KeeperView Q) (st : Step Q) (half : Result (Ready Q) Refusal) : Type 0 where
  pub own : name_in (meant_in [] st) ≡ Some k.name
  pub made : IfOk half (λ r. r.step ≡ st)
  pub refused : IfErr half (IsRefusedHalf s agreed k st)

-- after some legal steps that begin with these a step isn't refused, also not as it delivers a letter that is gone, and there is
-- room for it
pub record CouldGo {Q : Type 0} (s : QuorumSystem Q) (founders : Q) (endless : Bool) (most : ℕ) (seen : List (Step Q)) (st : Step Q) : Type 0 where
  pub later : List (Step Q)
  pub begins : IsPrefix seen later
  pub legal : IsLegal s founders later
  pub accepted : refused_in s endless most (run s founders later) st ≡ None
  pub room : length later < most

-- why a client's step isn't done: out of memory, where it could be taken; or the refusal of it in what the client has
-- then seen, which is `LetterGone` exactly where it delivers a letter that is gone there
abbrev pub WhyUndone : {Q : Type 0} → QuorumSystem Q → Q → Bool → ℕ → PassView Q → PassView Q → Step Q → Refusal → Type 0
WhyUndone s founders endless most before after st r =
    ((r ≡ refused.OutOfMemory) × CouldGo s founders endless most before.seen st)
    ⊎ Told (refused_in s endless most (run s founders after.seen) st) (length after.seen) most r

-- a client's calls, and whether there is room for one more
pub record MineState : Type 0 where
  pub entries : List Entry
  pub room : ℕ

abbrev pub nobody : Entry
nobody = record { place = 0; id = record { name = 0; number = 0 } }

abbrev pub entry_at : List Entry → ℕ → Entry
entry_at es at = slice_index_or es at nobody

-- the entry of this place is gone, if there is an answer
abbrev pub settled : List Entry → ℕ → Option Answer → List Entry
settled es at None = es
settled es at (Some a) = remove es at

-- an entry of this list, at this place, is that of the call
abbrev pub IsEntry : List Entry → CallId → ℕ → Type 0
IsEntry es id at = (at < length es) × ((entry_at es at).id ≡ id)

-- the list after the answer of the call, if there is one, was taken: its entry is gone
abbrev pub IsTaken : List Entry → CallId → Option Answer → List Entry → Type 0
IsTaken es id a later = (at : ℕ) × (IsEntry es id at × (later ≡ settled es at a))

-- the list without an entry of the call
abbrev pub IsGone : List Entry → CallId → List Entry → Type 0
IsGone es id later = (at : ℕ) × (IsEntry es id at × (later ≡ remove es at))

-- none of these entries is that of the call
abbrev pub IsNone : List Entry → CallId → Type 0
IsNone es id = All (λ e. e.id ≢ id) es

-- one of these entries is that of the call
abbrev pub IsOne : List Entry → CallId → Type 0
IsOne es id = (at : ℕ) × IsEntry es id at

-- the node of a name has stopped
abbrev pub HasStopped : {Q : Type 0} → WorldState Q → ℕ → Type 0
HasStopped {Q} w name = (x : NodeState Q) × ((node_at w name ≡ Some x) × (is_stopped x.status ≡ true))

-- and it hasn't
abbrev pub IsGoing : {Q : Type 0} → WorldState Q → ℕ → Type 0
IsGoing {Q} w name = (x : NodeState Q) × ((node_at w name ≡ Some x) × (is_stopped x.status ≡ false))

-- the call has an answer
abbrev pub IsAnswered : {Q : Type 0} → WorldState Q → CallId → Type 0
IsAnswered w id = is_some (answer_in w.history id) ≡ true

-- it has one after some legal steps that begin with these
pub record IsAnsweredLater {Q : Type 0} (s : QuorumSystem Q) (founders : Q) (seen : List (Step Q)) (id : CallId) : Type 0 where
  pub later : List (Step Q)
  pub begins : IsPrefix seen later
  pub legal : IsLegal s founders later
  pub answered : IsAnswered (run s founders later) id

-- why there is no answer. `OutOfMemory`: the call is this client's, and has an answer after some legal steps, where the book
-- isn't endless. `NoSuchCall`: it isn't this client's. `Stopped`: it is this client's, and its node has stopped in what was seen,
-- where it has no answer
abbrev pub WhyNot : {Q : Type 0} → QuorumSystem Q → Q → Bool → PassView Q → PassView Q → CallId → Refusal → Type 0
WhyNot s founders endless before after id r =
    ((r ≡ refused.OutOfMemory) × ((after ≡ before) × (IsOne before.mine id × (endless ≡ false → IsAnsweredLater s founders before.seen id))))
    ⊎ (((r ≡ refused.NoSuchCall) × ((after ≡ before) × IsNone before.mine id))
    ⊎ ((r ≡ refused.Stopped) × (IsOne before.mine id × (IsPrefix before.seen after.seen × ((answer_in (run s founders after.seen).history id ≡ None) × HasStopped (run s founders after.seen) id.name)))))
