-- What shows that an order of calls breaks a rule of a proper one (Herlihy and Wing, "Linearizability", TOPLAS 1990)
use Rattle.std.specs.Prelude.{◌≡◌, ◌≢◌, ℕ, ◌≤◌, true, List, ◌∷◌, ◌++◌, Option, None, Some, IsSome}
use Rattle.std.specs.Option.{IsSomeAnd}
use Rattle.rambo_history.specs.declared.operation.Op.{Op}
use Rattle.rambo_history.specs.declared.operation.Op.TheVariants as op
use Rattle.rambo_history.specs.declared.event.CallId.{CallId}
use Rattle.rambo_history.specs.declared.event.Event.{Event}
use Rattle.rambo_history.specs.declared.event.Event.TheVariants as event
use Rattle.rambo_history.specs.Calls.{key_of, is_get, answer_for}
use Rattle.rambo_history.specs.Histories.{call_in, answer_in, answered_before, called_at}
use Rattle.rambo_history.specs.Proper.{Stands, held_after, IsComplete, IsDistinct, HasNoStranger, AnswersLatest, KeepsRealTime, HasAllAnswered, HasCallsAlone}
use Rattle.rambo_atomic.specs.declared.verdict.Rule.{Rule}
use Rattle.rambo_atomic.specs.declared.verdict.Rule.TheVariants.{Missing, Repeated, Stranger, WrongAnswer, OutOfOrder}
use Rattle.rambo_witness.specs.declared.witness.Witness.{Witness}

-- an operation of the key, or of any key where none is told
abbrev pub IsOf : Option (List ℕ) → Op → Type 0
IsOf None op = Unit {0}
IsOf (Some key) op = key_of op ≡ key

-- an order keeps a rule: as an order of the calls of the key, or of those of all keys
abbrev pub Keeps : Rule → List Event → Option (List ℕ) → List CallId → Type 0
Keeps Missing h None order = HasAllAnswered h order
Keeps Missing h (Some key) order = IsComplete h key order
Keeps Repeated h key order = IsDistinct order
Keeps Stranger h None order = HasCallsAlone h order
Keeps Stranger h (Some key) order = HasNoStranger h key order
Keeps WrongAnswer h key order = AnswersLatest h order
Keeps OutOfOrder h key order = KeepsRealTime h order

-- an answered call, which has to stand in the order
abbrev pub IsDue : List Event → Option (List ℕ) → CallId → Type 0
IsDue h key c = IsSomeAnd (call_in h c) (IsOf key) × IsSome (answer_in h c)

-- a call that may stand there: a get only if it was answered
abbrev pub IsOwn : List Event → Option (List ℕ) → CallId → Type 0
IsOwn h key c = IsSomeAnd (call_in h c) (λ op. IsOf key op × (is_get op ≡ true → IsSome (answer_in h c)))

-- the call sets the key
abbrev pub Sets : List Event → List ℕ → CallId → Type 0
Sets h key c = (value : List ℕ) × (call_in h c ≡ Some (op.Set key value))

-- the latest set of the key among some calls: no set of it stands behind it; None where no set of it is there
abbrev pub IsLatestSet : List Event → List ℕ → List CallId → Option CallId → Type 0
IsLatestSet h key calls None = (d : CallId) → Stands calls d → ¬ (Sets h key d)
IsLatestSet h key calls (Some c) =
    (front : List CallId) × (back : List CallId) × (calls ≡ front ++ c ∷ back) × Sets h key c × ((d : CallId) → Stands back d → ¬ (Sets h key d))

-- of some calls this one was made last
abbrev pub IsMadeLast : List Event → List CallId → CallId → Type 0
IsMadeLast h calls c = Stands calls c × (n : ℕ) × (called_at h c ≡ Some n) × ((d : CallId) (m : ℕ) → Stands calls d → called_at h d ≡ Some m → m ≤ n)

-- behind the calls of a front one more breaks a rule, some with another call: it stands there already; it may not stand there; it
-- is a get and doesn't answer what its key holds, by the latest set; it was answered before that call was made which was made last
abbrev pub Breaks : Rule → List Event → Option (List ℕ) → List CallId → Witness → Type 0
Breaks Missing h key front w = ⊥
Breaks Repeated h key front w = Stands front w.call × (w.other ≡ None)
Breaks Stranger h key front w = (¬ (IsOwn h key w.call)) × (w.other ≡ None)
Breaks WrongAnswer h key front w =
    (k : List ℕ) × (call_in h w.call ≡ Some (op.Get k)) × (answer_in h w.call ≢ Some (answer_for (held_after h k front))) × IsLatestSet h k front w.other
Breaks OutOfOrder h key front w = (d : CallId) × (w.other ≡ Some d) × IsMadeLast h front d × (answered_before h w.call d ≡ true)

-- the first call of an order that breaks a rule: what stands before it keeps the rule
pub record IsFirstToBreak (rule : Rule) (h : List Event) (key : Option (List ℕ)) (order : List CallId) (w : Witness) : Type 0 where
  pub front : List CallId
  pub back : List CallId
  pub whole : order ≡ front ++ w.call ∷ back
  pub breaks : Breaks rule h key front w
  pub first : Keeps rule h key front

-- of the answered calls that don't stand in the order the one that was made first
pub record IsFirstMissing (h : List Event) (key : Option (List ℕ)) (order : List CallId) (w : Witness) : Type 0 where
  pub front : List Event
  pub asked : Op
  pub back : List Event
  pub whole : h ≡ front ++ event.Call w.call asked ∷ back
  pub due : IsDue h key w.call
  pub missing : ¬ (Stands order w.call)
  pub alone : w.other ≡ None
  pub first : (c : CallId) → IsSome (call_in front c) → IsDue h key c → Stands order c

-- the first witness that an order of the key's calls, or of those of all keys, breaks a rule
abbrev pub IsWitness : Rule → List Event → Option (List ℕ) → List CallId → Witness → Type 0
IsWitness Missing h key order w = IsFirstMissing h key order w
IsWitness Repeated h key order w = IsFirstToBreak Repeated h key order w
IsWitness Stranger h key order w = IsFirstToBreak Stranger h key order w
IsWitness WrongAnswer h key order w = IsFirstToBreak WrongAnswer h key order w
IsWitness OutOfOrder h key order w = IsFirstToBreak OutOfOrder h key order w

-- the witness, or None where the order keeps the rule
abbrev pub Decides : Rule → List Event → Option (List ℕ) → List CallId → Option Witness → Type 0
Decides rule h key order None = Keeps rule h key order
Decides rule h key order (Some w) = IsWitness rule h key order w
