-- Why no more steps of a trace are taken
use Rattle.std.proofs.Common.{◌≡◌, ◌⊎◌, ℕ, ◌+◌, Bool, true, false, List, length, Option, None, Some, inl, inr, ap, subst, ◌∙◌}
use Rattle.std.specs.Prelude.{MatchOption}
use Rattle.std.specs.Bool.{MatchBool}
use Rattle.std.specs.Io.KnownBytes.{IsAtEnd}
use Rattle.rambo_names.specs.Weights.{Weights}
use Rattle.rambo_names.specs.declared.refusal.Refusal.{Refusal}
use Rattle.rambo_atomic.specs.Unreads.{UnreadState, KnowsEnd, HoldsLine, IsDone}
use Rattle.rambo_atomic.specs.declared.whole.StreamFault.{StreamFault}
use Rattle.rambo_atomic.specs.declared.whole.StreamFault.TheVariants as stream
use Rattle.rambo_node.specs.Steps.{Step}
use Rattle.rambo_text.specs.Words.{Lacks}
use Rattle.rambo_text.proofs.WordSplits.{no_cut}
use Rattle.rambo_retrace.specs.declared.fault.RetraceFault.{RetraceFault}
use Rattle.rambo_retrace.specs.declared.fault.RetraceFault.TheVariants.{Read, Memory, Script, Refused}
use Rattle.rambo_retrace.specs.Retraces.{IsWholeLine, IsFaultAt, Retraces, RefusedBy, StopsAt, StopsAtFirst, of_stream}

-- a stream failed, or there was no room
pub stream_stops : (Refuses : Step Weights → Refusal → Type 0) (number : ℕ) (lines : List ℕ) (e : StreamFault) (A B : Type 0) → ((e ≡ stream.Read) × A) ⊎ ((e ≡ stream.Memory) × B)
    → StopsAt Refuses number lines (of_stream e)
stream_stops Refuses number lines e A B (inl read) = inl (ap of_stream read.0)
stream_stops Refuses number lines e A B (inr spent) = inr (inl (ap of_stream spent.0))

-- a taker of the steps so far
fault_by : {T : Type 0} (steps : T → List (Step Weights)) (refuses : T → Step Weights → Refusal → Type 0) (t : T) (taken : List (Step Weights)) (n m : ℕ) (line : List ℕ) (f : RetraceFault) → steps t ≡ taken → n ≡ m
    → IsFaultAt (refuses t) n line f → IsFaultAt (RefusedBy steps refuses taken) m line f
fault_by steps refuses t taken n m line Read same number bad = absurd bad
fault_by steps refuses t taken n m line Memory same number bad = absurd bad
fault_by steps refuses t taken n m line (Script g) same number bad = (bad.0 ∙ number, bad.1)
fault_by steps refuses t taken n m line (Refused k r) same number bad =
    let told = bad.1 in
    (bad.0 ∙ number, (told.0, told.1, told.2, (t, same, told.3)))

-- the first line that is held has a fault
pub first_stops : {T : Type 0} (steps : T → List (Step Weights)) (refuses : T → Step Weights → Refusal → Type 0) (t : T) (taken : List (Step Weights)) (n m : ℕ) (lines held : List ℕ) (f : RetraceFault)
    → steps t ≡ taken → n ≡ m → lines ≡ held → StopsAtFirst (refuses t) n lines f → StopsAt (RefusedBy steps refuses taken) m held f
first_stops steps refuses t taken n m lines held f same number is stops = inr (inr (record {
  line = stops.line;
  rest = stops.rest;
  is_first = subst (λ h. IsWholeLine h stops.line stops.rest) is stops.is_first;
  fault = fault_by steps refuses t taken n m stops.line f same number stops.fault;
}))

-- no more was taken
abbrev pub still : (old new same : List (Step Weights)) (first left : Option (List ℕ)) (before held : List ℕ) → Retraces old new first left before held → same ≡ new → Retraces old same first left before held
still old new same first left before held on is = record { steps = on.steps; lines = on.lines; taken = is ∙ on.taken; read = on.read }

-- it is told why
abbrev pub Stops : {T : Type 0} → (T → List (Step Weights)) → (T → Step Weights → Refusal → Type 0) → List (Step Weights) → List (Step Weights) → Option (List ℕ) → Option (List ℕ) → List ℕ → List ℕ → RetraceFault → Type 0
Stops steps refuses old new first left before held f = (on : Retraces old new first left before held) × StopsAt (RefusedBy steps refuses new) (length on.steps + 3) held f

-- a line was looked for, and one is held
pub holds_line : (b : Bool) (u : UnreadState) → b ≡ true → MatchBool b (HoldsLine u) (IsDone u) → HoldsLine u
holds_line b u is found = subst (λ x. MatchBool x (HoldsLine u) (IsDone u)) is found

-- or all is done
pub all_done : (b : Bool) (u : UnreadState) → b ≡ false → MatchBool b (HoldsLine u) (IsDone u) → IsDone u
all_done b u is found = subst (λ x. MatchBool x (HoldsLine u) (IsDone u)) is found

-- a step was taken, or none
pub some_taken : (o : Option ℕ) (used : ℕ) (P : Type 0) (Q : ℕ → Type 0) → o ≡ Some used → MatchOption o P Q → Q used
some_taken o used P Q is found = subst (λ x. MatchOption x P Q) is found

pub none_taken : (o : Option ℕ) (P : Type 0) (Q : ℕ → Type 0) → o ≡ None → MatchOption o P Q → P
none_taken o P Q is found = subst (λ x. MatchOption x P Q) is found

-- a line that is torn is the last
pub torn_ends : (u : UnreadState) (left : Option (List ℕ)) (lines : List ℕ) → HoldsLine u → KnowsEnd u left → lines ≡ u.held → Lacks 10 lines → IsAtEnd left
torn_ends u left lines holds knows is lacks = elim holds.1 [
  | inl feed ↦ absurd (no_cut 10 lines feed.0 feed.1 lacks (is ∙ feed.2))
  | inr ended ↦ knows ended
]
