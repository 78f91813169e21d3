-- The first two lines of a trace
use Rattle.std.proofs.Common.{◌≡◌, ◌⊎◌, ℕ, Bool, true, false, List, [], ◌∷◌, ◌++◌, drop, Option, inl, inr, sym, ap, subst, ◌∙◌, append_assoc}
use Rattle.std.specs.Prelude.{Result, Ok, Err, IfErr}
use Rattle.std.specs.Bool.{MatchBool}
use Rattle.std.specs.Io.KnownBytes.{IsAtEnd}
use Rattle.rambo_names.specs.Weights.{Weights}
use Rattle.rambo_atomic.specs.Unreads.{UnreadState, KnowsEnd, TakesIn, HasFeed, HoldsLine, IsDone}
use Rattle.rambo_atomic.specs.declared.whole.StreamFault.{StreamFault}
use Rattle.rambo_atomic.specs.declared.whole.StreamFault.TheVariants as stream
use Rattle.rambo_text.specs.declared.fault.Fault.{Fault}
use Rattle.rambo_text.specs.declared.fault.ScriptFault.{ScriptFault}
use Rattle.rambo_text.specs.declared.version.Version.TheVariants.{Two}
use Rattle.rambo_text.specs.Versions.{head_text}
use Rattle.rambo_lines.specs.Faults.{IsLineFault, TellNoFounders}
use Rattle.rambo_lines.specs.Scripts.{founders_line}
use Rattle.rambo_trace.specs.Traces.{trace_text}
use Rattle.rambo_retrace.specs.declared.fault.RetraceFault.{RetraceFault}
use Rattle.rambo_retrace.specs.declared.fault.RetraceFault.TheVariants.{Script}
use Rattle.rambo_retrace.specs.Retraces.{IsUnrefused, IsWholeLine, IsUsed, FoundsNone, of_stream}
use Rattle.rambo_retrace.proofs.StepByStep.{takes_more}
use Rattle.rambo_retrace.proofs.WholeLines.{behind_used}

-- a stream refuses no step
pub stream_unrefused : (e : StreamFault) → IsUnrefused (of_stream e)
stream_unrefused stream.Read = tt
stream_unrefused stream.Write = tt
stream_unrefused stream.Memory = tt

-- what is so is so of each fault of a line
pub so_of_each : {T : Type 0} (r : Result T RetraceFault) (P : Type 0) → P → IfErr r (λ f. (g : ScriptFault) → f ≡ Script g → P)
so_of_each (Ok x) P p = tt
so_of_each (Err e) P p = λ g is. p

-- what is so of a fault of a line is so of no other
pub so_of_one : (P : ScriptFault → Type 0) (g : ScriptFault) → P g → (h : ScriptFault) → Script g ≡ Script h → P h
so_of_one P g p h is = let same : g ≡ h = cc in subst P same p

-- a line was looked for: it is held whole, or nothing more comes
pub whole_or_end : (b : Bool) (u v : UnreadState) (left : Option (List ℕ)) → MatchBool b (HoldsLine u) (IsDone u) → KnowsEnd u left → v ≡ u → HasFeed v.held ⊎ IsAtEnd left
whole_or_end true u v left holds knows same = elim holds.1 [
  | inl feed ↦ inl (subst (λ (w : UnreadState). HasFeed w.held) (sym same) feed)
  | inr ended ↦ inr (knows ended)
]
whole_or_end false u v left done knows same = inr (knows done.1)

-- the line of founders is faulty
pub founders_fault : (held own line rest : List ℕ) (f : Fault) → own ≡ held → IsWholeLine own line rest → IsLineFault TellNoFounders line f → FoundsNone held f
founders_fault held own line rest f is whole bad = inr (line, rest, subst (λ h. IsWholeLine h line rest) is whole, bad)

-- a line was used, and the rest is held
pub line_used : (held own line rest after : List ℕ) (used : ℕ) → own ≡ held → IsWholeLine own line rest → IsUsed line used → after ≡ drop used held → held ≡ line ++ 10 ∷ after
line_used held own line rest after used is whole many left =
    let here : IsWholeLine held line rest = subst (λ h. IsWholeLine h line rest) is whole in
    here.whole ∙ ap (λ r. line ++ 10 ∷ r) (sym (left ∙ behind_used held line rest used here many))

-- the line of the version is used, and that of the founders is held
pub version_read : (first one two : Option (List ℕ)) (before h0 h1 h2 : List ℕ) → TakesIn first one before h0 → h0 ≡ head_text Two ++ h1 → TakesIn one two h1 h2 → TakesIn first two before (head_text Two ++ h2)
version_read first one two before h0 h1 h2 was head more = takes_more first one two before (head_text Two) h1 h2 (subst (TakesIn first one before) head was) more

-- and that is used too
pub founders_read : (first two : Option (List ℕ)) (before h2 h3 : List ℕ) (f : Weights) → TakesIn first two before (head_text Two ++ h2) → h2 ≡ founders_line f ++ 10 ∷ h3
    → TakesIn first two before (trace_text f [] ++ h3)
founders_read first two before h2 h3 f was is =
    let text : head_text Two ++ h2 ≡ trace_text f [] ++ h3 =
    ap (λ h. head_text Two ++ h) (is ∙ sym (append_assoc (founders_line f) (10 ∷ []) h3)) ∙ sym (append_assoc (head_text Two) (founders_line f ++ 10 ∷ []) h3) in
    subst (TakesIn first two before) text was
