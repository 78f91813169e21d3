-- What was written goes on
use Rattle.std.specs.Io.KnownBytes.{Appends}
use Rattle.std.proofs.Common.{◌≡◌, ◌⊎◌, ℕ, true, false, List, Option, None, Some, is_some, IfSome, option_map, refl, sym, subst, ap, ◌∙◌, inl, inr, true≢false}
use mathlib.Core.List.{IsPrefix}
use Rattle.rambo_archive.specs.Archives.{IsKept}
use Rattle.rambo_names.specs.Weights.{Weights}
use Rattle.rambo_atomic.specs.Streams.{Begins, counted}
use Rattle.rambo_atomic.specs.declared.whole.StreamFault.{StreamFault}
use Rattle.rambo_atomic.specs.declared.whole.StreamFault.TheVariants as stream
use Rattle.rambo_node.specs.Steps.{Step}
use Rattle.rambo_lines.specs.Scripts.{steps_text}
use Rattle.rambo_trace.specs.Traces.{trace_text}
use Rattle.rambo_trace.proofs.Pieces.{trace-append, begins_more}
use Rattle.rambo_scribe.specs.declared.fault.TraceFault.{TraceFault}
use Rattle.rambo_scribe.specs.Traced.{HasWritten, IsTrace, KeepsTrace, Taken, failures_after, fault_of}

module _ (before now : Taken) (f : Weights) (drawn all : List (Step Weights)) (prefix : IsPrefix drawn all) where
  -- after a fault a beginning of the trace stays one of a longer trace
  pub stays : (fault : TraceFault) → HasWritten before now f drawn (Some fault) → HasWritten before now f all (Some fault)
  stays fault b = (subst (λ l. Begins before.bytes now.bytes (trace_text f l)) prefix.1 (begins_more before.bytes now.bytes f drawn prefix.0 b.0), b.1)

  -- and a whole one is such a beginning
  pub stops : (fault : TraceFault) → ((n : ℕ) → failures_after fault n ≡ n) → HasWritten before now f drawn None → HasWritten before now f all (Some fault)
  stops fault quiet a = ((trace_text f drawn, steps_text prefix.0, ap (trace_text f) (sym prefix.1) ∙ trace-append f drawn prefix.0, a.0), a.1 ∙ sym (quiet before.failures))

  pub stays_so : (o : Option TraceFault) → is_some o ≡ true → HasWritten before now f drawn o → HasWritten before now f all o
  stays_so None is w = absurd (true≢false (sym is))
  stays_so (Some fault) is w = stays fault w

-- the stream failed, after a beginning of the trace
pub broken : (before now : Taken) (f : Weights) (steps : List (Step Weights)) (failed : ℕ) (fault : StreamFault) (told : TraceFault) → told ≡ fault_of fault → failed ≡ before.failures
    → Begins before.bytes now.bytes (trace_text f steps)
    → ((fault ≡ stream.Write) × (now.failures ≡ counted failed)) ⊎ ((fault ≡ stream.Memory) × (now.failures ≡ failed))
    → HasWritten before now f steps (Some told)
broken before now f steps failed fault told is same begun (inl w) =
    (begun, w.1 ∙ ap counted same ∙ sym (ap (λ t. failures_after t before.failures) (is ∙ ap fault_of w.0)))
broken before now f steps failed fault told is same begun (inr m) =
    (begun, m.1 ∙ same ∙ sym (ap (λ t. failures_after t before.failures) (is ∙ ap fault_of m.0)))

-- what isn't there is none
pub none_so : {A : Type 0} (o : Option A) → is_some o ≡ false → o ≡ None
none_so None is = refl
none_so (Some a) is = absurd (true≢false is)

-- the rest that is there
pub rest_so : {A B : Type 0} (o : Option A) (a : A) (view : A → B) (P : B → Type 0) → o ≡ Some a → IfSome (option_map view o) P → P (view a)
rest_so o a view P is h = subst (λ o. IfSome (option_map view o) P) is h

-- what the medium keeps, where that is known, has the trace that was written
pub kept_so : (before now : Taken) (kept : Option (List ℕ)) (f : Weights) (steps : List (Step Weights)) → IsKept kept now.bytes → HasWritten before now f steps None
    → IfSome kept (λ bytes. Appends before.bytes (Some bytes) (trace_text f steps))
kept_so before now None f steps is w = tt
kept_so before now (Some bytes) f steps is w = subst (λ o. Appends before.bytes o (trace_text f steps)) is w.0

-- the token says nothing new, or that this is kept
pub kept_then : (agreed : Option Weights) (before now : Taken) (kept : Option (List ℕ)) (old shown told drawn : List (Step Weights)) (fault : Option TraceFault) → shown ≡ drawn
    → IsTrace agreed before now drawn fault
    → (told ≡ old) ⊎ ((told ≡ shown) × (fault ≡ None) × IsKept kept now.bytes)
    → (told ≡ old) ⊎ ((told ≡ drawn) × KeepsTrace agreed before kept told)
kept_then agreed before now kept old shown told drawn fault all w (inl same) = inl same
kept_then agreed before now kept old shown told drawn fault all w (inr (is, whole, keeps)) =
    inr
    (is ∙ all, λ f e. subst (λ l. IfSome kept (λ bytes. Appends before.bytes (Some bytes) (trace_text f l))) (sym (is ∙ all)) (kept_so before now kept f drawn keeps (subst (HasWritten before now f drawn) whole (w f e))))
