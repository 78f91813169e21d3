-- What is left after a fault
use Rattle.std.proofs.Common.{◌≡◌, ◌≢◌, ℕ, List, Option, None, Some, IfSome, inl, inr, refl, subst, sym, ◌∙◌}
use Rattle.std.specs.Io.KnownBytes.{Keeps}
use Rattle.rambo_atomic.specs.Streams.{Begins}
use Rattle.rambo_atomic.specs.declared.whole.StreamFault.{StreamFault}
use Rattle.rambo_atomic.specs.declared.whole.StreamFault.TheVariants as stream
use Rattle.rambo_text.specs.Faults.{of_stream}
use Rattle.rambo_text.specs.declared.fault.ReplayFault.{ReplayFault}
use Rattle.rambo_text.specs.declared.fault.ReplayFault.TheVariants.{Script, Read, Write, Memory}
use Rattle.rambo_text.specs.declared.fault.ScriptFault.{ScriptFault}
use Rattle.rambo_check.specs.Checks.{IsLeft}
use Rattle.rambo_steps.specs.Replays.{IsReplay, IsNoScript, GivesUp, Leaves}

known : (input : Option (List ℕ)) (bytes text : List ℕ) → IsLeft input bytes → IsReplay bytes text → IfSome input (λ b. IsReplay b text)
known None bytes text is replay = tt
known (Some b) bytes text is replay = subst (λ x. IsReplay x text) is replay

-- the writer failed
pub left_after : (f : StreamFault) (input old new : Option (List ℕ)) (bytes text : List ℕ) → f ≡ stream.Write → IsLeft input bytes → IsReplay bytes text → Begins old new text → Leaves (of_stream f) input old new
left_after f input old new bytes text is all replay begins =
    subst (λ g. Leaves (of_stream g) input old new) (sym is) (record { text = text; is_replay = known input bytes text all replay; written = begins })

kept : (old : Option (List ℕ)) → Keeps old old
kept None = tt
kept (Some xs) = refl

no_script : (bytes : List ℕ) (f : ReplayFault) (g : ScriptFault) → f ≡ Script g → GivesUp bytes f → IsNoScript bytes g
no_script bytes f g is (inl spent) = absurd (let both = sym is ∙ spent in cc)
no_script bytes f g is (inr bad) = subst (IsNoScript bytes) (let both = sym bad.1 ∙ is in cc) bad.2

known_fault : (input : Option (List ℕ)) (bytes : List ℕ) (g : ScriptFault) → IsLeft input bytes → IsNoScript bytes g → IfSome input (λ b. IsNoScript b g)
known_fault None bytes g is bad = tt
known_fault (Some b) bytes g is bad = subst (λ x. IsNoScript x g) is bad

-- there was no text, and nothing was written
pub left_unwritten : (f : ReplayFault) (input old : Option (List ℕ)) → ((g : ScriptFault) → f ≡ Script g → (bytes : List ℕ) × IsLeft input bytes × GivesUp bytes f) → f ≢ Write → Leaves f input old old
left_unwritten (Script g) input old told other = let there = told g refl in (known_fault input there.0 g there.1 (no_script there.0 (Script g) g refl there.2), kept old)
left_unwritten Read input old told other = kept old
left_unwritten Write input old told other = absurd (other refl)
left_unwritten Memory input old told other = kept old
