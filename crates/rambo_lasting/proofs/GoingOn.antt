-- What a server that goes on leaves and tells
use Rattle.std.proofs.Common.{◌≡◌, ◌<◌, ◌≤◌, ℕ, List, [], ◌∷◌, Bool, true, false, Option, None, Some, IfSome, length, if◌then◌else◌, not, append-nil, refl, sym, subst, true≢false, arith}
use Rattle.std.specs.Io.KnownBytes.{Appends}
use Rattle.rambo_names.specs.Weights.{Weights}
use Rattle.rambo_scribe.specs.declared.fault.TraceFault.{TraceFault}
use Rattle.rambo_scribe.specs.Traced.{HasWritten, Taken}
use Rattle.rambo_telling.specs.Telling.{Stream, Takes, Tells, stream, torn_line}
use Rattle.rambo_lasting.specs.Resumings.{GoesOn, HoldsTrace, TellsCut, emptied}

-- those that are asked for, where they are, are these
pub asked_so : (asked : Bool) (wanted found : Weights) → (asked ≡ true → wanted ≡ found) → IfSome (if asked then Some wanted else None) (λ f. f ≡ found)
asked_so true wanted found same = same refl
asked_so false wanted found same = tt

-- it goes on from the same file, by other words
abbrev pub goes_on_from : (before start after : Taken) (asked : Option Weights) (f : Weights) (fault : Option TraceFault) → start ≡ before → IfSome asked (λ g. g ≡ f) → GoesOn start after (Some f) fault → GoesOn before after asked fault
goes_on_from before start after asked f fault same wanted on = record {
  founders = on.founders;
  steps = on.steps;
  torn = on.torn;
  all = on.all;
  asked_is = subst (λ h. IfSome asked (λ g. g ≡ h)) on.asked_is wanted;
  held = subst (λ (t : Taken). HoldsTrace t.bytes on.founders on.steps on.torn) same on.held;
  longer = on.longer;
  legal = on.legal;
  written = subst (λ t. HasWritten (emptied t) after on.founders on.all fault) same on.written;
}

-- a line is told of what was cut off
pub cut_told : (torn : List ℕ) (bytes line number : ℕ) (told : Stream) → bytes ≡ length torn → number ≡ line → 0 < bytes → Tells (torn_line bytes number) told → TellsCut torn line told
cut_told [] bytes line number told is same some tells = absurd (omega (arith, is, some))
cut_told (b ∷ torn) bytes line number told is same some tells = subst (λ n. Tells (torn_line n line) told) is (subst (λ n. Tells (torn_line bytes n) told) same tells)

abbrev pub taken : Option (List ℕ) → ℕ → Taken
taken bytes failures = record { bytes = bytes; failures = failures }

-- a file that holds the same, and of which as many calls failed
pub same_file : (held bytes : Option (List ℕ)) (failures before : ℕ) → held ≡ bytes → failures ≡ before → taken held failures ≡ taken bytes before
same_file held bytes failures before same still = subst (λ b. taken held failures ≡ taken b before) same (subst (λ n. taken held failures ≡ taken held n) still refl)

pub not_so : (b : Bool) → not b ≡ false → b ≡ true
not_so true is = refl
not_so false is = absurd (true≢false is)

-- nothing is told where nothing was cut off
pub uncut_told : (torn : List ℕ) (bytes line : ℕ) (told : Stream) → bytes ≡ length torn → bytes ≤ 0 → Takes [] told → TellsCut torn line told
uncut_told [] bytes line told is none takes = takes
uncut_told (b ∷ torn) bytes line told is none takes = absurd (omega (arith, is, none))

pub appends_nothing : (bytes : Option (List ℕ)) → Appends bytes bytes []
appends_nothing None = tt
appends_nothing (Some bytes) = sym (append-nil bytes)

-- who wasn't written to has taken nothing
pub nothing_told : {E : Type 0} (taken : E → Option (List ℕ)) (failures : E → ℕ) (errors : E) → Takes [] (stream taken failures errors errors)
nothing_told taken failures errors = record { fine = refl; taken = appends_nothing (taken errors) }
