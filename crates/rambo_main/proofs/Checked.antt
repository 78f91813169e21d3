-- How a check ends that met a fault
use Rattle.std.proofs.Common.{◌≡◌, ◌≢◌, ℕ, Bool, true, false, true≢false, List, Option, None, Some, inr, refl, sym, subst, ap, ◌∙◌}
use Rattle.std.specs.Io.KnownBytes.{IsAtEnd, Keeps}
use Rattle.rambo_atomic.specs.Streams.{Begins, counted}
use Rattle.rambo_text.specs.declared.fault.ScriptFault.{ScriptFault}
use Rattle.rambo_text.specs.declared.fault.ReplayFault.{ReplayFault}
use Rattle.rambo_text.specs.declared.fault.ReplayFault.TheVariants.{Script, Read, Write, Memory}
use Rattle.rambo_check.specs.Checks.{IsLeft}
use Rattle.rambo_telling.specs.Telling.{IsFine, Stream, Tells, fault_line, status_of}
use Rattle.rambo_main.specs.Statuses.{EndsCheck}

abbrev is_read : ReplayFault → Bool
is_read (Script g) = false
is_read Read = true
is_read Write = false
is_read Memory = false

abbrev is_write : ReplayFault → Bool
is_write (Script g) = false
is_write Read = false
is_write Write = true
is_write Memory = false

apart : (is_that : ReplayFault → Bool) (f h : ReplayFault) → is_that f ≡ false → is_that h ≡ true → f ≢ h
apart is_that f h isnt is_h = λ same. true≢false ((sym is_h ∙ ap is_that (sym same)) ∙ isnt)

kept : (old new : Option (List ℕ)) → new ≡ old → Keeps old new
kept None new same = tt
kept (Some xs) new same = subst (Keeps (Some xs)) (sym same) refl

-- by what is known of the fault, of the reader and of the writer
pub fault_ends : (IsTold : List ℕ → List ℕ → Bool → Type 0) (IsFault : List ℕ → ScriptFault → Type 0) (f : ReplayFault) (status : ℕ) (read write told : Stream)
    → ((g : ScriptFault) → f ≡ Script g → (text : List ℕ) × IsLeft read.old text × IsFault text g × IsAtEnd read.new)
    → (f ≡ Read → read.failures_now ≡ counted read.failures)
    → (f ≢ Read → IsFine read)
    → (f ≡ Write → (write.failures_now ≡ counted write.failures)
    × ((text : List ℕ) × (lines : List ℕ) × (all : Bool) × IsLeft read.old text × IsTold text lines all × Begins write.old write.new lines))
    → (f ≢ Write → IsFine write × (write.new ≡ write.old))
    → status ≡ status_of f → Tells (fault_line f) told → EndsCheck IsTold IsFault status read write told
fault_ends IsTold IsFault (Script g) status read write told script reads other writes unwritten is line =
    let found = script g refl in
    let left = unwritten (apart is_write (Script g) Write refl refl) in
    inr (Script g, record { status_is = is; reads = other (apart is_read (Script g) Read refl refl); writes = left.0; line = line }, ((found.0, found.1, found.2), kept _ _ left.1))
fault_ends IsTold IsFault Read status read write told script reads other writes unwritten is line =
    let left = unwritten (apart is_write Read Write refl refl) in
    inr (Read, record { status_is = is; reads = reads refl; writes = left.0; line = line }, kept _ _ left.1)
fault_ends IsTold IsFault Write status read write told script reads other writes unwritten is line =
    let w = writes refl in
    let s = w.1 in
    inr (
      Write,
      record { status_is = is; reads = other (apart is_read Write Read refl refl); writes = w.0; line = line },
      record { text = s.0; lines = s.1; all = s.2; left = s.3; checked = s.4; written = s.5 },
    )
fault_ends IsTold IsFault Memory status read write told script reads other writes unwritten is line =
    let left = unwritten (apart is_write Memory Write refl refl) in
    inr (Memory, record { status_is = is; reads = other (apart is_read Memory Read refl refl); writes = left.0; line = line }, kept _ _ left.1)
