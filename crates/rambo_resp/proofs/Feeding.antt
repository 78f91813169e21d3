-- What a decoder has taken when it was fed
use Rattle.std.proofs.Common.{◌≡◌, ℕ, ◌+◌, List, [], ◌∷◌, ◌++◌, length, Option, Some, None, refl, sym, ap, ◌∙◌, subst, inl, inr, append_assoc}
use Rattle.rambo_resp.specs.declared.awaited.Awaited.{Awaited}
use Rattle.rambo_resp.specs.declared.fault.Fault.{Fault}
use Rattle.rambo_resp.specs.Rests.{Rest, spelled, IsRest, GoesWrong}
use Rattle.rambo_resp.specs.Streams.{texts, place_of, faulty, BeginsWithNone}
use Rattle.rambo_resp.specs.Progresses.{after, rest_after, fresh, ProgressState, Run, running, broken, stepped, run}
use Rattle.rambo_resp.specs.Decoders.{DecoderState, HasTaken}
use Rattle.rambo_resp.specs.Endings.{ending_of, reached}
use Rattle.rambo_resp.proofs.Steps.{step_as}
use Rattle.rambo_resp.proofs.Drives.{drive_stuck}
use Rattle.rambo_resp.proofs.Readings.{Outcome, run_outcome, run_cons, run_none, run_broken, stuck_none, stands_taken, taken_stands, broke_taken, reached_sound, sound_reached, next}
use Rattle.rambo_resp.proofs.Unique.{no_byte}

-- a decoder by its parts
abbrev pub view : ProgressState → Option Fault → DecoderState
view p fault = record { waiting = p.waiting; ending = ending_of fault p }

pub fed_ok : (p q : ProgressState) (piece stream : List ℕ) (given : ℕ) → IsRest p.rest → run (running p) piece ≡ running q
    → HasTaken (view p None) stream given → HasTaken (view q None) (stream ++ piece) given
fed_ok p q piece stream given h e k = stands_taken given q (stream ++ piece) (subst (Outcome given (stream ++ piece)) e (run_outcome given piece p stream (taken_stands given p stream h k)))

pub fed_fault : (p : ProgressState) (cs : List (List (List ℕ))) (fault : Fault) (piece stream : List ℕ) (given : ℕ) → IsRest p.rest → run (running p) piece ≡ broken cs fault
    → HasTaken (view p None) stream given → HasTaken (record { waiting = cs; ending = faulty fault }) (stream ++ piece) given
fed_fault p cs fault piece stream given h e k =
    broke_taken given cs fault (stream ++ piece) (subst (Outcome given (stream ++ piece)) e (run_outcome given piece p stream (taken_stands given p stream h k)))

still_none : (r : Rest) (b : ℕ) (m more bytes : List ℕ) → IsRest r → after r.awaited b ≡ None → bytes ≡ spelled r ++ b ∷ m → BeginsWithNone (bytes ++ more)
still_none r b m more bytes h e split =
    let text : spelled r ++ b ∷ (m ++ more) ≡ bytes ++ more = sym (append_assoc (spelled r) (b ∷ m) more) ∙ ap (λ t. t ++ more) (sym split) in
    subst BeginsWithNone text (stuck_none r (b ∷ (m ++ more)) h (drive_stuck r b (m ++ more) e))

still_wrong : (bytes more : List ℕ) (place : ℕ → ℕ) (fault : Fault) → GoesWrong bytes place fault → GoesWrong (bytes ++ more) place fault
still_wrong bytes more place fault h = record {
  front = h.front;
  byte = h.byte;
  more = h.more ++ more;
  split = ap (λ t. t ++ more) h.split ∙ append_assoc (spelled h.front) (h.byte ∷ h.more) more;
  stands = h.stands;
  open_front = h.open_front;
  closed = h.closed;
  told = h.told;
}

-- what broke stays broken
pub fault_stays : (waiting : List (List (List ℕ))) (fault : Fault) (stream more : List ℕ) (given : ℕ)
    → HasTaken (record { waiting = waiting; ending = faulty fault }) stream given → HasTaken (record { waiting = waiting; ending = faulty fault }) (stream ++ more) given
fault_stays waiting fault stream more given h =
    let r = h.reads in
    let w : GoesWrong r.rest (λ n. place_of (length (texts r.parts) + n)) fault = r.ends in
    let stuck = no_byte w.front w.byte w.more r.rest w.stands r.spelled_none w.split w.closed _ refl in
    record {
      commands = h.commands;
      reads = record {
        parts = r.parts;
        each = r.each;
        rest = r.rest ++ more;
        split = ap (λ t. t ++ more) r.split ∙ append_assoc (texts r.parts) r.rest more;
        spelled_none = still_none w.front w.byte w.more more r.rest w.stands stuck w.split;
        told = r.told;
        ends = still_wrong r.rest more (λ n. place_of (length (texts r.parts) + n)) fault w;
      };
      few = h.few;
      waiting = h.waiting;
    }

abbrev Sound : Run → Type 0
Sound (running p) = IsRest p.rest
Sound (broken cs fault) = Unit {0}

next_sound : (p : ProgressState) (b : ℕ) (a : Awaited) → IsRest p.rest → after p.rest.awaited b ≡ Some a → IsRest (rest_after p.rest b a)
next_sound p b a h e =
    elim (step_as p.rest.awaited p.rest.items p.rest.item b a h e) [ inl g ↦ g.1 | inr g ↦ subst IsRest (sym g.2) (refl, refl) ]

run_sound : (bs : List ℕ) (p : ProgressState) → IsRest p.rest → Sound (run (running p) bs)
run_sound [] p h = subst Sound (sym (run_none (running p))) h
run_sound (b ∷ bs) p h =
    subst Sound (sym (run_cons p b bs))
    (elim (after p.rest.awaited b) as (λ o. after p.rest.awaited b ≡ o → Sound (run (stepped o p b) bs)) [
      | None ↦ λ e. subst Sound (sym (run_broken p.waiting _ bs)) tt
      | Some a ↦ λ e. run_sound bs (next p b a) (next_sound p b a h e)
    ] refl)

pub read_reached : (p q : ProgressState) (bs : List ℕ) → reached p.rest ≡ Some p.rest → run (running p) bs ≡ running q → reached q.rest ≡ Some q.rest
read_reached p q bs h e = sound_reached q.rest (subst Sound e (run_sound bs p (reached_sound p.rest h)))

pub fresh_reached : (r : Rest) → r ≡ fresh → reached r ≡ Some r
fresh_reached r e = subst (λ x. reached x ≡ Some x) (sym e) (sound_reached fresh (refl, refl))
