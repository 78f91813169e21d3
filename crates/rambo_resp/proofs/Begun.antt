-- The front of a piece, which belongs to a command that has begun
use Rattle.std.proofs.Common.{◌≡◌, ℕ, ◌-◌, true, List, [], ◌++◌, length, take, drop, Option, Some, None, refl, sym, ap, ◌∙◌, subst, append_assoc, take-append-drop}
use Rattle.std.proofs.lemmas.List.{take_rest}
use Rattle.rambo_resp.specs.declared.awaited.Awaited.{Awaited}
use Rattle.rambo_resp.specs.declared.awaited.Awaited.TheVariants.{Star, Count, CountMinus, CountMinusOne, CountDigits, CountFeed, NoCountFeed, Dollar, Length, LengthDigits, LengthFeed, Bytes, ItemFeed}
use Rattle.rambo_resp.specs.declared.fault.Fault.{Fault}
use Rattle.rambo_resp.specs.Rests.{spelled_as}
use Rattle.rambo_resp.specs.Progresses.{ProgressState}
use Rattle.rambo_resp.specs.Streams.{Ending, faulty}
use Rattle.rambo_resp.specs.Decoders.{DecoderState, HasTaken, HasTakenFront, HasNoneBegun}
use Rattle.rambo_resp.specs.Endings.{is_star}
use Rattle.rambo_resp.proofs.Feeding.{view, fault_stays}

-- more of the piece was taken
module _ (d : DecoderState) (stream piece rest : List ℕ) (given : ℕ) (t : HasTakenFront d stream piece rest given) (e : DecoderState) (n : ℕ)
    (taken : HasTaken e ((stream ++ t.front) ++ take n rest) given) where
  left : piece ≡ (t.front ++ take n rest) ++ drop n rest
  left = t.split ∙ ap (λ l. t.front ++ l) (sym (take-append-drop n rest)) ∙ sym (append_assoc t.front (take n rest) (drop n rest))

  pub more_taken : HasTakenFront e stream piece (take (length rest - n) (drop n rest)) given
  more_taken = record {
    front = t.front ++ take n rest;
    split = left ∙ ap (λ l. (t.front ++ take n rest) ++ l) (sym (take_rest rest n));
    taken = subst (λ s. HasTaken e s given) (append_assoc stream t.front (take n rest)) taken;
  }

  -- or a fault was found
  pub fault_taken : (fault : Fault) → e.ending ≡ faulty fault → HasTaken e (stream ++ piece) given
  fault_taken fault is =
      let broken = λ (x : Ending) (s : List ℕ). HasTaken (record { waiting = e.waiting; ending = x }) s given in
      let whole : ((stream ++ t.front) ++ take n rest) ++ drop n rest ≡ stream ++ piece =
      append_assoc (stream ++ t.front) (take n rest) (drop n rest) ∙ append_assoc stream t.front (take n rest ++ drop n rest)
      ∙ ap (λ l. stream ++ l) (sym (append_assoc t.front (take n rest) (drop n rest)) ∙ sym left) in
      subst (broken e.ending) whole
      (subst (λ x. broken x (((stream ++ t.front) ++ take n rest) ++ drop n rest)) (sym is)
      (fault_stays e.waiting fault ((stream ++ t.front) ++ take n rest) (drop n rest) given (subst (λ x. broken x ((stream ++ t.front) ++ take n rest)) is taken)))

none_star : (w : Awaited) (items : List (List ℕ)) (item : List ℕ) → spelled_as w items item ≡ [] → is_star w ≡ true
none_star Star items item e = refl
none_star Count items item e = cc
none_star CountMinus items item e = cc
none_star CountMinusOne items item e = cc
none_star (CountDigits n) items item e = cc
none_star (CountFeed n) items item e = cc
none_star NoCountFeed items item e = cc
none_star (Dollar left) items item e = cc
none_star (Length left) items item e = cc
none_star (LengthDigits left n) items item e = cc
none_star (LengthFeed left n) items item e = cc
none_star (Bytes left more) items item e = cc
none_star (ItemFeed left) items item e = cc

-- where none has begun, a decoder without a fault is before a command
pub begins_none : (p : ProgressState) (fault : Option Fault) (d : DecoderState) → view p fault ≡ d → HasNoneBegun d.ending → ((f : Fault) → d.ending ≡ faulty f → ⊥) → is_star p.rest.awaited ≡ true
begins_none p None d is none fine = none_star p.rest.awaited p.rest.items p.rest.item (subst (λ (x : DecoderState). HasNoneBegun x.ending) (sym is) none)
begins_none p (Some f) d is none fine = absurd (fine f (ap (λ (x : DecoderState). x.ending) (sym is)))
