-- What is left when a command was given
use Rattle.std.proofs.Common.{◌≡◌, ℕ, suc, ◌+◌, ◌-◌, List, [], ◌∷◌, length, drop, Option, Some, None, refl, sym, ap, ◌∙◌, subst, arith, length-drop}
use Rattle.std.proofs.lemmas.List.{drop-drop}
use Rattle.rambo_resp.specs.declared.fault.Fault.{Fault}
use Rattle.rambo_resp.specs.Streams.{Ending, open_at, faulty}
use Rattle.rambo_resp.specs.Decoders.{DecoderState, HasTaken, oldest_of, oldest, without_oldest, given_by}
use Rattle.rambo_resp.specs.Progresses.{ProgressState}
use Rattle.rambo_resp.specs.Endings.{ending_of}

stays : (d : DecoderState) (stream : List ℕ) (given : ℕ) → HasTaken d stream given → (n : ℕ) → n ≡ 0 → HasTaken d stream (given + n)
stays d stream given h n e = subst (HasTaken d stream) (let z : given ≡ given + n = omega (arith, e) in z) h

none_given : (ending : Ending) → given_by (oldest_of [] ending) ≡ 0
none_given (open_at bytes place) = refl
none_given (faulty fault) = refl

gives : (waiting : List (List (List ℕ))) (ending : Ending) (stream : List ℕ) (given : ℕ) → HasTaken (record { waiting = waiting; ending = ending }) stream given
    → HasTaken (record { waiting = drop 1 waiting; ending = ending }) stream (given + given_by (oldest_of waiting ending))
gives [] ending stream given h = stays (record { waiting = []; ending = ending }) stream given h _ (none_given ending)
gives (c ∷ cs) ending stream given h =
    let len : suc (length cs) ≡ length h.commands - given = ap length h.waiting ∙ length-drop given h.commands in
    record {
      commands = h.commands;
      reads = h.reads;
      few = omega (arith, len);
      waiting = ap (drop 1) h.waiting ∙ drop-drop 1 given h.commands;
    }

-- so many commands were given, and this one
pub counts : (d : DecoderState) (stream : List ℕ) (given : ℕ) → HasTaken d stream given → HasTaken (without_oldest d) stream (given + given_by (oldest d))
counts d stream given h = gives d.waiting d.ending stream given h

same_ending : (fault : Option Fault) (p : ProgressState) (waiting : List (List (List ℕ))) → ending_of fault p ≡ ending_of fault (record { waiting = waiting; place = p.place; rest = p.rest })
same_ending None p waiting = refl
same_ending (Some fault) p waiting = refl

-- the decoder that is left, by its parts
pub left_counts : (d : DecoderState) (p q : ProgressState) (fault : Option Fault) (stream : List ℕ) (given : ℕ)
    → record { waiting = p.waiting; ending = ending_of fault p } ≡ d → q ≡ record { waiting = drop 1 p.waiting; place = p.place; rest = p.rest }
    → HasTaken d stream given → HasTaken (record { waiting = q.waiting; ending = ending_of fault q }) stream (given + given_by (oldest d))
left_counts d p q fault stream given is e h =
    let all : without_oldest d ≡ record { waiting = q.waiting; ending = ending_of fault q } =
    ap without_oldest (sym is) ∙ ap (λ x. let r : DecoderState = record { waiting = drop 1 p.waiting; ending = x } in r) (same_ending fault p (drop 1 p.waiting))
    ∙ ap (λ (x : ProgressState). let r : DecoderState = record { waiting = x.waiting; ending = ending_of fault x } in r) (sym e) in
    subst (λ x. HasTaken x stream (given + given_by (oldest d))) all (counts d stream given h)
