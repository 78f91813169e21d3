-- A piece comes while the oldest command is held back
use Rattle.std.proofs.Common.{◌≡◌, ◌⊎◌, ℕ, suc, ◌+◌, ◌-◌, ◌≤◌, List, ◌∷◌, ◌++◌, length, drop, Option, Some, None, Result, Ok, Err, IfErr, inl, inr, refl, sym, ap, ◌∙◌, arith, length-drop}
use Rattle.std.proofs.lemmas.List.{drop-append-le, drop-drop}
use Rattle.rambo_resp.specs.declared.fault.Fault.{Fault}
use Rattle.rambo_resp.specs.declared.fault.Fault.TheVariants.{NotArray, BadLength, TooManyItems, ItemTooLong, MissingCrlf, OutOfMemory}
use Rattle.rambo_resp.specs.Streams.{faulty}
use Rattle.rambo_resp.specs.Decoders.{DecoderState, HasTaken, Takes, failed}
use Rattle.rambo_resp.proofs.Unique.{commands_stay}
use Rattle.rambo_connection.specs.Incoming.{behind, Feeds}

-- when the command is given, too, the decoder is as it was
few_given : (a : List (List ℕ)) (waiting commands : List (List (List ℕ))) (given : ℕ) → a ∷ waiting ≡ drop given commands → given + 1 ≤ length commands
few_given a waiting commands given e = let len : suc (length waiting) ≡ length commands - given = ap length e ∙ length-drop given commands in omega (arith, len)

left_given : (a : List (List ℕ)) (waiting commands : List (List (List ℕ))) (given : ℕ) → a ∷ waiting ≡ drop given commands → waiting ≡ drop (given + 1) commands
left_given a waiting commands given e = ap (drop 1) e ∙ drop-drop 1 given commands

one_given : (a : List (List ℕ)) (d : DecoderState) (stream : List ℕ) (given : ℕ) → HasTaken (behind (Some a) d) stream given → HasTaken d stream (given + 1)
one_given a d stream given h = record {
  commands = h.commands;
  reads = h.reads;
  few = few_given a d.waiting h.commands given h.waiting;
  waiting = left_given a d.waiting h.commands given h.waiting;
}

-- the commands that were given stand before those that wait
held_back : (a : List (List ℕ)) (d e : DecoderState) (stream piece : List ℕ) (given : ℕ)
    → HasTaken (behind (Some a) d) stream given → HasTaken e (stream ++ piece) (given + 1) → HasTaken (behind (Some a) e) (stream ++ piece) given
held_back a d e stream piece given h k =
    let new = commands_stay stream piece h.commands k.commands d.ending e.ending h.reads k.reads in
    let all : drop given k.commands ≡ a ∷ (d.waiting ++ new.0) =
    ap (drop given) new.1 ∙ drop-append-le given h.commands new.0 h.few ∙ ap (λ w. w ++ new.0) (sym h.waiting) in
    let left : e.waiting ≡ d.waiting ++ new.0 =
    k.waiting ∙ ap (drop (given + 1)) new.1 ∙ drop-append-le (given + 1) h.commands new.0 (few_given a d.waiting h.commands given h.waiting) ∙ ap (λ w. w ++ new.0) (sym (left_given a d.waiting h.commands given h.waiting)) in
    record {
      commands = k.commands;
      reads = k.reads;
      few = let l : given + 1 ≤ length k.commands = k.few in omega arith;
      waiting = ap (λ w. a ∷ w) left ∙ sym all;
    }

module _ (d e : DecoderState) (piece : List ℕ) where
  Reads-on : Type 0
  Reads-on = (stream : List ℕ) (given : ℕ) → HasTaken d stream given → HasTaken e (stream ++ piece) given

  read_on : (ahead : Option (List (List ℕ))) → Reads-on → (stream : List ℕ) (given : ℕ) → HasTaken (behind ahead d) stream given → HasTaken (behind ahead e) (stream ++ piece) given
  unfolding Reads-on
  read_on None on stream given h = on stream given h
  read_on (Some a) on stream given h = held_back a d e stream piece given h (on stream (given + 1) (one_given a d stream given h))

  Taken : Result (Unit {0}) Fault → Type 0
  Taken r = (stream : List ℕ) (given : ℕ) → HasTaken d stream given → Takes e (stream ++ piece) given r

  abbrev Feeds-taken : Option (List (List ℕ)) → Type 0
  Feeds-taken ahead =
      ((stream : List ℕ) (given : ℕ) → HasTaken (behind ahead d) stream given → HasTaken (behind ahead e) (stream ++ piece) given)
      ⊎ (behind ahead e ≡ failed (behind ahead d) OutOfMemory)

  by_fault : (ahead : Option (List (List ℕ))) (fault : Fault) → Taken (Err fault) → (fault ≡ OutOfMemory → e ≡ failed d OutOfMemory) → Feeds-taken ahead
  unfolding Reads-on Taken
  by_fault ahead OutOfMemory taken memory = inr (ap (behind ahead) (memory refl))
  by_fault ahead (NotArray place) taken memory = inl (read_on ahead (λ s n h. (taken s n h (λ is. cc)).0))
  by_fault ahead (BadLength place) taken memory = inl (read_on ahead (λ s n h. (taken s n h (λ is. cc)).0))
  by_fault ahead (TooManyItems place) taken memory = inl (read_on ahead (λ s n h. (taken s n h (λ is. cc)).0))
  by_fault ahead (ItemTooLong place) taken memory = inl (read_on ahead (λ s n h. (taken s n h (λ is. cc)).0))
  by_fault ahead (MissingCrlf place) taken memory = inl (read_on ahead (λ s n h. (taken s n h (λ is. cc)).0))

  by_result : (ahead : Option (List (List ℕ))) (r : Result (Unit {0}) Fault) → Taken r → IfErr r (λ f. f ≡ OutOfMemory → e ≡ failed d OutOfMemory) → Feeds-taken ahead
  unfolding Reads-on Taken
  by_result ahead (Ok u) taken memory = inl (read_on ahead (λ s n h. (taken s n h).0))
  by_result ahead (Err fault) taken memory = by_fault ahead fault taken memory

  -- what a decoder promises of a piece is true of it behind a command, too
  pub fed : (ahead : Option (List (List ℕ))) (r : Result (Unit {0}) Fault)
      → ((stream : List ℕ) (given : ℕ) → HasTaken d stream given → Takes e (stream ++ piece) given r)
      → IfErr r (λ f. f ≡ OutOfMemory → e ≡ failed d OutOfMemory)
      → ((fault : Fault) → d.ending ≡ faulty fault → (r ≡ Err fault) × (e ≡ d))
      → Feeds (behind ahead d) piece (behind ahead e)
  unfolding Taken
  fed ahead r taken memory again = record {
    taken = by_result ahead r taken memory;
    again = λ fault is. ap (behind ahead) (again fault is).1;
  }
