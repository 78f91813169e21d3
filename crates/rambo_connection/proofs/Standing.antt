-- The commands that were taken, and those that wait, are the first of the stream
use Rattle.std.proofs.Common.{◌≡◌, ◌⊎◌, ℕ, List, [], ◌∷◌, ◌++◌, length, drop, Some, Ok, inl, inr, refl, sym, ap, ◌∙◌, subst, arith, append_assoc, append-nil}
use Rattle.std.proofs.lemmas.List.{length-append}
use Rattle.std.proofs.Math.Seq.{drop-append_seam}
use Rattle.rambo_resp.specs.declared.fault.Fault.TheVariants.{OutOfMemory}
use Rattle.rambo_resp.specs.Streams.{Ending, open_at, faulty, Reads}
use Rattle.rambo_resp.specs.Decoders.{DecoderState, HasTaken, failed, oldest_of, oldest, without_oldest}
use Rattle.rambo_resp.specs.Progresses.{fresh}
use Rattle.rambo_resp.proofs.Readings.{stands_taken, stands_new}
use Rattle.rambo_resp.proofs.Unique.{commands_stay, each_is_read}
use Rattle.rambo_connection.specs.Incoming.{Feeds}
use Rattle.rambo_connection.specs.Laws.{AreFirst}

-- a decoder stands behind these commands: it has read the stream, or memory ran out at some place of it
abbrev pub StandsBehind : DecoderState → List ℕ → List (List (List ℕ)) → Type 0
StandsBehind d stream taken = Reads stream (taken ++ d.waiting) d.ending ⊎ ((d.ending ≡ faulty OutOfMemory) × AreFirst stream (taken ++ d.waiting))

-- the first commands of a stream are those of a longer one
longer : (stream more : List ℕ) (commands : List (List (List ℕ))) (ending : Ending) → Reads stream commands ending → AreFirst (stream ++ more) commands
longer stream more commands ending reads =
    let all = each_is_read (stream ++ more) in
    let new = commands_stay stream more commands all.0 ending all.1 reads all.2 in
    record {
      more = new.0;
      ending = all.1;
      reads = subst (λ cs. Reads (stream ++ more) cs all.1) new.1 all.2;
    }

first_longer : (stream more : List ℕ) (commands : List (List (List ℕ))) → AreFirst stream commands → AreFirst (stream ++ more) commands
first_longer stream more commands f =
    let l = longer stream more (commands ++ f.more) f.ending f.reads in
    record {
      more = f.more ++ l.more;
      ending = l.ending;
      reads = subst (λ cs. Reads (stream ++ more) cs l.ending) (append_assoc commands f.more l.more) l.reads;
    }

-- as so many of a decoder's commands were given
as_taken : (d : DecoderState) (stream : List ℕ) (taken : List (List (List ℕ))) → Reads stream (taken ++ d.waiting) d.ending → HasTaken d stream (length taken)
as_taken d stream taken reads = record {
  commands = taken ++ d.waiting;
  reads = reads;
  few = omega (arith, length-append taken d.waiting);
  waiting = sym (drop-append_seam taken d.waiting);
}

as_read : (d e : DecoderState) (stream piece : List ℕ) (taken : List (List (List ℕ))) → Reads stream (taken ++ d.waiting) d.ending
    → HasTaken e (stream ++ piece) (length taken) → Reads (stream ++ piece) (taken ++ e.waiting) e.ending
as_read d e stream piece taken reads h =
    let new = commands_stay stream piece (taken ++ d.waiting) h.commands d.ending e.ending reads h.reads in
    let split : h.commands ≡ taken ++ (d.waiting ++ new.0) = new.1 ∙ append_assoc taken d.waiting new.0 in
    let w : e.waiting ≡ d.waiting ++ new.0 = h.waiting ∙ ap (drop (length taken)) split ∙ drop-append_seam taken (d.waiting ++ new.0) in
    subst (λ cs. Reads (stream ++ piece) cs e.ending) (split ∙ ap (λ n. taken ++ n) (sym w)) h.reads

out_of_memory : (d e : DecoderState) (stream piece : List ℕ) (taken : List (List (List ℕ))) → Reads stream (taken ++ d.waiting) d.ending → e ≡ failed d OutOfMemory
    → StandsBehind e (stream ++ piece) taken
out_of_memory d e stream piece taken reads is =
    subst (λ x. StandsBehind x (stream ++ piece) taken) (sym is) (inr (refl, longer stream piece (taken ++ d.waiting) d.ending reads))

pub stands_fed : (d e : DecoderState) (stream piece : List ℕ) (taken : List (List (List ℕ))) → StandsBehind d stream taken → Feeds d piece e → StandsBehind e (stream ++ piece) taken
stands_fed d e stream piece taken (inl reads) f =
    elim f.taken [
      | inl on ↦ inl (as_read d e stream piece taken reads (on stream (length taken) (as_taken d stream taken reads)))
      | inr is ↦ out_of_memory d e stream piece taken reads is
    ]
stands_fed d e stream piece taken (inr r) f =
    subst (λ x. StandsBehind x (stream ++ piece) taken) (sym (f.again OutOfMemory r.0)) (inr (r.0, first_longer stream piece (taken ++ d.waiting) r.1))

-- the oldest command is taken
pub oldest_some : (ws : List (List (List ℕ))) (e : Ending) (c : List (List ℕ)) → oldest_of ws e ≡ Ok (Some c) → ws ≡ c ∷ drop 1 ws
oldest_some [] (open_at bytes place) c e = cc
oldest_some [] (faulty fault) c e = cc
oldest_some (w ∷ ws) f c e = let same : w ≡ c = cc in ap (λ x. x ∷ ws) same

pub stands_next : (d : DecoderState) (stream : List ℕ) (taken : List (List (List ℕ))) (command : List (List ℕ)) → StandsBehind d stream taken → oldest d ≡ Ok (Some command)
    → StandsBehind (without_oldest d) stream (taken ++ command ∷ [])
stands_next d stream taken command s is =
    let all : taken ++ d.waiting ≡ (taken ++ command ∷ []) ++ drop 1 d.waiting =
    ap (λ w. taken ++ w) (oldest_some d.waiting d.ending command is) ∙ sym (append_assoc taken (command ∷ []) (drop 1 d.waiting)) in
    elim s [
      | inl reads ↦ inl (subst (λ cs. Reads stream cs d.ending) all reads)
      | inr r ↦ inr (r.0, subst (AreFirst stream) all r.1)
    ]

pub stands_first : (d : DecoderState) (stream : List ℕ) (taken : List (List (List ℕ))) → StandsBehind d stream taken → AreFirst stream (taken ++ d.waiting)
stands_first d stream taken (inl reads) = record {
  more = [];
  ending = d.ending;
  reads = subst (λ cs. Reads stream cs d.ending) (sym (append-nil (taken ++ d.waiting))) reads;
}
stands_first d stream taken (inr r) = r.1

abbrev pub nothing : DecoderState
nothing = record { waiting = []; ending = open_at [] 0 }

nothing_taken : HasTaken nothing [] 0
nothing_taken = stands_taken 0 (record { waiting = []; place = 0; rest = fresh }) [] stands_new

pub nothing_stands : StandsBehind nothing [] []
nothing_stands = inl (subst (λ cs. Reads [] cs (open_at [] 0)) (sym nothing_taken.waiting) nothing_taken.reads)
