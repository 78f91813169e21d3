-- What is read of a stream byte by byte is what it tells
use Rattle.std.proofs.Common.{◌≡◌, ℕ, ◌+◌, ◌≤◌, List, [], ◌∷◌, ◌++◌, length, drop, Some, None, refl, sym, ap, ◌∙◌, subst, arith, inl, inr, append_assoc, append-nil, length-append}
use Rattle.std.proofs.lemmas.List.{drop-append-le}
use Rattle.std.proofs.lemmas.List.Concat.{flat_map-append}
use Rattle.std.proofs.lemmas.List.Elements.{filter_map-append}
use Rattle.std.specs.Option.{option_to_list}
use Rattle.std.specs.List.{filter_map, AllByRecursion}
use Rattle.rambo_resp.specs.declared.awaited.Awaited.{Awaited}
use Rattle.rambo_resp.specs.declared.fault.Fault.{Fault}
use Rattle.rambo_resp.specs.Rests.{Rest, spelled, IsRest, IsOpen, GoesWrong, fault_of}
use Rattle.rambo_resp.specs.Streams.{Part, IsPart, text_of, command_of, texts, commands_of, place_of, open_at, faulty, BeginsWithNone, Reads}
use Rattle.rambo_resp.specs.Progresses.{after, rest_after, whole, fresh, ProgressState, Run, running, broken, stepped, step, run}
use Rattle.rambo_resp.specs.Decoders.{HasTaken}
use Rattle.rambo_resp.specs.Endings.{Drive, at, done, stuck, drive, where_at, reached}
use Rattle.rambo_resp.proofs.Steps.{step_as}
use Rattle.rambo_resp.proofs.Opens.{rest_open}
use Rattle.rambo_resp.proofs.Drives.{drive_on, drive_end, drive_stuck, drive_none, spelling_drive, rest_drive}

part_drive : (p : Part) (more : List ℕ) → IsPart p → drive fresh (p.text ++ more) ≡ done (option_to_list p.tells) more
part_drive p more h = spelling_drive p.text p.tells more h

-- bytes that lead on, or nowhere, begin with no spelling
on_none : (r q : Rest) (bs : List ℕ) → IsRest r → drive r bs ≡ at q → BeginsWithNone (spelled r ++ bs)
on_none r q bs h e = λ p more is split.
    let l : drive r bs ≡ done (option_to_list p.tells) more = sym (rest_drive r bs h) ∙ ap (drive fresh) split ∙ part_drive p more is in
    cc

pub stuck_none : (r : Rest) (bs : List ℕ) → IsRest r → drive r bs ≡ stuck → BeginsWithNone (spelled r ++ bs)
stuck_none r bs h e = λ p more is split.
    let l : drive r bs ≡ done (option_to_list p.tells) more = sym (rest_drive r bs h) ∙ ap (drive fresh) split ∙ part_drive p more is in
    cc

rest_none : (r : Rest) → IsRest r → BeginsWithNone (spelled r)
rest_none r h = subst BeginsWithNone (append-nil (spelled r)) (on_none r r [] h (drive_none r))

not_open : (r : Rest) (b : ℕ) → IsRest r → after r.awaited b ≡ None → IsOpen (spelled r ++ b ∷ []) → ⊥
not_open r b h e o =
    let one : drive fresh (o.text ++ []) ≡ done (option_to_list o.tells) [] = spelling_drive o.text o.tells [] o.spelling in
    let text : o.text ++ [] ≡ spelled r ++ (b ∷ o.more) = append-nil o.text ∙ o.begins ∙ append_assoc (spelled r) (b ∷ []) o.more in
    let two : drive fresh (o.text ++ []) ≡ stuck = ap (drive fresh) text ∙ rest_drive r (b ∷ o.more) h ∙ drive_stuck r b o.more e in
    cc

pub parts_push : (ps : List Part) (p : Part) → AllByRecursion IsPart ps → IsPart p → AllByRecursion IsPart (ps ++ p ∷ [])
parts_push [] p h k = (k, tt)
parts_push (x ∷ xs) p h k = (h.0, parts_push xs p h.1 k)

pub texts_push : (ps : List Part) (p : Part) → texts (ps ++ p ∷ []) ≡ texts ps ++ p.text
texts_push ps p = flat_map-append text_of ps (p ∷ []) ∙ ap (λ t. texts ps ++ t) (append-nil p.text)

pub commands_cons : (p : Part) (ps : List Part) → commands_of (p ∷ ps) ≡ option_to_list p.tells ++ commands_of ps
commands_cons p ps = elim p.tells as (λ o. filter_map command_of (record { text = p.text; tells = o } ∷ ps) ≡ option_to_list o ++ commands_of ps) [ None ↦ refl | Some c ↦ refl ]

pub commands_push : (ps : List Part) (p : Part) → commands_of (ps ++ p ∷ []) ≡ commands_of ps ++ option_to_list p.tells
commands_push ps p = filter_map-append command_of ps (p ∷ []) ∙ ap (λ t. commands_of ps ++ t) (commands_cons p [] ∙ append-nil (option_to_list p.tells))

-- a progress is that of a stream of which so many commands were given
pub record Stands (given : ℕ) (p : ProgressState) (stream : List ℕ) : Type 0 where
  pub parts : List Part
  pub each : AllByRecursion IsPart parts
  pub split : stream ≡ texts parts ++ spelled p.rest
  pub sound : IsRest p.rest
  pub place : p.place ≡ place_of (length stream)
  pub few : given ≤ length (commands_of parts)
  pub waiting : p.waiting ≡ drop given (commands_of parts)

-- the progress after a byte that may stand
abbrev pub next : ProgressState → ℕ → Awaited → ProgressState
next p b a = record { waiting = p.waiting ++ whole p.rest; place = place_of (p.place + 1); rest = rest_after p.rest b a }

next_place : (n m : ℕ) (s : List ℕ) (b : ℕ) → n ≡ place_of (length s) → place_of (n + 1) ≡ place_of (length (s ++ b ∷ []))
next_place n m s b e = omega (arith, e, length-append s (b ∷ []))

pub waits : (given : ℕ) (old cs : List (List (List ℕ))) (new : List (List (List ℕ))) → given ≤ length cs → old ≡ drop given cs → old ++ new ≡ drop given (cs ++ new)
waits given old cs new h e = ap (λ t. t ++ new) e ∙ sym (drop-append-le given cs new h)

stands_next : (given : ℕ) (p : ProgressState) (s : List ℕ) (b : ℕ) (a : Awaited) → Stands given p s → after p.rest.awaited b ≡ Some a → Stands given (next p b a) (s ++ b ∷ [])
stands_next given p s b a h e =
    let text : s ++ b ∷ [] ≡ texts h.parts ++ (spelled p.rest ++ b ∷ []) = ap (λ t. t ++ b ∷ []) h.split ∙ append_assoc (texts h.parts) (spelled p.rest) (b ∷ []) in
    let at_place = next_place p.place 0 s b h.place in
    elim (step_as p.rest.awaited p.rest.items p.rest.item b a h.sound e) [
      | inl g ↦ record {
        parts = h.parts;
        each = h.each;
        split = text ∙ ap (λ t. texts h.parts ++ t) (sym g.2);
        sound = g.1;
        place = at_place;
        few = h.few;
        waiting = ap (λ t. p.waiting ++ t) g.3 ∙ append-nil p.waiting ∙ h.waiting;
      }
      | inr k ↦
          (let part : Part = record { text = spelled p.rest ++ b ∷ []; tells = k.1.0 } in
          let all = commands_push h.parts part in
          let nothing : [] ≡ spelled (rest_after p.rest b a) = ap spelled (sym k.2) in
          record {
            parts = h.parts ++ part ∷ [];
            each = parts_push h.parts part h.each k.1.1;
            split = text ∙ sym (texts_push h.parts part) ∙ sym (append-nil (texts (h.parts ++ part ∷ []))) ∙ ap (λ t. texts (h.parts ++ part ∷ []) ++ t) nothing;
            sound = subst IsRest (sym k.2) (refl, refl);
            place = at_place;
            few = omega (arith, h.few, ap length all, length-append (commands_of h.parts) (option_to_list part.tells));
            waiting = ap (λ t. p.waiting ++ t) k.1.2 ∙ waits given p.waiting (commands_of h.parts) (option_to_list part.tells) h.few h.waiting ∙ ap (drop given) (sym all);
          })
    ]

-- a stream that broke, behind these commands of which so many were given
pub record Broke (given : ℕ) (cs : List (List (List ℕ))) (fault : Fault) (stream : List ℕ) : Type 0 where
  pub commands : List (List (List ℕ))
  pub reads : Reads stream commands (faulty fault)
  pub few : given ≤ length commands
  pub waiting : cs ≡ drop given commands

breaks : (given : ℕ) (p : ProgressState) (s : List ℕ) (b : ℕ) (bs : List ℕ) → Stands given p s → after p.rest.awaited b ≡ None
    → Broke given p.waiting (fault_of p.rest.awaited b p.place) (s ++ b ∷ bs)
breaks given p s b bs h e =
    let place_is : p.place ≡ place_of (length (texts h.parts) + length (spelled p.rest)) =
    h.place ∙ ap place_of (ap length h.split ∙ length-append (texts h.parts) (spelled p.rest)) in
    let wrong : GoesWrong (spelled p.rest ++ b ∷ bs) (λ n. place_of (length (texts h.parts) + n)) (fault_of p.rest.awaited b p.place) = record {
      front = p.rest;
      byte = b;
      more = bs;
      split = refl;
      stands = h.sound;
      open_front = rest_open p.rest h.sound;
      closed = not_open p.rest b h.sound e;
      told = ap (fault_of p.rest.awaited b) place_is;
    } in
    record {
      commands = commands_of h.parts;
      reads = record {
        parts = h.parts;
        each = h.each;
        rest = spelled p.rest ++ b ∷ bs;
        split = ap (λ t. t ++ b ∷ bs) h.split ∙ append_assoc (texts h.parts) (spelled p.rest) (b ∷ bs);
        spelled_none = stuck_none p.rest (b ∷ bs) h.sound (drive_stuck p.rest b bs e);
        told = refl;
        ends = wrong;
      };
      few = h.few;
      waiting = h.waiting;
    }

abbrev pub Outcome : ℕ → List ℕ → Run → Type 0
Outcome given stream (running p) = Stands given p stream
Outcome given stream (broken cs fault) = Broke given cs fault stream

pub run_broken : (cs : List (List (List ℕ))) (fault : Fault) (bs : List ℕ) → run (broken cs fault) bs ≡ broken cs fault
unfolding run
run_broken cs fault [] = refl
run_broken cs fault (b ∷ bs) = run_broken cs fault bs

pub run_cons : (p : ProgressState) (b : ℕ) (bs : List ℕ) → run (running p) (b ∷ bs) ≡ run (step p b) bs
unfolding run
run_cons p b bs = refl

pub run_none : (r : Run) → run r [] ≡ r
unfolding run
run_none r = refl

-- reading on is reading the stream
pub run_outcome : (given : ℕ) (bs : List ℕ) (p : ProgressState) (s : List ℕ) → Stands given p s → Outcome given (s ++ bs) (run (running p) bs)
run_outcome given [] p s h = subst (Outcome given (s ++ [])) (sym (run_none (running p))) (subst (Stands given p) (sym (append-nil s)) h)
run_outcome given (b ∷ bs) p s h =
    subst (Outcome given (s ++ b ∷ bs)) (sym (run_cons p b bs))
    (elim (after p.rest.awaited b) as (λ o. after p.rest.awaited b ≡ o → Outcome given (s ++ b ∷ bs) (run (stepped o p b) bs)) [
      | None ↦ λ e. subst (Outcome given (s ++ b ∷ bs)) (sym (run_broken p.waiting (fault_of p.rest.awaited b p.place) bs)) (breaks given p s b bs h e)
      | Some a ↦ λ e.
          subst (λ t. Outcome given t (run (running (next p b a)) bs)) (append_assoc s (b ∷ []) bs) (run_outcome given bs (next p b a) (s ++ b ∷ []) (stands_next given p s b a h e))
    ] refl)

pub stands_new : Stands 0 (record { waiting = []; place = 0; rest = fresh }) []
stands_new = record { parts = []; each = tt; split = refl; sound = (refl, refl); place = refl; few = omega arith; waiting = refl }

-- what a progress tells of its stream
pub stands_taken : (given : ℕ) (p : ProgressState) (s : List ℕ) → Stands given p s
    → HasTaken (record { waiting = p.waiting; ending = open_at (spelled p.rest) p.place }) s given
stands_taken given p s h = record {
  commands = commands_of h.parts;
  reads = record {
    parts = h.parts;
    each = h.each;
    rest = spelled p.rest;
    split = h.split;
    spelled_none = rest_none p.rest h.sound;
    told = refl;
    ends = (rest_open p.rest h.sound, refl, h.place ∙ ap place_of (ap length h.split ∙ length-append (texts h.parts) (spelled p.rest)));
  };
  few = h.few;
  waiting = h.waiting;
}

pub taken_stands : (given : ℕ) (p : ProgressState) (s : List ℕ) → IsRest p.rest
    → HasTaken (record { waiting = p.waiting; ending = open_at (spelled p.rest) p.place }) s given → Stands given p s
taken_stands given p s h k =
    let r = k.reads in
    record {
      parts = r.parts;
      each = r.each;
      split = r.split ∙ ap (λ t. texts r.parts ++ t) (sym r.ends.1);
      sound = h;
      place = r.ends.2 ∙ ap place_of (sym (ap length r.split ∙ length-append (texts r.parts) r.rest));
      few = subst (λ t. given ≤ length t) r.told k.few;
      waiting = k.waiting ∙ ap (drop given) r.told;
    }

pub broke_taken : (given : ℕ) (cs : List (List (List ℕ))) (fault : Fault) (s : List ℕ) → Broke given cs fault s
    → HasTaken (record { waiting = cs; ending = faulty fault }) s given
broke_taken given cs fault s h = record { commands = h.commands; reads = h.reads; few = h.few; waiting = h.waiting }

-- what is driven to is a command that has begun
drive_sound : (bs : List ℕ) (r q : Rest) → IsRest r → drive r bs ≡ at q → IsRest q
drive_sound [] r q h e = (let same : r ≡ q = (let k : at r ≡ at q = sym (drive_none r) ∙ e in cc) in subst IsRest same h)
drive_sound (b ∷ bs) r q h e =
    elim (after r.awaited b) as (λ o. after r.awaited b ≡ o → IsRest q) [
      | None ↦ λ k. (let l : stuck ≡ at q = sym (drive_stuck r b bs k) ∙ e in cc)
      | Some a ↦ λ k.
          elim (step_as r.awaited r.items r.item b a h k) [
            | inl g ↦ drive_sound bs (rest_after r b a) q g.1 (sym (drive_on r b bs a k g.0) ∙ e)
            | inr g ↦ (let l : done (whole r) bs ≡ at q = sym (drive_end r b bs a k g.0) ∙ e in cc)
          ]
    ] refl

where_is : (d : Drive) (r : Rest) → where_at d ≡ Some r → d ≡ at r
where_is (at s) r e = cc
where_is (done cs bs) r e = cc
where_is stuck r e = cc

pub reached_sound : (r : Rest) → reached r ≡ Some r → IsRest r
unfolding reached
reached_sound r e = drive_sound (spelled r) fresh r (refl, refl) (where_is _ r e)

pub sound_reached : (r : Rest) → IsRest r → reached r ≡ Some r
unfolding reached
sound_reached r h = ap where_at (ap (drive fresh) (sym (append-nil (spelled r))) ∙ rest_drive r [] h ∙ drive_none r)
