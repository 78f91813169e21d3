-- A stream tells one thing
use Rattle.std.proofs.Common.{◌≡◌, ℕ, ◌+◌, List, [], ◌∷◌, ◌++◌, length, drop, Option, Some, None, refl, sym, ap, ◌∙◌, subst, arith, inl, inr, append_assoc, append-nil, length-append}
use Rattle.std.specs.Option.{option_to_list}
use Rattle.std.specs.List.{AllByRecursion}
use Rattle.rambo_resp.specs.Spellings.{IsCommand, Spells}
use Rattle.rambo_resp.specs.declared.awaited.Awaited.{Awaited}
use Rattle.rambo_resp.specs.declared.fault.Fault.{Fault}
use Rattle.rambo_resp.specs.Rests.{Rest, spelled, IsRest, IsOpen, GoesWrong, fault_of}
use Rattle.rambo_resp.specs.Streams.{Part, IsPart, texts, commands_of, place_of, Ending, open_at, faulty, BeginsWithNone, EndsAs, Reads}
use Rattle.rambo_resp.specs.Laws.{EachIsRead, OneReading, AnyCutting, CommandsStay, WithinLimits}
use Rattle.rambo_resp.specs.Decoders.{DecoderState}
use Rattle.rambo_resp.specs.Progresses.{after, rest_after, fresh, ProgressState, Run, running, broken, run}
use Rattle.rambo_resp.specs.Endings.{at, done, stuck, drive}
use Rattle.rambo_resp.proofs.Steps.{step_as}
use Rattle.rambo_resp.proofs.Opens.{open_front, rest_open}
use Rattle.rambo_resp.proofs.Drives.{drive_stuck, drive_none, spelling_drive, rest_drive}
use Rattle.rambo_resp.proofs.Readings.{commands_cons, Outcome, run_outcome, stands_new, stands_taken}

part_drive : (p : Part) (more : List ℕ) → IsPart p → drive fresh (p.text ++ more) ≡ done (option_to_list p.tells) more
part_drive p more h = spelling_drive p.text p.tells more h

-- two spellings at the front of one list are one
record SamePart (p q : Part) (x y : List ℕ) : Type 0 where
  tells : option_to_list p.tells ≡ option_to_list q.tells
  behind : x ≡ y
  long : length p.text ≡ length q.text

same_part : (p q : Part) (x y : List ℕ) → IsPart p → IsPart q → p.text ++ x ≡ q.text ++ y → SamePart p q x y
same_part p q x y h k e =
    let l : done (option_to_list p.tells) x ≡ done (option_to_list q.tells) y = sym (part_drive p x h) ∙ ap (drive fresh) e ∙ part_drive q y k in
    let b : x ≡ y = cc in
    record {
      tells = cc;
      behind = b;
      long = (let n = sym (length-append p.text x) ∙ ap length e ∙ length-append q.text y in let m : length x ≡ length y = ap length b in omega (arith, n, m));
    }

-- how two lists of spellings at the front of one list compare: the second goes on where the first ends
record Onward (ps qs : List Part) (x y : List ℕ) : Type 0 where
  more : List Part
  each : AllByRecursion IsPart more
  commands : commands_of qs ≡ commands_of ps ++ commands_of more
  split : x ≡ texts more ++ y
  long : length (texts qs) ≡ length (texts ps) + length (texts more)

onward : (ps qs : List Part) (x y : List ℕ) → AllByRecursion IsPart ps → AllByRecursion IsPart qs → BeginsWithNone y → texts ps ++ x ≡ texts qs ++ y → Onward ps qs x y
onward [] qs x y h k n e = record { more = qs; each = k; commands = refl; split = e; long = omega arith }
onward (p ∷ ps) [] x y h k n e = absurd (n p (texts ps ++ x) h.0 (sym e ∙ append_assoc p.text (texts ps) x))
onward (p ∷ ps) (q ∷ qs) x y h k n e =
    let text : p.text ++ (texts ps ++ x) ≡ q.text ++ (texts qs ++ y) = sym (append_assoc p.text (texts ps) x) ∙ e ∙ append_assoc q.text (texts qs) y in
    let s = same_part p q (texts ps ++ x) (texts qs ++ y) h.0 k.0 text in
    let o = onward ps qs x y h.1 k.1 n s.behind in
    record {
      more = o.more;
      each = o.each;
      split = o.split;
      commands = commands_cons q qs ∙ ap (λ t. t ++ commands_of qs) (sym s.tells) ∙ ap (λ t. option_to_list p.tells ++ t) o.commands
          ∙ sym (append_assoc (option_to_list p.tells) (commands_of ps) (commands_of o.more)) ∙ ap (λ t. t ++ commands_of o.more) (sym (commands_cons p ps));
      long = omega (arith, length-append p.text (texts ps), length-append q.text (texts qs), s.long, o.long);
    }

-- where both rests begin with no spelling, nothing is between them
ends_there : (more : List Part) (x y : List ℕ) → AllByRecursion IsPart more → BeginsWithNone x → x ≡ texts more ++ y → more ≡ []
ends_there [] x y h n e = refl
ends_there (p ∷ ps) x y h n e = absurd (n p (texts ps ++ y) h.0 (e ∙ append_assoc p.text (texts ps) y))

record Same (ps qs : List Part) (x y : List ℕ) : Type 0 where
  commands : commands_of ps ≡ commands_of qs
  rests : x ≡ y
  long : length (texts ps) ≡ length (texts qs)

same_parts : (ps qs : List Part) (x y : List ℕ) → AllByRecursion IsPart ps → AllByRecursion IsPart qs → BeginsWithNone x → BeginsWithNone y → texts ps ++ x ≡ texts qs ++ y → Same ps qs x y
same_parts ps qs x y h k n m e =
    let o = onward ps qs x y h k m e in
    let none = ends_there o.more x y o.each n o.split in
    record {
      commands = sym (o.commands ∙ ap (λ t. commands_of ps ++ commands_of t) none ∙ append-nil (commands_of ps));
      rests = o.split ∙ ap (λ t. texts t ++ y) none;
      long = (let z : length (texts o.more) ≡ 0 = ap (λ t. length (texts t)) none in omega (arith, o.long, z));
    }

-- the first byte with which a rest goes wrong may not stand there
pub no_byte : (r : Rest) (b : ℕ) (more bytes : List ℕ) → IsRest r → BeginsWithNone bytes → bytes ≡ spelled r ++ b ∷ more → (IsOpen (spelled r ++ b ∷ []) → ⊥)
    → (o : Option Awaited) → after r.awaited b ≡ o → after r.awaited b ≡ None
no_byte r b more bytes h n split closed None e = e
no_byte r b more bytes h n split closed (Some a) e =
    elim (step_as r.awaited r.items r.item b a h e) [
      | inl g ↦ absurd (closed (subst IsOpen g.2 (rest_open (rest_after r b a) g.1)))
      | inr g ↦
          absurd (n (record { text = spelled r ++ b ∷ []; tells = g.1.0 }) more g.1.1 (split ∙ sym (append_assoc (spelled r) (b ∷ []) more)))
    ]

-- a byte in each of two lists that are one: the same, or one stands before the other
data Compare (xs ys : List ℕ) (b c : ℕ) : Type 0 where
  level : xs ≡ ys → b ≡ c → Compare xs ys b c
  before : (z : List ℕ) → ys ≡ xs ++ b ∷ z → Compare xs ys b c
  behind : (z : List ℕ) → xs ≡ ys ++ c ∷ z → Compare xs ys b c

compare : (xs ys m n : List ℕ) (b c : ℕ) → xs ++ b ∷ m ≡ ys ++ c ∷ n → Compare xs ys b c
compare [] [] m n b c e = level refl cc
compare [] (y ∷ ys) m n b c e = before ys cc
compare (x ∷ xs) [] m n b c e = behind xs cc
compare (x ∷ xs) (y ∷ ys) m n b c e =
    let heads : x ≡ y = cc in
    let tails : xs ++ b ∷ m ≡ ys ++ c ∷ n = cc in
    elim (compare xs ys m n b c tails) [
      | level p q ↦ level (cc) q
      | before z p ↦ before z cc
      | behind z p ↦ behind z cc
    ]

-- what leads nowhere is no beginning of what leads on
never : (r q : Rest) (b : ℕ) (z : List ℕ) → IsRest r → IsRest q → after r.awaited b ≡ None → spelled q ≡ spelled r ++ b ∷ z → ⊥
never r q b z h k e split =
    let one : drive fresh (spelled q) ≡ at q = ap (drive fresh) (sym (append-nil (spelled q))) ∙ rest_drive q [] k ∙ drive_none q in
    let two : drive fresh (spelled q) ≡ stuck = ap (drive fresh) split ∙ rest_drive r (b ∷ z) h ∙ drive_stuck r b z e in
    cc

same_rest : (r q : Rest) → IsRest r → IsRest q → spelled r ≡ spelled q → r ≡ q
same_rest r q h k e =
    let one : drive fresh (spelled r ++ []) ≡ at r = rest_drive r [] h ∙ drive_none r in
    let two : drive fresh (spelled q ++ []) ≡ at q = rest_drive q [] k ∙ drive_none q in
    let l : at r ≡ at q = sym one ∙ ap (λ t. drive fresh (t ++ [])) e ∙ two in
    cc

same_fault : (bytes : List ℕ) (place : ℕ → ℕ) (f g : Fault) → BeginsWithNone bytes → GoesWrong bytes place f → GoesWrong bytes place g → f ≡ g
same_fault bytes place f g n h k =
    let first = no_byte h.front h.byte h.more bytes h.stands n h.split h.closed _ refl in
    let second = no_byte k.front k.byte k.more bytes k.stands n k.split k.closed _ refl in
    elim (compare (spelled h.front) (spelled k.front) h.more k.more h.byte k.byte (sym h.split ∙ k.split)) [
      | level p q ↦
          (let fronts = same_rest h.front k.front h.stands k.stands p in
          h.told ∙ ap (λ r. fault_of r.awaited h.byte (place (length (spelled r)))) fronts ∙ ap (λ b. fault_of k.front.awaited b (place (length (spelled k.front)))) q ∙ sym k.told)
      | before z p ↦ absurd (never h.front k.front h.byte z h.stands k.stands first p)
      | behind z p ↦ absurd (never k.front h.front k.byte z k.stands h.stands second p)
    ]

not_both : (bytes : List ℕ) (place : ℕ → ℕ) (f : Fault) → IsOpen bytes → GoesWrong bytes place f → ⊥
not_both bytes place f o h = h.closed (open_front (spelled h.front ++ h.byte ∷ []) h.more (subst IsOpen (h.split ∙ sym (append_assoc (spelled h.front) (h.byte ∷ []) h.more)) o))

same_ending : (n : ℕ) (rest : List ℕ) (e f : Ending) → BeginsWithNone rest → EndsAs n rest e → EndsAs n rest f → e ≡ f
same_ending n rest (open_at x p) (open_at y q) k h l = ap (λ t. open_at t p) (h.1 ∙ sym l.1) ∙ ap (λ t. open_at y t) (h.2 ∙ sym l.2)
same_ending n rest (open_at x p) (faulty g) k h l = absurd (not_both rest (λ m. place_of (n + m)) g h.0 l)
same_ending n rest (faulty f) (open_at y q) k h l = absurd (not_both rest (λ m. place_of (n + m)) f l.0 h)
same_ending n rest (faulty f) (faulty g) k h l = ap faulty (same_fault rest (λ m. place_of (n + m)) f g k h l)

pub one_reading : OneReading
one_reading stream cs ds e f h k =
    let s = same_parts h.parts k.parts h.rest k.rest h.each k.each h.spelled_none k.spelled_none (sym h.split ∙ k.split) in
    let there : EndsAs (length (texts h.parts)) h.rest f = subst (λ r. EndsAs (length (texts h.parts)) r f) (sym s.rests) (subst (λ n. EndsAs n k.rest f) (sym s.long) k.ends) in
    (h.told ∙ s.commands ∙ sym k.told, same_ending _ h.rest e f h.spelled_none h.ends there)

pub commands_stay : CommandsStay
commands_stay stream more cs ds e f h k =
    let split : texts h.parts ++ (h.rest ++ more) ≡ texts k.parts ++ k.rest = sym (append_assoc (texts h.parts) h.rest more) ∙ ap (λ t. t ++ more) (sym h.split) ∙ k.split in
    let o = onward h.parts k.parts (h.rest ++ more) k.rest h.each k.each k.spelled_none split in
    (commands_of o.more, k.told ∙ o.commands ∙ ap (λ t. t ++ commands_of o.more) (sym h.told))

first : ProgressState
first = record { waiting = []; place = 0; rest = fresh }

tells : (stream : List ℕ) (r : Run) → Outcome 0 stream r → (commands : List (List (List ℕ))) × (ending : Ending) × Reads stream commands ending
tells stream (running p) h = (let t = stands_taken 0 p stream h in (t.commands, open_at (spelled p.rest) p.place, t.reads))
tells stream (broken cs fault) h = (h.commands, faulty fault, h.reads)

pub each_is_read : EachIsRead
unfolding first
each_is_read stream = tells stream (run (running first) stream) (run_outcome 0 stream first [] stands_new)

pub any_cutting : AnyCutting
any_cutting stream given d e h k =
    let r = one_reading stream h.commands k.commands d.ending e.ending h.reads k.reads in
    let waiting : d.waiting ≡ e.waiting = h.waiting ∙ ap (drop given) r.0 ∙ sym k.waiting in
    ap (λ w. let x : DecoderState = record { waiting = w; ending = d.ending } in x) waiting ∙ ap (λ t. let x : DecoderState = record { waiting = e.waiting; ending = t } in x) r.1

one_within : (text : List ℕ) (tells : Option (List (List ℕ))) (cs : List (List (List ℕ))) → Spells text tells → AllByRecursion IsCommand cs → AllByRecursion IsCommand (option_to_list tells ++ cs)
one_within text (Some items) cs h k = (h.0, k)
one_within text None cs h k = k

parts_within : (ps : List Part) → AllByRecursion IsPart ps → AllByRecursion IsCommand (commands_of ps)
parts_within [] h = tt
parts_within (p ∷ ps) h = subst (AllByRecursion IsCommand) (sym (commands_cons p ps)) (one_within p.text p.tells (commands_of ps) h.0 (parts_within ps h.1))

pub within_limits : WithinLimits
within_limits stream commands ending h = subst (AllByRecursion IsCommand) (sym h.told) (parts_within h.parts h.each)
