-- Lines read from the front of a text
use Rattle.std.proofs.Common.{◌≡◌, ℕ, zero, suc, ◌<◌, ◌⊎◌, inl, inr, Fits, w8, get_or, take, List, [], ◌∷◌, ◌++◌, None, IsSome, codes, sym, ap, subst, ◌∙◌, append_assoc, true≢false, arith}
use Rattle.rambo_history.specs.declared.operation.Op.{Op}
use Rattle.rambo_history.specs.declared.operation.Answer.{Answer}
use Rattle.rambo_history.specs.declared.event.CallId.{CallId}
use Rattle.rambo_history.specs.declared.event.Event.{Event}
use Rattle.rambo_history.specs.declared.event.Event.TheVariants as event
use Rattle.rambo_history.specs.Faults.{fault_of}
use Rattle.rambo_text.specs.declared.fault.Fault.{Fault}
use Rattle.rambo_text.specs.declared.fault.Fault.TheVariants as fault
use Rattle.rambo_text.specs.declared.version.Version.{Version}
use Rattle.rambo_text.specs.Signs.{call_text, IsCall, IsOp}
use Rattle.rambo_text.specs.Words.{IsFirstLine, more_words}
use Rattle.rambo_check.specs.EvidenceStates.{EvidenceState, with_item}
use Rattle.rambo_check.specs.Fronts.{BeginsWithItem}
use Rattle.rambo_check.specs.Items.{IsEvent, IsAnswer}
use Rattle.rambo_check.specs.Lines.{Happened, op_words, answer_words}
use Rattle.rambo_check.specs.Readings.{TakesLine}
use Rattle.rambo_check.specs.Texts.{IsFaultBehind}
use Rattle.rambo_check.proofs.ItemShapes.{line_of, item_are_words, line_lacks}

take_fits : (n : ℕ) (xs : List ℕ) → ((i : ℕ) → Fits w8 (get_or xs i 0)) → (i : ℕ) → get_or (take n xs) i 0 < 256
take_fits zero xs h i = omega arith
take_fits (suc n) [] h i = omega arith
take_fits (suc n) (x ∷ xs) h zero = (h zero).fits
take_fits (suc n) (x ∷ xs) h (suc i) = take_fits n xs (λ k. h (suc k)) i

-- the bytes at the front of a text are bytes
pub front_fits : (n : ℕ) (text front : List ℕ) → front ≡ take n text → ((i : ℕ) → Fits w8 (get_or text i 0)) → (i : ℕ) → get_or front i 0 < 256
front_fits n text front is fits i = subst (λ f. get_or f i 0 < 256) (sym is) (take_fits n text fits i)

first_event : (text : List ℕ) (e : Event) (rest : List ℕ) → IsEvent e → text ≡ line_of (Happened e) ++ 10 ∷ rest → BeginsWithItem text (Happened e) rest
first_event text e rest is whole = record { in_range = is; is_first = record { no_feed = line_lacks (Happened e) is; whole = inl whole } }

-- a call, and what follows it up to the line feed
call_and_more : (words behind more rest : List ℕ) (c : CallId) → words ≡ call_text c ++ behind → behind ≡ more ++ 10 ∷ rest → words ≡ (call_text c ++ more) ++ 10 ∷ rest
call_and_more words behind more rest c is so = is ∙ ap (λ b. call_text c ++ b) so ∙ sym (append_assoc (call_text c) more (10 ∷ rest))

pub first_call : (words : List ℕ) (c : CallId) (o : Op) (behind rest : List ℕ) → IsCall c → IsOp o → words ≡ call_text c ++ behind → behind ≡ more_words (op_words o) ++ 10 ∷ rest
    → BeginsWithItem (codes "call " ++ words) (Happened (event.Call c o)) rest
first_call words c o behind rest call op is so =
    first_event _ (event.Call c o) rest (call, op) (ap (λ w. codes "call " ++ w) (call_and_more words behind (more_words (op_words o)) rest c is so))

pub first_answer : (words : List ℕ) (c : CallId) (a : Answer) (behind rest : List ℕ) → IsCall c → IsAnswer a → words ≡ call_text c ++ behind → behind ≡ more_words (answer_words a) ++ 10 ∷ rest
    → BeginsWithItem (codes "answer " ++ words) (Happened (event.Answer c a)) rest
first_answer words c a behind rest call answer is so =
    first_event _ (event.Answer c a) rest (call, answer) (ap (λ w. codes "answer " ++ w) (call_and_more words behind (more_words (answer_words a)) rest c is so))

-- a line read so that the history takes is taken up
pub takes_event : (v : Version) (text rest : List ℕ) (e : Event) (old new : EvidenceState) → BeginsWithItem text (Happened e) rest → fault_of old.events e ≡ None → new ≡ with_item old (Happened e)
    → TakesLine v text rest old new
takes_event v text rest e old new begins fits taken = record {
  line = line_of (Happened e);
  first = begins.is_first;
  item = Happened e;
  in_range = begins.in_range;
  of_version = tt;
  words = item_are_words (Happened e) begins.in_range;
  good = λ bad. true≢false (sym (subst IsSome fits bad));
  taken = taken;
}

-- and one that it doesn't take, or for which there is no room, is the first that is faulty
pub event_fault : (v : Version) (text rest : List ℕ) (e : Event) (old : EvidenceState) (f : Fault) → BeginsWithItem text (Happened e) rest
    → ((f ≡ fault.OutOfMemory) × (fault_of old.events e ≡ None)) ⊎ ((f ≡ fault.BadHistory) × IsSome (fault_of old.events e))
    → (line : List ℕ) × (behind : List ℕ) × IsFirstLine text line behind × IsFaultBehind v old line f
event_fault v text rest e old f begins (inl memory) =
    (line_of (Happened e), rest, begins.is_first, inl (memory.0, inr (Happened e, begins.in_range, tt, item_are_words (Happened e) begins.in_range, (λ bad. true≢false (sym (subst IsSome memory.1 bad))), (λ passed. passed))))
event_fault v text rest e old f begins (inr bad) =
    (line_of (Happened e), rest, begins.is_first, inr (inr (bad.0, (Happened e, begins.in_range, tt, item_are_words (Happened e) begins.in_range, bad.1))))
