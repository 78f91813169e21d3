-- What is kept of calls and answers stays what the run gives
use Rattle.std.proofs.Common.{◌≡◌, ℕ, true, List, [], Option, None, Some, is_some, refl, sym, ap, ◌∙◌, subst, true≢false}
use Rattle.std.specs.Option.{option_map}
use Rattle.rambo_history.specs.declared.event.Event.{Event}
use Rattle.rambo_history.specs.Faults.{fault_of}
use Rattle.rambo_history.specs.Forms.{IsWellFormed}
use Rattle.rambo_sequence.specs.declared.mark.Mark.{Mark}
use Rattle.rambo_run.specs.Steps.{with_event, with_mark}
use Rattle.rambo_run.proofs.Lists.{none-some, some_inj}
use Rattle.rambo_run.specs.Chronicles.{ChronicleView, IsMarked}
use Rattle.rambo_book.specs.Records.{RecordView, KeepsAll, KeepsRecord, MoreOfAll, Recorded, IsEmpty, IsRecord}
use Rattle.rambo_book.proofs.Opening.{open_none, open_kept, open_with}

-- a chronicle that is kept was there, with the same lists
record Before (old : Option ChronicleView) (c : ChronicleView) : Type 0 where
  pub was : ChronicleView
  pub there : old ≡ Some was
  pub events : c.events ≡ was.events
  pub marks : c.marks ≡ was.marks

before : (old new : Option ChronicleView) → KeepsAll old new → (c : ChronicleView) → new ≡ Some c → Before old c
before None new keeps c is = absurd (none-some c (sym keeps ∙ is))
before (Some d) new keeps c is =
    let same : c ≡ keeps.0 = some_inj c keeps.0 (sym is ∙ keeps.1.0) in
    record { was = d; there = refl; events = ap (λ (c : ChronicleView). c.events) same ∙ keeps.1.1.0; marks = ap (λ (c : ChronicleView). c.marks) same ∙ keeps.1.1.1 }

none_before : (old new : Option ChronicleView) → KeepsAll old new → new ≡ None → old ≡ None
none_before None new keeps is = refl
none_before (Some d) new keeps is = absurd (none-some keeps.0 (sym is ∙ keeps.1.0))

still_all : (o : Option ChronicleView) → KeepsAll o o
still_all None = refl
still_all (Some c) = (c, (refl, (refl, refl)))

pub record_still : (r : RecordView) → KeepsRecord r r
record_still r = (still_all r.all, λ q. refl)

unmore_all : (o : Option ChronicleView) → MoreOfAll None None o o
unmore_all None = refl
unmore_all (Some c) = (c, (refl, (refl, refl)))

pub recorded_none : (r : RecordView) → Recorded None None r r
recorded_none r = (unmore_all r.all, λ none q. refl)

pub still_whole : (old new : Option ChronicleView) → KeepsAll old new → is_some old ≡ true → is_some new ≡ true
still_whole None new keeps is = absurd (true≢false (sym is))
still_whole (Some d) new keeps is = ap is_some keeps.1.0

pub record_none : (history : List Event) (marks : List Mark) (r : RecordView) → history ≡ [] → marks ≡ [] → IsEmpty r → IsRecord history marks r
record_none history marks r h m empty = record {
  all = λ c is. ((empty.0 c is).0 ∙ sym h, (empty.0 c is).1 ∙ sym m);
  answers = λ none. open_none history r.calls empty.1;
}

pub record_kept : (history : List Event) (marks : List Mark) (old new : RecordView) → IsRecord history marks old → KeepsRecord old new → IsRecord history marks new
record_kept history marks old new r keeps = record {
  all = λ c is. let b = before old.all new.all keeps.0 c is in (b.events ∙ (r.all b.was b.there).0, b.marks ∙ (r.all b.was b.there).1);
  answers = λ none. open_kept history old.calls new.calls (r.answers (none_before old.all new.all keeps.0 none)) keeps.1;
}

-- a chronicle that grew by an event and a mark, where there are any
record Grown (e : Option Event) (m : Option Mark) (old : Option ChronicleView) (c : ChronicleView) : Type 0 where
  pub was : ChronicleView
  pub there : old ≡ Some was
  pub events : c.events ≡ with_event was.events e
  pub marks : c.marks ≡ with_mark was.marks m

grown : (e : Option Event) (m : Option Mark) (old new : Option ChronicleView) → MoreOfAll e m old new → (c : ChronicleView) → new ≡ Some c → Grown e m old c
grown e m None new more c is = absurd (none-some c (sym more ∙ is))
grown e m (Some d) new more c is =
    let same : c ≡ more.0 = some_inj c more.0 (sym is ∙ more.1.0) in
    record { was = d; there = refl; events = ap (λ (c : ChronicleView). c.events) same ∙ more.1.1.0; marks = ap (λ (c : ChronicleView). c.marks) same ∙ more.1.1.1 }

none_grown : (e : Option Event) (m : Option Mark) (old new : Option ChronicleView) → MoreOfAll e m old new → new ≡ None → old ≡ None
none_grown e m None new more is = refl
none_grown e m (Some d) new more is = absurd (none-some more.0 (sym is ∙ more.1.0))

pub whole_after : (e : Option Event) (m : Option Mark) (old new : Option ChronicleView) → MoreOfAll e m old new → is_some old ≡ true → is_some new ≡ true
whole_after e m None new more is = absurd (true≢false (sym is))
whole_after e m (Some d) new more is = ap is_some more.1.0

pub record_after : (history : List Event) (marks : List Mark) (old new : RecordView) → IsWellFormed history → IsRecord history marks old
    → (e : Option Event) (m : Option Mark) → ((v : Event) → e ≡ Some v → fault_of history v ≡ None) → Recorded e m old new → IsRecord (with_event history e) (with_mark marks m) new
record_after history marks old new well r e m fits more = record {
  all = λ c is.
      let g = grown e m old.all new.all more.0 c is in
      let had = r.all g.was g.there in
      (g.events ∙ ap (λ h. with_event h e) had.0, g.marks ∙ ap (λ l. with_mark l m) had.1);
  answers = λ none.
      let was = none_grown e m old.all new.all more.0 none in
      open_with history well old.calls new.calls (r.answers was) e fits (more.1 was);
}

-- an event that fits the run's history fits that of the chronicle
pub fits_all : (old new : Option ChronicleView) (history : List Event) (marks : List Mark) → KeepsAll old new → {calls : List _} {room : ℕ} → IsRecord history marks (record { all = old; calls = calls; room = room })
    → (c : ChronicleView) (e : Event) → new ≡ Some c → fault_of history e ≡ None → fault_of c.events e ≡ None
fits_all old new history marks keeps r c e is fits =
    let b = before old new keeps c is in
    ap (λ h. fault_of h e) (b.events ∙ (r.all b.was b.there).0) ∙ fits

-- and a mark that the run's history tells is told by that of the chronicle
pub told_all : (old new : Option ChronicleView) (history : List Event) (marks : List Mark) → KeepsAll old new → {calls : List _} {room : ℕ} → IsRecord history marks (record { all = old; calls = calls; room = room })
    → (c : ChronicleView) (e : Option Event) (m : Mark) → new ≡ Some c → IsMarked (with_event history e) m → IsMarked (with_event c.events e) m
told_all old new history marks keeps r c e m is told =
    let b = before old new keeps c is in
    subst (λ h. IsMarked (with_event h e) m) (sym (b.events ∙ (r.all b.was b.there).0)) told

-- where all is kept something is told of each call
pub kept_known : {A B : Type 0} (all : Option ChronicleView) (r : Option A) (f : A → B) (told : ChronicleView → B) → is_some all ≡ true → ((c : ChronicleView) → all ≡ Some c → option_map f r ≡ Some (told c)) → is_some r ≡ true
kept_known None r f told is h = absurd (true≢false (sym is))
kept_known (Some c) None f told is h = absurd (none-some (told c) (h c refl))
kept_known (Some c) (Some a) f told is h = refl
