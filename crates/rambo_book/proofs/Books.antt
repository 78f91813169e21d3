-- What a book is, whatever it keeps
use Rattle.std.proofs.Common.{◌≡◌, ℕ, ◌+◌, ◌-◌, ◌<◌, ◌≤◌, Bool, true, false, List, [], ◌∷◌, ◌++◌, length, take, drop, Option, None, Some, is_some, refl, sym, ap, ◌∙◌, subst, true≢false, arith}
use Rattle.std.proofs.lemmas.List.{length-append}
use Rattle.std.specs.Option.{option_map}
use mathlib.Core.List.{IsPrefix}
use Rattle.rambo_names.specs.Quorums.{QuorumSystem}
use Rattle.rambo_gossip.specs.Letters.{LetterState}
use Rattle.rambo_node.specs.FullNodes.{FullNode}
use Rattle.rambo_node.specs.Steps.{Step}
use Rattle.rambo_node.specs.declared.step.StepOf.TheVariants as step
use Rattle.rambo_run.specs.Runs.{run}
use Rattle.rambo_node.specs.Acts.{meant_by}
use Rattle.rambo_run.specs.Steps.{meant_in, with_letter, with_event, with_mark, letter_in}
use Rattle.rambo_run.specs.Actors.{actor}
use Rattle.rambo_run.proofs.WellFormed.{run_well_formed}
use Rattle.rambo_roll.specs.Rolls.{Idle}
use Rattle.rambo_roll.specs.Stocks.{StockView}
use Rattle.rambo_mail.specs.declared.mail.Mail.{Mail}
use Rattle.rambo_book.specs.Done.{Done}
use Rattle.rambo_run.proofs.Lists.{none-some}
use Rattle.rambo_book.specs.Kept.{AreSent, BookView, IsKeeper, IsBook, lightened, state}
use Rattle.rambo_book.specs.Windows.{LettersView, among, beyond, completed, delivers_gone, gone_of, kept_in, window_of}
use Rattle.rambo_book.specs.Records.{RecordView, KeepsRecord, Recorded, IsEmpty, IsRecord}
use Rattle.rambo_book.proofs.Whole.{IsWhole}
use Rattle.rambo_book.proofs.Firsts.{first_book}
use Rattle.rambo_book.proofs.Standing.{light_sent}
use Rattle.rambo_book.proofs.Windows.{after_by, count_more, counted, drop_count, far, far_is, few_kept, few_letters, grown_count, kept_there, longer_by, meant_there, sent_fewer, take_count, within_all}
use Rattle.rambo_book.proofs.Judging.{Finished}
use Rattle.rambo_book.proofs.Commits.{book_after}
use Rattle.rambo_book.proofs.Recording.{record_none, record_kept, record_still, record_after, still_whole, whole_after}

-- with all that its run gives it is a book that keeps all
pub whole_book : {Q : Type 0} {s : QuorumSystem Q} {agreed : Option Q} {most : ℕ} {endless : Bool} {f : Q} {steps : List (Step Q)} {letters : LettersView Q} {kept : RecordView} {capacity drawn ahead : ℕ}
    → IsBook s agreed most endless f steps letters kept capacity drawn ahead → IsWhole s agreed most steps f steps (completed (run s f steps) letters) (run s f steps).history (run s f steps).marks capacity
whole_book b = record { founded = b.founded; terms = b.terms; all = refl; fits = b.fits; legal = b.legal; sent = b.sent; told = refl; marked = refl }

nothing_gone : (count window : ℕ) → count ≡ 0 → 0 ≡ count - window
nothing_gone count window e = omega (arith, e)

pub first_of : {Q : Type 0} (s : QuorumSystem Q) (agreed : Option Q) (most : ℕ) (endless : Bool) (f : Q) (steps : List (Step Q)) (letters : LettersView Q) (kept : RecordView) (capacity drawn ahead : ℕ)
    → agreed ≡ Some f → capacity ≡ most → steps ≡ [] → letters.gone ≡ 0 → letters.kept ≡ [] → letters.window ≡ window_of endless most → drawn ≡ 0 → IsEmpty kept → (endless ≡ false → is_some kept.all ≡ true)
    → IsBook s agreed most endless f steps letters kept capacity drawn ahead
first_of s agreed most endless f steps letters kept capacity drawn ahead founded terms e g l window d empty whole =
    let w = run s f steps in
    let none : completed w letters ≡ [] = (λ i. take (g i) w.letters ++ l i) in
    let b = first_book s agreed most steps f steps (completed w letters) [] [] capacity founded terms e e none refl refl in
    let few = few_letters s f steps in
    let no_step = ap length e in
    record {
      founded = founded;
      terms = terms;
      fits = b.fits;
      few = omega (arith, ap length e);
      undrawn = λ is. d;
      whole = whole;
      legal = b.legal;
      window = window;
      gone = g ∙ nothing_gone (length w.letters) (window_of endless most) (omega (arith, few, no_step));
      sent = b.sent;
      recorded = record_none (run s f steps).history (run s f steps).marks kept (sym b.told) (sym b.marked) empty;
    }

-- one whose stock is as it was
pub still_book : {Q : Type 0} {s : QuorumSystem Q} {agreed : Option Q} {most : ℕ} {endless : Bool} {f : Q} {v : StockView (Step Q)} {letters : LettersView Q} {kept : RecordView} {capacity ahead : ℕ}
    (v' : StockView (Step Q)) → IsBook s agreed most endless f v.all letters kept capacity v.drawn ahead → v' ≡ v → IsBook s agreed most endless f v'.all letters kept capacity v'.drawn ahead
still_book {s = s} {agreed = agreed} {most = most} {endless = endless} {f = f} {letters = letters} {kept = kept} {capacity = capacity} {ahead = ahead} v' b e =
    subst (λ (v : StockView _). IsBook s agreed most endless f v.all letters kept capacity v.drawn ahead) (sym e) b

-- one that made room, or of which steps were drawn
pub same_book : {Q : Type 0} {s : QuorumSystem Q} {agreed : Option Q} {most : ℕ} {endless : Bool} {f : Q} {steps : List (Step Q)} {letters : LettersView Q} {kept : RecordView} {capacity drawn ahead : ℕ}
    (steps' : List (Step Q)) (letters' : LettersView Q) (kept' : RecordView) (drawn' : ℕ) → IsBook s agreed most endless f steps letters kept capacity drawn ahead
    → steps' ≡ steps → letters' ≡ record letters { room = letters'.room } → KeepsRecord kept kept' → length steps ≤ drawn' + ahead → (endless ≡ false → drawn' ≡ 0) → IsBook s agreed most endless f steps' letters' kept' capacity drawn' ahead
same_book {s = s} {agreed = agreed} {most = most} {endless = endless} {f = f} {steps = steps} {letters = letters} {kept = kept} {capacity = capacity} {ahead = ahead} steps' letters' kept' drawn' b e l keeps few undrawn =
    subst (λ steps. IsBook s agreed most endless f steps letters' kept' capacity drawn' ahead) (sym e)
    (subst (λ letters. IsBook s agreed most endless f steps letters kept' capacity drawn' ahead) (sym l)
    (record {
      founded = b.founded;
      terms = b.terms;
      fits = b.fits;
      few = few;
      undrawn = undrawn;
      whole = λ is. still_whole kept.all kept'.all keeps.0 (b.whole is);
      legal = b.legal;
      window = b.window;
      gone = b.gone;
      sent = b.sent;
      recorded = record_kept (run s f steps).history (run s f steps).marks kept kept' b.recorded keeps;
    }))

-- one whose steps at hand were drawn, or weren't
few_then : (count drawn drawn' ahead : ℕ) (done : Bool) → count ≤ drawn + ahead → (done ≡ true → drawn' ≡ count) → (done ≡ false → drawn' ≡ drawn) → count ≤ drawn' + ahead
few_then count drawn drawn' ahead true few all none = omega (arith, all refl)
few_then count drawn drawn' ahead false few all none = omega (arith, few, none refl)

pub drawn_book : {Q : Type 0} {s : QuorumSystem Q} {agreed : Option Q} {most : ℕ} {endless : Bool} {f : Q} {steps : List (Step Q)} {letters : LettersView Q} {kept : RecordView} {capacity drawn ahead : ℕ}
    (steps' : List (Step Q)) (drawn' : ℕ) (done : Bool) → endless ≡ true → IsBook s agreed most endless f steps letters kept capacity drawn ahead → steps' ≡ steps → (done ≡ true → drawn' ≡ length steps) → (done ≡ false → drawn' ≡ drawn)
    → IsBook s agreed most endless f steps' letters kept capacity drawn' ahead
drawn_book {steps = steps} {letters = letters} {kept = kept} {drawn = drawn} {ahead = ahead} steps' drawn' done is b e all none =
    same_book steps' letters kept drawn' b e refl (record_still kept) (few_then (length steps) drawn drawn' ahead done b.few all none) (λ bounded. absurd (true≢false (sym is ∙ bounded)))

module _ {Q : Type 0} {s : QuorumSystem Q} {agreed : Option Q} {most : ℕ} {endless : Bool} {f : Q} {steps : List (Step Q)} {letters : LettersView Q} {kept : RecordView} {capacity drawn ahead : ℕ}
    (b : IsBook s agreed most endless f steps letters kept capacity drawn ahead) {roomy : LettersView Q} (room : roomy ≡ record letters { room = roomy.room }) where
  pub sent_room : length (completed (run s f steps) letters) ≡ roomy.gone + length roomy.kept
  sent_room = b.sent.0 ∙ sym (counted (run s f steps) letters (window_of endless most) b.gone b.sent) ∙ sym (ap (λ (v : LettersView _). v.gone + length v.kept) room)

  pub few_room : roomy.gone + length roomy.kept + 1 ≤ length steps + 1
  few_room =
      let all = sent_room in
      let few = few_letters s f steps in
      omega (arith, all, few, b.sent.0)

sent_by : (gone kept window after rest most : ℕ) → after ≡ gone + (kept - window) → rest ≡ kept - (kept - window) → gone + kept ≤ most → after + rest ≤ most
sent_by gone kept window after rest most g k few = omega (arith, g, k, few)

-- so are they once the oldest has gone
pub sent_then : {Q : Type 0} (mid last : LettersView Q) {most : ℕ} → last.gone ≡ mid.gone + beyond mid → last.kept ≡ drop (beyond mid) mid.kept → mid.gone + length mid.kept ≤ most → last.gone + length last.kept ≤ most
sent_then mid last g k few =
    let count = ap length k ∙ drop_count (beyond mid) mid.kept in
    sent_by mid.gone (length mid.kept) mid.window last.gone (length last.kept) _ g count few

-- what becomes of the letters in a step, before the oldest goes
pub record Passed {Q : Type 0} (old mid : LettersView Q) (l : Option (LetterState Q)) (came : Option ℕ) : Type 0 where
  pub gone : mid.gone ≡ old.gone
  pub window : mid.window ≡ old.window
  pub kept : mid.kept ≡ lightened (with_letter old.kept l) (option_map (λ n. n - old.gone) came)

pub passed : {Q : Type 0} (old roomy sent mid : LettersView Q) (l : Option (LetterState Q)) (came : Option ℕ) → roomy ≡ record old { room = roomy.room } → sent.kept ≡ with_letter roomy.kept l → sent.gone ≡ roomy.gone → sent.window ≡ roomy.window
    → mid ≡ record sent { kept = lightened sent.kept (among sent came) } → Passed old mid l came
passed old roomy sent mid l came room k g w light =
    let gone : sent.gone ≡ old.gone = g ∙ ap (λ (v : LettersView _). v.gone) room in
    let kept : sent.kept ≡ with_letter old.kept l = k ∙ ap (λ (v : LettersView _). with_letter v.kept l) room in
    record {
      gone = ap (λ (v : LettersView _). v.gone) light ∙ gone;
      window = ap (λ (v : LettersView _). v.window) light ∙ w ∙ ap (λ (v : LettersView _). v.window) room;
      kept = ap (λ (v : LettersView _). v.kept) light ∙ (λ i. lightened (kept i) (option_map (λ n. n - gone i) came));
    }

-- of a book as it is seen
pub there_inside : {Q : Type 0} (s : QuorumSystem Q) (endless : Bool) (most : ℕ) (b v : BookView Q) (gone : ℕ) (st : Step Q) (is : Bool) → gone ≡ gone_of endless most (state s b) → b ≡ v
    → delivers_gone (gone_of endless most (state s v)) st ≡ is → delivers_gone gone st ≡ is
there_inside s endless most b v gone st is e book h = ap (λ n. delivers_gone n st) e ∙ subst (λ v. delivers_gone (gone_of endless most (state s v)) st ≡ is) (sym book) h

dropped_count : (gone kept window rest all : ℕ) → gone + kept ≡ all → rest ≡ kept - (kept - window) → (gone + (kept - window)) + rest ≡ all
dropped_count gone kept window rest all counts is = omega (arith, counts, is)

dropped_within : (gone kept window all : ℕ) → gone + kept ≡ all → gone + (kept - window) ≤ all
dropped_within gone kept window all counts = omega (arith, counts)

behind_count : {A : Type 0} (gone : ℕ) (all kept : List A) → gone ≤ length all → length (take gone all ++ kept) ≡ length all → gone + length kept ≡ length all
behind_count gone all kept le e = (let first = take_count gone all le in let both = length-append (take gone all) kept in omega (arith, first, both, e))

module _ {Q : Type 0} {s : QuorumSystem Q} {agreed : Option Q} {most : ℕ} {endless : Bool} {f : Q} {steps : List (Step Q)} {letters : LettersView Q} {kept : RecordView} {capacity drawn ahead : ℕ}
    (b : IsBook s agreed most endless f steps letters kept capacity drawn ahead) where
  -- the letters of its run, of which some are gone
  pub within : letters.gone ≤ length (run s f steps).letters
  within = within_all (run s f steps) letters (window_of endless most) b.gone

  pub all_counted : letters.gone + length letters.kept ≡ length (run s f steps).letters
  all_counted = counted (run s f steps) letters (window_of endless most) b.gone b.sent

  pub all_few : letters.gone + length letters.kept ≤ length steps
  all_few = (let all = all_counted in let few = few_letters s f steps in omega (arith, all, few))

  -- a step that delivers none that is gone means what it does by the kept ones
  pub letter_kept : (st : Step Q) → delivers_gone letters.gone st ≡ false → kept_in letters st ≡ letter_in (completed (run s f steps) letters) st
  letter_kept st there = kept_there (run s f steps) letters within st there

  pub meant_kept : (st : Step Q) → delivers_gone letters.gone st ≡ false → meant_by (kept_in letters st) st ≡ meant_in (completed (run s f steps) letters) st
  meant_kept st there = meant_there (run s f steps) letters within st there

  pub kept_few : length letters.kept ≤ letters.window
  kept_few = (let few = few_kept (run s f steps) letters (window_of endless most) b.gone b.sent in subst (λ n. length letters.kept ≤ n) (sym b.window) few)

  -- one that was sent is kept behind the others, and one may have left out its copies
  pub one_past : (mid : LettersView Q) (o : Option (LetterState Q)) (came : Option ℕ) → mid.kept ≡ lightened (with_letter letters.kept o) came → mid.window ≡ letters.window → length mid.kept ≤ mid.window + 1
  one_past mid o came k w =
      let few = kept_few in
      let more = count_more letters.kept o came in
      let same = ap length k in
      omega (arith, few, more, same, w)

  pub few_past : (mid : LettersView Q) (o : Option (LetterState Q)) (came : Option ℕ) → mid.gone ≡ letters.gone → mid.kept ≡ lightened (with_letter letters.kept o) came → mid.gone + length mid.kept ≤ length steps + 1
  few_past mid o came g k =
      let few = all_few in
      let more = count_more letters.kept o came in
      let same = ap length k in
      omega (arith, few, more, same, g)

  module _ {holds name : ℕ} {node : FullNode Q} {tray : List (Mail Q)} {seen : List (Step Q)} (k : IsKeeper s agreed most holds name node tray seen) (idle : Idle actor holds seen steps)
      (st : Step Q) {new : FullNode Q} {d : Done Q} (h : Finished s f steps st name (completed (run s f steps) letters) (run s f steps).history (run s f steps).marks new d) where
    more : IsPrefix steps (steps ++ st ∷ [])
    more = (st ∷ [], refl)

    -- the letters after it, before the oldest goes
    module _ (mid : LettersView Q) (came : Option ℕ) (comes : (n : ℕ) → came ≡ Some n → st ≡ step.Deliver n)
        (same : mid.gone ≡ letters.gone) (window : mid.window ≡ letters.window) (behind : mid.kept ≡ lightened (with_letter letters.kept d.letter) (option_map (λ n. n - letters.gone) came)) where
      sent_mid : AreSent (run s f (steps ++ st ∷ [])) (take mid.gone (run s f (steps ++ st ∷ [])).letters ++ mid.kept)
      sent_mid =
          subst (AreSent (run s f (steps ++ st ∷ [])))
          (longer_by s f steps (steps ++ st ∷ []) more letters within d.letter came ∙ (λ i. take (sym same i) (run s f (steps ++ st ∷ [])).letters ++ sym behind i))
          (light_sent (run s f (steps ++ st ∷ [])) (with_letter (completed (run s f steps) letters) d.letter) (far letters.gone came) h.sent
          (λ n whole is. h.heard n whole (comes n (far_is letters.gone came n is))))

      counted_mid : mid.gone + length mid.kept ≡ length (run s f (steps ++ st ∷ [])).letters
      counted_mid =
          let grows = grown_count s f steps (steps ++ st ∷ []) more in
          let in_all = within in
          behind_count mid.gone (run s f (steps ++ st ∷ [])).letters mid.kept (omega (arith, grows, in_all, same)) sent_mid.0

      pub gone_after : mid.gone + beyond mid ≡ gone_of endless most (run s f (steps ++ st ∷ []))
      gone_after =
          let grows = grown_count s f steps (steps ++ st ∷ []) more in
          after_by (length (run s f steps).letters) (length (run s f (steps ++ st ∷ [])).letters) (window_of endless most) mid.gone (length mid.kept) (mid.gone + beyond mid) (same ∙ b.gone) grows counted_mid
          (ap (λ n. mid.gone + (length mid.kept - n)) (window ∙ b.window))

      pub count_after : (mid.gone + beyond mid) + length (drop (beyond mid) mid.kept) ≡ length (run s f (steps ++ st ∷ [])).letters
      count_after = dropped_count mid.gone (length mid.kept) mid.window _ (length (run s f (steps ++ st ∷ [])).letters) counted_mid (drop_count (beyond mid) mid.kept)

      sent_after : AreSent (run s f (steps ++ st ∷ [])) (take (mid.gone + beyond mid) (run s f (steps ++ st ∷ [])).letters ++ drop (beyond mid) mid.kept)
      sent_after =
          sent_fewer (run s f (steps ++ st ∷ [])) mid.gone (beyond mid) mid.kept sent_mid
          (dropped_within mid.gone (length mid.kept) mid.window (length (run s f (steps ++ st ∷ [])).letters) counted_mid)

      pub after_step : (steps' : List (Step Q)) (letters' : LettersView Q) (roomy kept' : RecordView) (drawn' : ℕ) → length steps < capacity → length steps < drawn' + ahead → (endless ≡ false → drawn' ≡ 0)
          → steps' ≡ steps ++ st ∷ [] → letters'.gone ≡ mid.gone + beyond mid → letters'.kept ≡ drop (beyond mid) mid.kept → letters'.window ≡ mid.window → KeepsRecord kept roomy → Recorded d.event d.mark roomy kept'
          → IsBook s agreed most endless f steps' letters' kept' capacity drawn' ahead
      after_step steps' letters' roomy kept' drawn' less near undrawn e g l w keeps takes =
          let old = run s f steps in
          let whole : IsWhole s agreed most steps' f steps' (lightened (with_letter (completed old letters) d.letter) None) (with_event old.history d.event) (with_mark old.marks d.mark) capacity =
          book_after (whole_book b) k idle st h steps' steps' (lightened (with_letter (completed old letters) d.letter) None) (with_event old.history d.event) (with_mark old.marks d.mark) less None (λ n none. absurd (none-some n none)) e e refl refl refl in
          let more = record_after old.history old.marks roomy kept' (run_well_formed s f steps) (record_kept old.history old.marks kept roomy b.recorded keeps) d.event d.mark h.fits takes in
          record {
            founded = b.founded;
            terms = b.terms;
            fits = whole.fits;
            few = omega (arith, near, ap length e, length-append steps (st ∷ []));
            undrawn = undrawn;
            whole = λ is. whole_after d.event d.mark roomy.all kept'.all takes.0 (still_whole kept.all roomy.all keeps.0 (b.whole is));
            legal = whole.legal;
            window = w ∙ window ∙ b.window;
            gone = g ∙ gone_after ∙ ap (λ steps. gone_of endless most (run s f steps)) (sym e);
            sent = subst (λ steps. AreSent (run s f steps) (take letters'.gone (run s f steps).letters ++ letters'.kept)) (sym e)
                (subst (AreSent (run s f (steps ++ st ∷ []))) (λ i. take (sym g i) (run s f (steps ++ st ∷ [])).letters ++ sym l i) sent_after);
            recorded = subst (λ l. IsRecord l (run s f steps').marks kept') whole.told (subst (λ l. IsRecord (with_event old.history d.event) l kept') whole.marked more);
          }
