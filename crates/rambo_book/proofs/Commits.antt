-- A step that is committed keeps what the book and the keeper are
use Rattle.std.proofs.Common.{◌≡◌, ℕ, Bool, false, ◌<◌, ◌≤◌, List, [], ◌∷◌, ◌++◌, length, Option, None, Some, Result, Ok, Err, OnErr, refl, sym, ap, ◌∙◌, subst, inl, arith}
use Rattle.std.proofs.lemmas.List.{length-append}
use mathlib.Core.List.{IsPrefix}
use Rattle.rambo_names.specs.declared.refusal.Refusal.{Refusal}
use Rattle.rambo_names.specs.declared.refusal.Refusal.TheVariants.{HistoryFull}
use Rattle.rambo_names.specs.Quorums.{QuorumSystem}
use Rattle.rambo_history.specs.declared.event.Event.{Event}
use Rattle.rambo_gossip.specs.Letters.{LetterState}
use Rattle.rambo_node.specs.declared.effect.Effect.{Effect}
use Rattle.rambo_node.specs.Changes.{made_by}
use Rattle.rambo_node.specs.FullNodes.{FullNode, beside_after, full}
use Rattle.rambo_node.specs.Nodes.{Room, RoomyNode}
use Rattle.rambo_node.proofs.Besides.{full_after_is}
use Rattle.rambo_node.specs.Steps.{Step}
use Rattle.rambo_node.specs.declared.step.StepOf.TheVariants as step
use Rattle.rambo_node.specs.Acts.{Meant, meant_by}
use Rattle.rambo_run.specs.Steps.{meant, effect_in, refusal, with_letter, with_event, with_mark, letter_in, meant_in}
use Rattle.rambo_run.specs.Runs.{run}
use Rattle.rambo_roll.specs.Rolls.{Idle}
use Rattle.rambo_sequence.specs.declared.mark.Mark.{Mark}
use Rattle.rambo_node.specs.declared.half.Half.{Half}
use Rattle.rambo_mail.specs.declared.mail.Mail.{Mail}
use Rattle.rambo_run.specs.Legal.{IsLegal}
use Rattle.rambo_run.specs.Actors.{actor}
use Rattle.rambo_book.specs.Done.{Done, done}
use Rattle.rambo_node.specs.Halves.{IsReadyStep, event_of, judged, letter_of, mark_of, outline_of}
use Rattle.rambo_book.specs.Kept.{BookView, KeeperView, AreSent, IsKeeper, IsServedBy, Told, lightened, state}
use Rattle.rambo_book.proofs.Whole.{IsWhole}
use Rattle.rambo_book.specs.declared.readied.Ready.{Ready}
use Rattle.rambo_book.specs.Readying.{IsReadyIn}
use Rattle.rambo_run.proofs.GoingOn.{prefix_trans}
use Rattle.rambo_run.proofs.NodeLists.{nodes_count}
use Rattle.rambo_book.proofs.Standing.{Alike, outlines_alike, letter_goes, light_sent}
use Rattle.rambo_book.proofs.Firsts.{is_named}
use Rattle.rambo_book.proofs.Judging.{Judged, judged_by, still, still_full, begun, Finished, finished, kept_on}
use Rattle.rambo_book.proofs.Readying.{ready_alike}

-- the condition of a commit, of what the book and the keeper are made of
pub served_inside : {Q : Type 0} (s : QuorumSystem Q) (b v : BookView Q) (k u : KeeperView Q) (st : Step Q) → b ≡ v → k ≡ u → IsServedBy (state s v) st u.name → IsServedBy (state s b) st k.name
served_inside s b v k u st book keeper h = subst (λ b. IsServedBy (state s b) st k.name) (sym book) (subst (λ (k : KeeperView _). IsServedBy (state s v) st k.name) (sym keeper) h)

-- which refusal is told, of the book as it is seen
pub told_outside : {Q : Type 0} (s : QuorumSystem Q) (b v : BookView Q) (st : Step Q) (r : Refusal) → b ≡ v → Told (refusal s (state s b) st) (length b.steps) b.capacity r → Told (refusal s (state s v) st) (length v.steps) v.capacity r
told_outside s b v st r book h = subst (λ (b : BookView _). Told (refusal s (state s b) st) (length b.steps) b.capacity r) book h

-- the condition of a step that is ready
pub ready_inside : {Q : Type 0} (s : QuorumSystem Q) (b v : BookView Q) (k u : KeeperView Q) (r : Ready Q) → b ≡ v → k ≡ u → IsReadyIn s (state s v) u r → IsReadyIn s (state s b) k r
ready_inside s b v k u r book keeper h = subst (λ b. IsReadyIn s (state s b) k r) (sym book) (subst (λ k. IsReadyIn s (state s v) k r) (sym keeper) h)

-- a book and a keeper that are as they were before the first half
pub same_before : {Q A : Type 0} {E : Type 0} (r : Result A E) (b mid old : BookView Q) (k kept first : KeeperView Q) → mid ≡ old → kept ≡ record first { room = kept.room } → OnErr r ((b ≡ mid) × (k ≡ kept))
    → OnErr r ((b ≡ old) × (k ≡ record first { room = k.room }))
same_before (Ok a) b mid old k kept first eb ek h = tt
same_before (Err e) b mid old k kept first eb ek h = (h.0 ∙ eb, h.1 ∙ ek ∙ (λ i. record first { room = sym (ap (λ (k : KeeperView _). k.room) h.1) i }))

-- a keeper that is as it was
pub with_room : {Q : Type 0} (k u : KeeperView Q) → u ≡ k → u ≡ record k { room = u.room }
with_room k u e = e ∙ (λ i. record k { room = sym (ap (λ (k : KeeperView _). k.room) e) i })

-- the lists of a book are the same ones
pub book_same : {Q : Type 0} {s : QuorumSystem Q} {agreed : Option Q} {most : ℕ} {rolled : List (Step Q)} {f : Q} {steps : List (Step Q)} {letters : List (LetterState Q)} {history : List Event} {marks : List Mark} {capacity : ℕ}
    (rolled' steps' : List (Step Q)) (letters' : List (LetterState Q)) (history' : List Event) (marks' : List Mark) → IsWhole s agreed most rolled f steps letters history marks capacity
    → rolled' ≡ rolled → steps' ≡ steps → letters' ≡ letters → history' ≡ history → marks' ≡ marks → IsWhole s agreed most rolled' f steps' letters' history' marks' capacity
book_same {s = s} {f = f} {steps = steps} {capacity = capacity} rolled' steps' letters' history' marks' b r e l h m = record {
  founded = b.founded;
  terms = b.terms;
  all = r ∙ b.all ∙ sym e;
  fits = subst (λ steps. length steps ≤ capacity) (sym e) b.fits;
  legal = subst (IsLegal s f) (sym e) b.legal;
  sent = subst (λ steps. AreSent (run s f steps) letters') (sym e) (subst (AreSent (run s f steps)) (sym l) b.sent);
  told = h ∙ b.told ∙ ap (λ steps. (run s f steps).history) (sym e);
  marked = m ∙ b.marked ∙ ap (λ steps. (run s f steps).marks) (sym e);
}

module _ {Q : Type 0} {s : QuorumSystem Q} {agreed : Option Q} {most : ℕ} {rolled : List (Step Q)} {f : Q} {steps : List (Step Q)} {letters : List (LetterState Q)} {history : List Event} {marks : List Mark} {capacity : ℕ}
    {holds name : ℕ} {node : FullNode Q} {tray : List (Mail Q)} {seen : List (Step Q)}
    (b : IsWhole s agreed most rolled f steps letters history marks capacity) (k : IsKeeper s agreed most holds name node tray seen) (idle : Idle actor holds seen rolled)
    (st : Step Q) (served : IsServedBy (run s f steps) st name) where
  judged_here : Judged s f steps st name node.state letters
  judged_here = judged_by s agreed most rolled f steps letters history marks capacity holds name node tray seen b k idle st served

  pub verdict : (o : Option (LetterState Q)) (ls : List (LetterState Q)) → ls ≡ letters → meant_by o st ≡ meant_in ls st → refusal s (run s f steps) st ≡ judged s node.state (meant_by o st)
  verdict o ls e named = judged_here.verdict ∙ ap (λ ls. judged s node.state (meant_in ls st)) (sym e) ∙ ap (judged s node.state) (sym named)

  pub told_refused : (o : Option (LetterState Q)) (ls : List (LetterState Q)) (r : Refusal) → ls ≡ letters → meant_by o st ≡ meant_in ls st → judged s node.state (meant_by o st) ≡ Some r → Told (refusal s (run s f steps) st) (length steps) capacity r
  told_refused o ls r e named h = subst (λ o. Told o (length steps) capacity r) (sym (verdict o ls e named ∙ h)) refl

  pub told_full : (o : Option (LetterState Q)) (ls : List (LetterState Q)) → ls ≡ letters → meant_by o st ≡ meant_in ls st → judged s node.state (meant_by o st) ≡ None → capacity ≤ length steps → Told (refusal s (run s f steps) st) (length steps) capacity HistoryFull
  told_full o ls e named h full = subst (λ o. Told o (length steps) capacity HistoryFull) (sym (verdict o ls e named ∙ h)) (inl (refl, omega (arith, full, b.fits)))

  -- where it isn't refused, what is ready by the letter of the book is ready
  pub ready_here : (o : Option (LetterState Q)) (half : Half Q) (v : RoomyNode Q) (held : List (Mail Q)) (looked : List (Step Q)) → v.state ≡ node.state → o ≡ letter_in letters st → meant_by o st ≡ meant_in letters st
      → refusal s (run s f steps) st ≡ None → ((m : Meant Q) → meant_by o st ≡ Some m → IsReadyStep s v (outline_of o) m.act half)
      → IsReadyIn s (run s f steps) (record { name = name; node = v.state; room = v.room; beside = v.beside; tray = held; seen = looked }) (record { step = st; half = half; letter = o; asks = false })
  ready_here o half v held looked same letter named none ready =
      let w = run s f steps in
      let x = v.state in
      let j = judged_here in
      let alike : Alike s x (meant_in letters st) (meant w st) = subst (λ x. Alike s x (meant_in letters st) (meant w st)) (sym same) j.same in
      let outline = ap outline_of letter ∙ outlines_alike w letters st b.sent in
      let ok : judged s x (meant_in letters st) ≡ None = ap (λ x. judged s x (meant_in letters st)) same ∙ sym j.verdict ∙ none in
      ready_alike s w st (record { name = name; node = x; room = v.room; beside = v.beside; tray = held; seen = looked }) (meant_in letters st) o half alike outline served none ok (λ m is. ready m (named ∙ is))

module _ {Q : Type 0} {s : QuorumSystem Q} {agreed : Option Q} {most : ℕ} {rolled : List (Step Q)} {f : Q} {steps : List (Step Q)} {letters : List (LetterState Q)} {history : List Event} {marks : List Mark} {capacity : ℕ}
    {holds name : ℕ} {node : FullNode Q} {tray : List (Mail Q)} {seen : List (Step Q)}
    (b : IsWhole s agreed most rolled f steps letters history marks capacity) (k : IsKeeper s agreed most holds name node tray seen) (idle : Idle actor holds seen rolled)
    (st : Step Q) where
  module _ (room : Room Q) (held : List (Mail Q)) (looked : List (Step Q)) (half : Half Q) where
    -- the keeper's node, with this room in it
    abbrev kept : RoomyNode Q
    kept = record { state = node.state; room = room; beside = record { stamps = node.stamps; bases = node.bases } }

    module _ {asks : Bool} {letter : Option (LetterState Q)} (ready : IsReadyIn s (run s f steps) (record { name = name; node = node.state; room = room; beside = kept.beside; tray = held; seen = looked }) (record { step = st; half = half; letter = letter; asks = asks })) (came : Option (LetterState Q)) (brought : came ≡ letter) where
      -- a step whose first half is made, which the letter that it brings along tells
      pub half_here : IsReadyStep s kept (outline_of came) ready.act half
      half_here = subst (λ o. IsReadyStep s kept o ready.act half) (sym ready.brings ∙ sym (ap outline_of brought)) ready.ready

      -- and then the second
      pub finished_here : (new : RoomyNode Q) (effect : Effect Q) → new.state ≡ (made_by node.state ready.act).node → new.beside ≡ beside_after node.state kept.beside ready.act
          → effect ≡ effect_in letters (made_by node.state ready.act).deed.effect (made_by node.state ready.act).letter
          → Finished s f steps st name letters history marks (full new) (record { effect = effect; event = event_of half; mark = mark_of half; letter = letter_of half })
      finished_here new effect after beside did =
          let w = run s f steps in
          let made = made_by node.state ready.act in
          let here = still s agreed most rolled f steps letters history marks capacity holds name node tray seen b k idle in
          let whole = still_full s agreed most rolled f steps letters history marks capacity holds name node tray seen b k idle in
          let d : Done Q = record { effect = effect; event = event_of half; mark = mark_of half; letter = letter_of half } in
          let told : d ≡ record (done letters made) { letter = d.letter } = λ i. record {
            effect = did i;
            event = ready.ready.event i;
            mark = ready.ready.mark i;
            letter = d.letter;
          } in
          let named = is_named w name node.state (nodes_count s f steps) here in
          finished s f steps st name node letters history marks (full new) d here whole ready.act ready.means ready.accepted b.legal b.sent b.told b.marked (full_after_is kept new ready.act after beside) told
          (letter_goes s f steps (steps ++ st ∷ []) (st ∷ [], refl) name named kept whole ready.act (letter_of half) ready.ready.letter)

  module _ {new : FullNode Q} {d : Done Q} (h : Finished s f steps st name letters history marks new d) where
    pub book_after : (rolled' steps' : List (Step Q)) (letters' : List (LetterState Q)) (history' : List Event) (marks' : List Mark) → length steps < capacity
        → (came : Option ℕ) → ((n : ℕ) → came ≡ Some n → st ≡ step.Deliver n)
        → rolled' ≡ rolled ++ st ∷ [] → steps' ≡ steps ++ st ∷ [] → letters' ≡ lightened (with_letter letters d.letter) came → history' ≡ with_event history d.event → marks' ≡ with_mark marks d.mark
        → IsWhole s agreed most rolled' f steps' letters' history' marks' capacity
    book_after rolled' steps' letters' history' marks' less came comes r e l v m =
        let more : IsWhole s agreed most (rolled ++ st ∷ []) f (steps ++ st ∷ []) (lightened (with_letter letters d.letter) came) (with_event history d.event) (with_mark marks d.mark) capacity = record {
          founded = b.founded;
          terms = b.terms;
          all = ap (λ l. l ++ st ∷ []) b.all;
          fits = omega (arith, less, length-append steps (st ∷ []));
          legal = h.legal;
          sent = light_sent (run s f (steps ++ st ∷ [])) (with_letter letters d.letter) came h.sent (λ n whole is. h.heard n whole (comes n is));
          told = h.told;
          marked = h.marked;
        } in
        book_same rolled' steps' letters' history' marks' more r e l v m

    pub keeper_after : (held : ℕ) (longer : List (Step Q)) → length steps < capacity → held ≡ holds → longer ≡ steps ++ st ∷ [] → IsKeeper s agreed most held name new tray longer
    keeper_after held longer less same e =
        let p : IsPrefix seen (steps ++ st ∷ []) = prefix_trans seen steps (steps ++ st ∷ []) (begun s agreed most rolled f steps letters history marks capacity holds name node tray seen b k idle) (st ∷ [], refl) in
        let fits : length (steps ++ st ∷ []) ≤ most = omega (arith, less, b.terms, length-append steps (st ∷ [])) in
        subst (IsKeeper s agreed most held name new tray) (sym e) (kept_on s agreed most f holds held name node new tray seen (steps ++ st ∷ []) b.founded k same p h.legal fits h.node h.full)
