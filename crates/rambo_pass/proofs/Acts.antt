-- What a client learns of its step
use Rattle.std.proofs.Common.{◌≡◌, ◌≢◌, ◌<◌, ◌⊎◌, inl, inr, ⊎_elim, ℕ, Bool, true, false, if◌then◌else◌, [], ◌∷◌, ◌++◌, length, Option, None, Some, Result, Ok, Err, OnOk, IfOk, IfErr, refl, sym, ap, ◌∙◌, subst, arith}
use mathlib.Core.List.{IsPrefix}
use Rattle.rambo_names.specs.declared.refusal.Refusal.{Refusal}
use Rattle.rambo_names.specs.declared.refusal.Refusal.TheVariants.{LetterGone, NotActive, NoSuchLetter, OutOfMemory, HistoryFull}
use Rattle.rambo_names.specs.Quorums.{QuorumSystem}
use Rattle.rambo_names.specs.Refusals.{least}
use Rattle.rambo_history.specs.declared.event.CallId.{CallId}
use Rattle.rambo_node.specs.Acts.{Act, Meant, name_in}
use Rattle.rambo_node.specs.declared.effect.Effect.{Effect}
use Rattle.rambo_node.specs.declared.effect.Effect.TheVariants as effect
use Rattle.rambo_node.specs.Nodes.{NodeState}
use Rattle.rambo_node.specs.Steps.{Step}
use Rattle.rambo_run.specs.Steps.{meant, meant_in, causes_at, causes_of, refusal, turn}
use Rattle.rambo_run.specs.Worlds.{WorldState, node_at}
use Rattle.rambo_run.specs.Runs.{run}
use Rattle.rambo_run.proofs.Causes.{never_memory, no_letter_differs}
use Rattle.rambo_run.proofs.Lists.{some_inj}
use Rattle.rambo_book.proofs.Judging.{refusal_is}
use Rattle.rambo_book.proofs.Windows.{named_there, refused_there}
use Rattle.rambo_book.specs.Windows.{delivers_gone, gone_of, refused_in}
use Rattle.rambo_book.specs.Kept.{BookView, Told, state}
use Rattle.rambo_run.specs.Legal.{IsLegal}
use Rattle.rambo_pass.specs.Passes.{PassView, Acted, WhyUndone, mine_with}

pub acted : {Q : Type 0} (s : QuorumSystem Q) (agreed : Option Q) (b : BookView Q) (r : Result (Effect Q) Refusal) (before after : PassView Q) (st : Step Q)
    → agreed ≡ Some b.founders → IsPrefix before.seen b.steps → OnOk r (after.seen ≡ b.steps ++ st ∷ []) → OnOk r (IsLegal s b.founders after.seen) → OnOk r (refusal s (state s b) st ≡ None)
    → IfOk r (λ e. e ≡ (turn (state s b) st).effect) → IfOk r (λ e. after.mine ≡ mine_with before.mine (length b.steps) e)
    → IfOk r (λ e. (f : Q) → agreed ≡ Some f → Acted s f before after st e)
acted s agreed b (Ok e) before after st founded p last legal accepted told mine = λ f is.
    subst (λ f. Acted s f before after st e) (some_inj b.founders f (sym founded ∙ is)) (record {
      between = p.0;
      seen = last ∙ ap (λ l. l ++ st ∷ []) (sym p.1);
      legal = legal;
      accepted = ap (λ l. refusal s (run s b.founders l) st) p.1 ∙ accepted;
      told = told ∙ ap (λ l. (turn (run s b.founders l) st).effect) (sym p.1);
      mine = mine ∙ ap (λ l. mine_with before.mine (length l) e) (sym p.1);
    })
acted s agreed b (Err r) before after st founded p last legal accepted told mine = tt

-- the same of a call, whose id is told
pub called : {Q : Type 0} (s : QuorumSystem Q) (agreed : Option Q) (b : BookView Q) (r : Result CallId Refusal) (before after : PassView Q) (st : Step Q)
    → agreed ≡ Some b.founders → IsPrefix before.seen b.steps → OnOk r (after.seen ≡ b.steps ++ st ∷ []) → OnOk r (IsLegal s b.founders after.seen) → OnOk r (refusal s (state s b) st ≡ None)
    → IfOk r (λ id. effect.Called id ≡ (turn (state s b) st).effect) → IfOk r (λ id. after.mine ≡ before.mine ++ record { place = length b.steps; id = id } ∷ [])
    → IfOk r (λ id. (f : Q) → agreed ≡ Some f → Acted s f before after st (effect.Called id))
called s agreed b (Ok id) before after st founded p last legal accepted told mine = acted s agreed b (Ok (effect.Called id)) before after st founded p last legal accepted told mine
called s agreed b (Err r) before after st founded p last legal accepted told mine = tt

-- want of memory is no cause by the rules of a step
never_at : {Q : Type 0} (s : QuorumSystem Q) (o : Option (NodeState Q)) (c : Act Q) (d : Refusal) → least (causes_at s o c) ≡ Some d → d ≢ OutOfMemory
never_at s None c d e = subst (λ r. r ≢ OutOfMemory) (some_inj NotActive d e) (λ e. absurd cc)
never_at s (Some x) c d e = never_memory s x c d e

never_of : {Q : Type 0} (s : QuorumSystem Q) (w : WorldState Q) (o : Option (Meant Q)) (d : Refusal) → least (causes_of s w o) ≡ Some d → d ≢ OutOfMemory
never_of s w None d e = subst (λ r. r ≢ OutOfMemory) (some_inj NoSuchLetter d e) no_letter_differs
never_of s w (Some m) d e = never_at s (node_at w m.name) m.act d e

-- a full book is told by another number
full_differs : OutOfMemory ≢ HistoryFull
full_differs e = absurd cc

short_by : (o : Option Refusal) (count capacity : ℕ) → ((d : Refusal) → o ≡ Some d → d ≢ OutOfMemory) → Told o count capacity OutOfMemory → (o ≡ None) × (count < capacity)
short_by None count capacity never h = ⊎_elim (λ (f : (OutOfMemory ≡ HistoryFull) × (count ≡ capacity)). absurd (full_differs f.0)) (λ (f : (OutOfMemory ≡ OutOfMemory) × (count < capacity)). (refl, f.1)) h
short_by (Some d) count capacity never h = absurd (never d refl (sym h))

-- so where it is told the step isn't refused, and there is room for it
gone_differs : LetterGone ≢ OutOfMemory
gone_differs e = absurd cc

never_in : {Q : Type 0} (s : QuorumSystem Q) (w : WorldState Q) (st : Step Q) (gone : Bool) (d : Refusal) → (if gone then Some LetterGone else refusal s w st) ≡ Some d → d ≢ OutOfMemory
never_in s w st true d e = subst (λ r. r ≢ OutOfMemory) (some_inj LetterGone d e) gone_differs
never_in s w st false d e = never_of s w (meant w st) d (sym (refusal_is s w st) ∙ e)

pub short_of : {Q : Type 0} (s : QuorumSystem Q) (endless : Bool) (most : ℕ) (w : WorldState Q) (st : Step Q) (count capacity : ℕ) (r : Refusal) → r ≡ OutOfMemory → Told (refused_in s endless most w st) count capacity r
    → (refused_in s endless most w st ≡ None) × (count < capacity)
short_of s endless most w st count capacity r is h =
    short_by (refused_in s endless most w st) count capacity (λ d e. never_in s w st (delivers_gone (gone_of endless most w) st) d e) (subst (Told (refused_in s endless most w st) count capacity) is h)

-- and the other way round
pub told_short : (o : Option Refusal) (count capacity : ℕ) → o ≡ None → count < capacity → Told o count capacity OutOfMemory
told_short o count capacity none less = subst (λ o. Told o count capacity OutOfMemory) (sym none) (inr (refl, less))

-- of a book as it was before
pub told_free : {Q : Type 0} (s : QuorumSystem Q) (endless : Bool) (most : ℕ) (b mid : BookView Q) (st : Step Q) → mid ≡ b → refusal s (state s mid) st ≡ None → delivers_gone (gone_of endless most (state s mid)) st ≡ false
    → length mid.steps < mid.capacity → Told (refused_in s endless most (state s b) st) (length b.steps) b.capacity OutOfMemory
told_free s endless most b mid st same none there less =
    subst (λ (b : BookView _). Told (refused_in s endless most (state s b) st) (length b.steps) b.capacity OutOfMemory) same
    (told_short (refused_in s endless most (state s mid) st) (length mid.steps) mid.capacity (refused_there s endless most (state s mid) st there ∙ none) less)

-- a step that names its node delivers no letter that is gone
pub told_named : {Q : Type 0} (s : QuorumSystem Q) (endless : Bool) (most : ℕ) (w : WorldState Q) (st : Step Q) (name count capacity : ℕ) {A : Type 0} (r : Result A Refusal) → name_in (meant_in [] st) ≡ Some name
    → IfErr r (Told (refusal s w st) count capacity) → IfErr r (Told (refused_in s endless most w st) count capacity)
told_named s endless most w st name count capacity r own told =
    subst (λ o. IfErr r (Told o count capacity)) (sym (refused_there s endless most w st (named_there (gone_of endless most w) name st own))) told

-- why a step isn't done, as its client sees it
module _ {Q : Type 0} (s : QuorumSystem Q) (agreed : Option Q) (endless : Bool) (most : ℕ) (b : BookView Q) (before after : PassView Q) (st : Step Q)
    (founded : agreed ≡ Some b.founders) (terms : b.capacity ≡ most) (begins : IsPrefix before.seen b.steps) (legal : IsLegal s b.founders b.steps) where
  undone : (r : Refusal) → Told (refused_in s endless most (state s b) st) (length b.steps) b.capacity r → (r ≡ OutOfMemory) ⊎ (after.seen ≡ b.steps) → WhyUndone s b.founders endless most before after st r
  undone r told shown =
      ⊎_elim
      (λ (is : r ≡ OutOfMemory).
      let short = short_of s endless most (state s b) st (length b.steps) b.capacity r is told in
      inl (is, record { later = b.steps; begins = begins; legal = legal; accepted = short.0; room = omega (arith, short.1, terms) }))
      (λ (seen : after.seen ≡ b.steps).
      inr (subst (λ l. Told (refused_in s endless most (run s b.founders l) st) (length l) most r) (sym seen) (subst (λ n. Told (refused_in s endless most (state s b) st) (length b.steps) n r) terms told)))
      shown

  pub caused : {A : Type 0} (r : Result A Refusal) → IfErr r (Told (refused_in s endless most (state s b) st) (length b.steps) b.capacity) → IfErr r (λ r. (r ≡ OutOfMemory) ⊎ (after.seen ≡ b.steps))
      → IfErr r (λ r. (f : Q) → agreed ≡ Some f → WhyUndone s f endless most before after st r)
  caused (Ok a) told shown = tt
  caused (Err r) told shown = λ f is. subst (λ f. WhyUndone s f endless most before after st r) (some_inj b.founders f (sym founded ∙ is)) (undone r told shown)
