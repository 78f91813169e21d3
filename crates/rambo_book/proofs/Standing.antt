-- Kept letters stand for those that were sent: they mean the same, and go on to do so
use Rattle.std.proofs.Common.{◌≡◌, ◌⊎◌, ℕ, zero, suc, ◌+◌, ◌-◌, List, [], ◌∷◌, length, get_or, All, Option, None, Some, false, slice_get, slice_set, refl, sym, ap, ◌∙◌, subst, inl, inr, arith}
use Rattle.std.proofs.lemmas.List.{length-append, length-set}
use Rattle.std.proofs.lemmas.Bool.{cases_eq}
use mathlib.Core.List.{IsPrefix}
use Rattle.std.specs.Option.{option_and_then}
use Rattle.std.specs.FinMap as map
use Rattle.rambo_names.specs.Names.{IsName}
use Rattle.rambo_names.specs.Quorums.{QuorumSystem}
use Rattle.rambo_names.specs.Refusals.{least}
use Rattle.rambo_tag.specs.Copies.{Copies, joined}
use Rattle.rambo_tag.proofs.CopyOrder.{is_below, is_newer-is_below, not_below-trans, greater-right}
use Rattle.rambo_tag.proofs.Joins.{get-joined}
use Rattle.rambo_tag.proofs.Keys.{key_cmp}
use Rattle.rambo_gossip.specs.Kinds.{Kind}
use Rattle.rambo_gossip.specs.Kinds as kind
use Rattle.rambo_gossip.specs.Letters.{LetterState, kind_with, letter_with}
use Rattle.rambo_gossip.specs.Short.{copies_in, IsShort}
use Rattle.rambo_node.specs.Acts.{Act, Meant, delivery, name_in}
use Rattle.rambo_node.specs.declared.effect.Effect.{Effect}
use Rattle.rambo_node.specs.Changes.{Made, made_by, refusal_of}
use Rattle.rambo_node.specs.FullNodes.{FullNode, IsDelta, delta_letter, full}
use Rattle.rambo_node.specs.Letters.{letter_for}
use Rattle.rambo_node.specs.Nodes.{NodeState, RoomyNode}
use Rattle.rambo_node.proofs.Short.{heard_as_whole}
use Rattle.rambo_node.specs.Acts as act
use Rattle.rambo_node.specs.Steps.{delivered_by, Step}
use Rattle.rambo_node.specs.declared.step.StepOf.TheVariants as step
use Rattle.rambo_run.specs.Worlds.{WorldState, node_at, copies_of, held_by, letter_at}
use Rattle.rambo_run.specs.Steps.{meant, meant_in, with_letter, effect_in, letter_in}
use Rattle.rambo_run.specs.Runs.{run}
use Rattle.rambo_run.proofs.Lists.{none-some, some_inj, get_more}
use Rattle.rambo_run.proofs.Growing.{copies_are_kept}
use Rattle.rambo_run.proofs.Legal.{get-left, run-grows}
use Rattle.rambo_run.proofs.Unsent.{unsent}
use Rattle.rambo_deltas.specs.Deltas.{full_at}
use Rattle.rambo_deltas.proofs.Short.{later_too}
use Rattle.rambo_mail.specs.declared.mail.Mail.{Mail}
use Rattle.rambo_node.specs.Halves.{SendsFor, judged, outline_of}
use Rattle.rambo_book.specs.Done.{done}
use Rattle.rambo_node.proofs.Outlines.{letter_twice}
use Rattle.rambo_sequence.proofs.Members.{set_here, set_there}
use Rattle.rambo_book.specs.Kept.{StandsFor, AreSent, IsMailOf, IsServedBy, lightened_at, lightened}

-- a change delivers a letter, and another one that for which the letter stands at a node
pub record IsShortDelivery {Q : Type 0} (x : NodeState Q) (c d : Act Q) : Type 0 where
  pub letter : LetterState Q
  pub whole : LetterState Q
  pub delivers : c ≡ act.Hear letter
  pub delivered : d ≡ act.Hear whole
  pub short : IsShort letter whole x.registers

-- two changes that a step may mean come to the same for a node: they are one, or the first delivers what stands for the
-- letter of the second
pub record Alike {Q : Type 0} (s : QuorumSystem Q) (x : NodeState Q) (o p : Option (Meant Q)) : Type 0 where
  pub judges : judged s x o ≡ judged s x p
  pub changes : (m k : Meant Q) → o ≡ Some m → p ≡ Some k → (m.act ≡ k.act) ⊎ IsShortDelivery x m.act k.act

pub itself : {Q : Type 0} (s : QuorumSystem Q) (x : NodeState Q) (o : Option (Meant Q)) → Alike s x o o
itself s x o = record { judges = refl; changes = λ m k e f. inl (ap (λ (m : Meant _). m.act) (some_inj m k (sym e ∙ f))) }

-- lists of one length have items at the same places
pub paired : {A B : Type 0} (xs : List A) (ys : List B) → length xs ≡ length ys → (i : ℕ)
    → ((slice_get xs i ≡ None) × (slice_get ys i ≡ None)) ⊎ ((a : A) × (b : B) × (slice_get xs i ≡ Some a) × (slice_get ys i ≡ Some b))
paired [] [] e i = inl (refl, refl)
paired [] (y ∷ ys) e i = absurd (omega (arith, e))
paired (x ∷ xs) [] e i = absurd (omega (arith, e))
paired (x ∷ xs) (y ∷ ys) e zero = inr (x, y, refl, refl)
paired (x ∷ xs) (y ∷ ys) e (suc i) = paired xs ys (omega (arith, e)) i

-- of each number there is a kept letter and one that it stands for, or neither
pub letters_paired : {Q : Type 0} (w : WorldState Q) (letters : List (LetterState Q)) → AreSent w letters → (n : ℕ)
    → ((letter_at letters n ≡ None) × (letter_at w.letters n ≡ None))
    ⊎ ((l : LetterState Q) × (whole : LetterState Q) × (letter_at letters n ≡ Some l) × (letter_at w.letters n ≡ Some whole) × StandsFor w l whole)
letters_paired w letters sent zero = inl (refl, refl)
letters_paired w letters sent (suc i) = elim (paired letters w.letters sent.0 i) [
  | inl n ↦ inl n
  | inr p ↦ inr (p.0, p.1, p.2, p.3, sent.1 i p.0 p.1 p.2 p.3)
]

-- a letter goes where the one goes for which it stands
pub goes_alike : {Q : Type 0} (l whole : LetterState Q) (held : Copies) → IsShort l whole held → l.addressee ≡ whole.addressee
goes_alike l whole held short = ap (λ (l : LetterState _). l.addressee) short.rest

-- and tells the same besides copies
pub outline_alike : {Q : Type 0} (l whole : LetterState Q) (held : Copies) → IsShort l whole held → letter_with l map.empty ≡ letter_with whole map.empty
outline_alike l whole held short = sym (letter_twice l (copies_in whole.kind) map.empty) ∙ ap (λ l. letter_with l map.empty) short.rest

module _ {Q : Type 0} (s : QuorumSystem Q) (x : NodeState Q) where
  pub verdict_alike : (l whole : LetterState Q) → IsShort l whole x.registers → refusal_of s x (act.Hear l) ≡ refusal_of s x (act.Hear whole)
  verdict_alike l whole short = ap least (heard_as_whole x l whole short).1

  pub made_alike : (l whole : LetterState Q) → IsShort l whole x.registers → made_by x (act.Hear l) ≡ made_by x (act.Hear whole)
  unfolding made_by
  made_alike l whole short = ap Rattle.rambo_node.specs.Changes.alone (heard_as_whole x l whole short).0

  pub coming : (l whole : LetterState Q) → IsShort l whole x.registers
      → Alike s x (Some (record { name = l.addressee; act = act.Hear l })) (Some (record { name = whole.addressee; act = act.Hear whole }))
  coming l whole short = record {
    judges = verdict_alike l whole short;
    changes = λ m k e f.
        inr
        (record {
          letter = l;
          whole = whole;
          delivers = sym (ap (λ (m : Meant _). m.act) (some_inj _ m e));
          delivered = sym (ap (λ (m : Meant _). m.act) (some_inj _ k f));
          short = short;
        });
  }

-- of a letter to the node of this name
pub short_here : {Q : Type 0} (w : WorldState Q) (name : ℕ) (x : NodeState Q) → node_at w name ≡ Some x → (l whole : LetterState Q) → StandsFor w l whole → whole.addressee ≡ name → IsShort l whole x.registers
short_here w name x here l whole short own = subst (IsShort l whole) (ap (held_by w) own ∙ ap copies_of here) short

module _ {Q : Type 0} (s : QuorumSystem Q) (w : WorldState Q) (letters : List (LetterState Q)) (name : ℕ) (x : NodeState Q) (here : node_at w name ≡ Some x) where
  delivered_alike : (n : ℕ) → AreSent w letters → ((m : Meant Q) → delivery (letter_at w.letters n) ≡ Some m → m.name ≡ name)
      → Alike s x (delivery (letter_at letters n)) (delivery (letter_at w.letters n))
  delivered_alike n sent served = elim (letters_paired w letters sent n) [
    | inl e ↦ subst (λ o. Alike s x (delivery (letter_at letters n)) (delivery o)) (e.0 ∙ sym e.1) (itself s x (delivery (letter_at letters n)))
    | inr p ↦ (let own : p.1.addressee ≡ name = served (record { name = p.1.addressee; act = act.Hear p.1 }) (ap delivery p.3) in
        subst (λ o. Alike s x (delivery o) (delivery (letter_at w.letters n))) (sym p.2)
        (subst (λ o. Alike s x (delivery (Some p.0)) (delivery o)) (sym p.3) (coming s x p.0 p.1 (short_here w name x here p.0 p.1 p.4 own))))
  ]

pub alike : {Q : Type 0} (s : QuorumSystem Q) (w : WorldState Q) (letters : List (LetterState Q)) (name : ℕ) (x : NodeState Q) (st : Step Q) → AreSent w letters → node_at w name ≡ Some x → IsServedBy w st name
    → Alike s x (meant_in letters st) (meant w st)
alike s w letters name x (step.Deliver n) sent here served = delivered_alike s w letters name x here n sent served
alike s w letters name x _ sent here served = itself s x _

-- the letter of the book that a step lets come tells what the one that was sent does, besides copies
outline_at : {Q : Type 0} (w : WorldState Q) (letters : List (LetterState Q)) (n : ℕ) → AreSent w letters → outline_of (letter_at letters n) ≡ outline_of (letter_at w.letters n)
outline_at w letters n sent = elim (letters_paired w letters sent n) [
  | inl e ↦ ap outline_of (e.0 ∙ sym e.1)
  | inr p ↦ ap outline_of p.2 ∙ ap Some (outline_alike p.0 p.1 _ p.4) ∙ sym (ap outline_of p.3)
]

outlines_by : {Q : Type 0} (w : WorldState Q) (letters : List (LetterState Q)) (o : Option ℕ) → AreSent w letters
    → outline_of (option_and_then (letter_at letters) o) ≡ outline_of (option_and_then (letter_at w.letters) o)
outlines_by w letters None sent = refl
outlines_by w letters (Some n) sent = outline_at w letters n sent

pub outlines_alike : {Q : Type 0} (w : WorldState Q) (letters : List (LetterState Q)) (st : Step Q) → AreSent w letters → outline_of (letter_in letters st) ≡ outline_of (letter_in w.letters st)
outlines_alike w letters st sent = outlines_by w letters (delivered_by st) sent

-- whose step it is
names_alike : {Q : Type 0} (w : WorldState Q) (letters : List (LetterState Q)) (n : ℕ) → AreSent w letters → name_in (delivery (letter_at letters n)) ≡ name_in (delivery (letter_at w.letters n))
names_alike w letters n sent = elim (letters_paired w letters sent n) [
  | inl e ↦ ap (λ o. name_in (delivery o)) (e.0 ∙ sym e.1)
  | inr p ↦ ap (λ o. name_in (delivery o)) p.2 ∙ ap Some (goes_alike p.0 p.1 _ p.4) ∙ sym (ap (λ o. name_in (delivery o)) p.3)
]

pub same_name : {Q : Type 0} (w : WorldState Q) (letters : List (LetterState Q)) (st : Step Q) → AreSent w letters → name_in (meant_in letters st) ≡ name_in (meant w st)
same_name w letters (step.Deliver n) sent = names_alike w letters n sent
same_name w letters _ sent = refl

-- what is told counts the letters alone
effect_counts : {Q : Type 0} (ls ms : List (LetterState Q)) (e : Effect Q) (o : Option (LetterState Q)) → length ls ≡ length ms → effect_in ls e o ≡ effect_in ms e o
effect_counts ls ms e None same = refl
effect_counts ls ms e (Some l) same = ap (λ n. Rattle.rambo_node.specs.declared.effect.Effect.TheVariants.Sent (n + 1)) same

pub done_counts : {Q : Type 0} (ls ms : List (LetterState Q)) (m : Made Q) → length ls ≡ length ms → done ls m ≡ done ms m
done_counts ls ms m same = λ i. record { effect = effect_counts ls ms m.deed.effect m.letter same i; event = m.deed.event; mark = m.deed.mark; letter = m.letter }

-- where the addressee holds more, a letter stands as it stood
pub short_longer : {Q : Type 0} (l whole : LetterState Q) (held more : Copies) → joined more held ≡ more → IsShort l whole held → IsShort l whole more
short_longer l whole held more grows short = record {
  rest = short.rest;
  part = short.part;
  held_anyway = λ key v e f.
      let above : is_below (map.get more key) (map.get held key) ≡ false =
      subst (λ o. is_below o (map.get held key) ≡ false) (sym (get-joined more held key) ∙ ap (λ r. map.get r key) grows) (greater-right (map.get more key) (map.get held key)) in
      is_newer-is_below (map.get more key) v ∙ not_below-trans (map.get more key) (map.get held key) (Some v) above (sym (is_newer-is_below (map.get held key) v) ∙ short.held_anyway key v e f);
}

-- a letter that goes out stands for the whole one that is sent, or there is neither
abbrev pub GoesFor : {Q : Type 0} → WorldState Q → Option (LetterState Q) → Option (LetterState Q) → Type 0
GoesFor w None None = Unit {0}
GoesFor w None (Some whole) = ⊥
GoesFor w (Some l) None = ⊥
GoesFor w (Some l) (Some whole) = StandsFor w l whole

-- the letter that a change sends is the node's
its_letter : {Q : Type 0} (x : NodeState Q) (c : Act Q) (whole : LetterState Q) → (made_by x c).letter ≡ Some whole → whole ≡ letter_for x whole.addressee
unfolding made_by
its_letter x (act.Send to) whole e =
    let is : letter_for x to ≡ whole = some_inj (letter_for x to) whole e in
    sym is ∙ ap (λ (l : LetterState _). letter_for x l.addressee) is
its_letter x c whole e = absurd (none-some whole (sym (unsent x c refl) ∙ e))

module _ {Q : Type 0} (s : QuorumSystem Q) (f : Q) (xs ys : List (Step Q)) (p : IsPrefix xs ys) where
  -- what a node tells another that may be new to it stands for all that it has, then and later
  module _ (n : ℕ) (named : IsName n) (v : RoomyNode Q) (same : full_at s f xs n ≡ full v) where
    short_stands : (j : ℕ) (copies : Copies) → IsName j → IsDelta (full v) j copies → IsShort (delta_letter (full v) j copies) (letter_for v.state j) (held_by (run s f ys) j)
    short_stands j copies to since =
        let later : IsDelta (full_at s f xs n) j copies → IsShort (delta_letter (full_at s f xs n) j copies) (letter_for (full_at s f xs n).state j) (held_by (run s f ys) j) = later_too s f xs ys n j copies p named to in
        subst (λ (v : FullNode Q). IsDelta v j copies → IsShort (delta_letter v j copies) (letter_for v.state j) (held_by (run s f ys) j)) same later since

    goes_for : (o whole : Option (LetterState Q)) → ((l : LetterState Q) → whole ≡ Some l → l ≡ letter_for v.state l.addressee) → SendsFor v o whole → GoesFor (run s f ys) o whole
    goes_for None None own sends = _
    goes_for None (Some whole) own sends = sends
    goes_for (Some l) None own sends = sends
    goes_for (Some l) (Some whole) own sends =
        let j : ℕ = whole.addressee in
        let copies : Copies = sends.1.0 in
        subst (λ l. IsShort l whole (held_by (run s f ys) j)) (sym sends.1.2)
        (subst (λ whole. IsShort (delta_letter (full v) j copies) whole (held_by (run s f ys) j)) (sym (own whole refl)) (short_stands j copies sends.0 sends.1.1))

    pub letter_goes : (c : Act Q) (o : Option (LetterState Q)) → SendsFor v o (made_by v.state c).letter → GoesFor (run s f ys) o (made_by v.state c).letter
    letter_goes c o = goes_for o (made_by v.state c).letter (its_letter v.state c)

  pub stands_longer : (l whole : LetterState Q) → StandsFor (run s f xs) l whole → StandsFor (run s f ys) l whole
  stands_longer l whole short = short_longer l whole (held_by (run s f xs) whole.addressee) (held_by (run s f ys) whole.addressee) (copies_are_kept s f xs ys p whole.addressee) short

  pub letter-left : (i : ℕ) (l : LetterState Q) → letter_at (run s f xs).letters i ≡ Some l → letter_at (run s f ys).letters i ≡ Some l
  letter-left zero l e = e
  letter-left (suc i) l e =
      let g = (run-grows s f xs ys p).letters in
      ap (λ ls. slice_get ls i) (sym g.1) ∙ get-left (run s f xs).letters g.0 i l e

  -- the letters of a tray stay letters
  pub mail_longer : (name : ℕ) (tray : List (Mail Q)) → All (IsMailOf (run s f xs) name) tray → All (IsMailOf (run s f ys) name) tray
  mail_longer name tray all = λ k d lt.
      let m = all k d lt in
      (m.0, letter-left (get_or tray k d).number m.0 m.1, stands_longer (get_or tray k d).letter m.0 m.2, m.3)

  -- and those of the book, with what is sent behind them
  pub sent_more : (letters : List (LetterState Q)) (o whole : Option (LetterState Q)) → AreSent (run s f xs) letters → (run s f ys).letters ≡ with_letter (run s f xs).letters whole → GoesFor (run s f ys) o whole
      → AreSent (run s f ys) (with_letter letters o)
  sent_more letters None None sent same goes = (
    sent.0 ∙ sym (ap length same),
    λ place l whole e h. stands_longer l whole (sent.1 place l whole e (ap (λ ls. slice_get ls place) (sym same) ∙ h)),
  )
  sent_more letters None (Some other) sent same goes = absurd goes
  sent_more letters (Some new) None sent same goes = absurd goes
  sent_more letters (Some new) (Some other) sent same goes = (
    length-append letters (new ∷ []) ∙ ap (λ n. n + 1) sent.0 ∙ sym (length-append (run s f xs).letters (other ∷ [])) ∙ sym (ap length same),
    λ place l whole e h. at_place place l whole (get_more letters new l place e) (get_more (run s f xs).letters other whole place (ap (λ ls. slice_get ls place) (sym same) ∙ h)),
  )
    where
      apart : (place : ℕ) → place ≡ length letters → (whole : LetterState Q) → slice_get (run s f xs).letters place ≡ Some whole → ⊥
      apart place at whole e = let b = Rattle.rambo_run.proofs.Lists.there_below (run s f xs).letters place whole e in omega (arith, b, at, sent.0)

      apart_too : (place : ℕ) → place ≡ length (run s f xs).letters → (l : LetterState Q) → slice_get letters place ≡ Some l → ⊥
      apart_too place at l e = let b = Rattle.rambo_run.proofs.Lists.there_below letters place l e in omega (arith, b, at, sent.0)

      at_place : (place : ℕ) (l whole : LetterState Q) → (slice_get letters place ≡ Some l) ⊎ ((place ≡ length letters) × (new ≡ l))
          → (slice_get (run s f xs).letters place ≡ Some whole) ⊎ ((place ≡ length (run s f xs).letters) × (other ≡ whole)) → StandsFor (run s f ys) l whole
      at_place place l whole (inl e) (inl h) = stands_longer l whole (sent.1 place l whole e h)
      at_place place l whole (inl e) (inr h) = absurd (apart_too place h.0 l e)
      at_place place l whole (inr e) (inl h) = absurd (apart place e.0 whole h)
      at_place place l whole (inr e) (inr h) = subst (λ l. StandsFor (run s f ys) l whole) e.1 (subst (StandsFor (run s f ys) new) h.1 goes)

-- the addressee of a letter holds its copies
abbrev pub IsHeard : {Q : Type 0} → WorldState Q → LetterState Q → Type 0
IsHeard w whole = joined (held_by w whole.addressee) (copies_in whole.kind) ≡ held_by w whole.addressee

-- so it needs none
none_in : {Q : Type 0} (k : Kind Q) (key : List ℕ) → map.get (copies_in (kind_with k map.empty)) key ≡ None
none_in kind.Join key = map.get-empty key_cmp key
none_in (kind.Gossip g) key = map.get-empty key_cmp key

stands_light : {Q : Type 0} (w : WorldState Q) (l whole : LetterState Q) → StandsFor w l whole → IsHeard w whole → StandsFor w (letter_with l map.empty) whole
stands_light w l whole short heard =
    let held = held_by w whole.addressee in
    record {
      rest = letter_twice l map.empty (copies_in whole.kind) ∙ short.rest;
      part = λ key v e. absurd (none-some v (sym (none_in l.kind key) ∙ e));
      held_anyway = λ key v e f.
          let above : is_below (map.get held key) (map.get (copies_in whole.kind) key) ≡ false =
          subst (λ o. is_below o (map.get (copies_in whole.kind) key) ≡ false) (sym (get-joined held (copies_in whole.kind) key) ∙ ap (λ r. map.get r key) heard) (greater-right (map.get held key) (map.get (copies_in whole.kind) key)) in
          is_newer-is_below (map.get held key) v ∙ ap (is_below (map.get held key)) (sym e) ∙ above;
    }

light_one : {Q : Type 0} (w : WorldState Q) (letters : List (LetterState Q)) (i : ℕ) (old : LetterState Q) → AreSent w letters → slice_get letters i ≡ Some old → ((whole : LetterState Q) → slice_get w.letters i ≡ Some whole → IsHeard w whole)
    → AreSent w (slice_set letters i (letter_with old map.empty))
light_one {Q} w letters i old sent there heard = (
  length-set letters i (letter_with old map.empty) ∙ sent.0,
  λ place l whole e h. elim (cases_eq place i) [
    | inl same ↦ (
        let is : letter_with old map.empty ≡ l = some_inj _ l (sym (set_here letters i old (letter_with old map.empty) there) ∙ ap (slice_get (slice_set letters i (letter_with old map.empty))) (sym same) ∙ e) in
        let at : slice_get w.letters i ≡ Some whole = ap (slice_get w.letters) (sym same) ∙ h in
        subst (λ l. StandsFor w l whole) is (stands_light w old whole (sent.1 i old whole there at) (heard whole at)))
    | inr other ↦ sent.1 place l whole (sym (set_there letters i place (letter_with old map.empty) other) ∙ e) h
  ],
)

light_at : {Q : Type 0} (w : WorldState Q) (letters : List (LetterState Q)) (n : ℕ) (o : Option (LetterState Q)) → letter_at letters n ≡ o → AreSent w letters → ((whole : LetterState Q) → letter_at w.letters n ≡ Some whole → IsHeard w whole)
    → AreSent w (lightened_at letters n o)
light_at w letters n None e sent heard = sent
light_at w letters zero (Some l) e sent heard = absurd (none-some l e)
light_at w letters (suc i) (Some l) e sent heard =
    let same : i ≡ suc i - 1 = omega arith in
    subst (λ k. AreSent w (slice_set letters k (letter_with l map.empty))) same (light_one w letters i l sent e heard)

-- the letter of a number that was heard leaves out its copies
pub light_sent : {Q : Type 0} (w : WorldState Q) (letters : List (LetterState Q)) (o : Option ℕ) → AreSent w letters → ((n : ℕ) (whole : LetterState Q) → o ≡ Some n → letter_at w.letters n ≡ Some whole → IsHeard w whole)
    → AreSent w (lightened letters o)
light_sent w letters None sent heard = sent
light_sent w letters (Some n) sent heard = light_at w letters n (letter_at letters n) refl sent (λ whole e. heard n whole refl e)

light_count_at : {Q : Type 0} (letters : List (LetterState Q)) (n : ℕ) (o : Option (LetterState Q)) → length (lightened_at letters n o) ≡ length letters
light_count_at letters n None = refl
light_count_at letters n (Some l) = length-set letters (n - 1) (letter_with l map.empty)

pub light_count : {Q : Type 0} (letters : List (LetterState Q)) (o : Option ℕ) → length (lightened letters o) ≡ length letters
light_count letters None = refl
light_count letters (Some n) = light_count_at letters n (letter_at letters n)
