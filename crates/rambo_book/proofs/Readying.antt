-- What is ready by a keeper's own letters is ready in a run
use Rattle.std.proofs.Common.{◌≡◌, ◌⊎◌, ℕ, zero, suc, Bool, true, false, nat_eq, eqb-true, if◌then◌else◌, List, [], ◌∷◌, slice_get, length, All, Option, None, Some, refl, sym, ap, ◌∙◌, subst, inl, inr, arith}
use Rattle.std.proofs.lemmas.Bool.{eqb-false, ne_eqb, true≢false}
use mathlib.Core.List.{IsPrefix}
use Rattle.rambo_names.specs.Quorums.{QuorumSystem}
use Rattle.rambo_names.specs.Refusals.{least}
use Rattle.rambo_gossip.specs.Letters.{LetterState}
use Rattle.rambo_gossip.specs.Short.{copies_in, IsShort}
use Rattle.rambo_tag.specs.Copies.{joined}
use Rattle.rambo_tag.proofs.StampLaws.{stamped_alike}
use Rattle.rambo_node.specs.Acts.{Act, Meant, delivery, meant_by}
use Rattle.rambo_node.specs.declared.prepared.Hearing.{Hearing}
use Rattle.rambo_node.specs.Changes.{Made, made_by, refusal_of}
use Rattle.rambo_node.specs.FullNodes.{FullNode}
use Rattle.rambo_node.specs.Nodes.{NodeState, RoomyNode}
use Rattle.rambo_node.specs.Prepared.{IsHearing, IsReadyKind}
use Rattle.rambo_node.proofs.Readiness.{ready_apart}
use Rattle.rambo_node.specs.Acts as act
use Rattle.rambo_node.specs.Steps.{Step}
use Rattle.rambo_node.specs.declared.step.StepOf.TheVariants as step
use Rattle.rambo_run.specs.Worlds.{WorldState, node_at, letter_at}
use Rattle.rambo_run.specs.Steps.{meant, meant_in, causes_at, causes_of, refusal, letter_in}
use Rattle.rambo_run.specs.Runs.{run}
use Rattle.rambo_run.specs.Legal.{IsLegal}
use Rattle.rambo_run.specs.Actors.{actor}
use Rattle.rambo_run.proofs.Lists.{none-some, some_inj}
use Rattle.rambo_roll.specs.Rolls.{Idle}
use Rattle.rambo_node.specs.declared.half.Half.{Half}
use Rattle.rambo_node.specs.declared.half.Half.TheVariants as half
use Rattle.rambo_mail.specs.declared.mail.Mail.{Mail}
use Rattle.rambo_node.specs.Halves.{IsHalf, IsReadyDelivery, IsReadyStep, SendsFor, judged, letter_of, outline_of}
use Rattle.rambo_book.specs.declared.readied.Ready.{Ready}
use Rattle.rambo_book.specs.Kept.{KeeperView, IsKeeper, IsMailOf, IsServedBy}
use Rattle.rambo_book.specs.Readying.{IsIn, mail_in, came_in, roomy, IsReadyIn, IsReadyFor}
use Rattle.rambo_book.proofs.Idle.{idle_node}
use Rattle.rambo_book.proofs.Judging.{some_meant, judge_of, refusal_is, made_joined}
use Rattle.rambo_book.proofs.Standing.{Alike, IsShortDelivery, itself, coming, made_alike, outline_alike, short_here, letter-left}

-- whether a change delivers a letter, and which
abbrev comes : {Q : Type 0} → Act Q → Bool
comes (act.Hear l) = true
comes c = false

abbrev letter_coming : {Q : Type 0} → LetterState Q → Act Q → LetterState Q
letter_coming none (act.Hear l) = l
letter_coming none c = none

module _ {Q : Type 0} (s : QuorumSystem Q) (v : RoomyNode Q) where
  -- what may be heard of a letter may be heard of the one for which it stands
  hearing_as : (l whole : LetterState Q) (h : Hearing) → IsShort l whole v.state.registers → IsHearing v l h → IsHearing v whole h
  hearing_as l whole h short e =
      let alike : joined v.state.registers h.copies ≡ joined v.state.registers (copies_in whole.kind) =
      e.alike ∙ sym (made_joined v.state l) ∙ ap (λ (m : Made Q). m.node.registers) (made_alike s v.state l whole short) ∙ made_joined v.state whole in
      record {
        ready = subst (λ (n : LetterState Q). IsReadyKind v n.kind h.copies h.number) short.rest (ready_apart v l.kind (copies_in whole.kind) h.copies h.number e.ready);
        alike = alike;
        stamped = stamped_alike v.state.registers h.copies (copies_in whole.kind) alike;
      }

  module _ (o : Option (LetterState Q)) (c d : Act Q) (short : IsShortDelivery v.state c d) where
    delivery_as : (h : Hearing) → IsReadyDelivery v o c h → IsReadyDelivery v o d h
    delivery_as h e =
        let same : short.letter ≡ e.letter = ap (letter_coming short.letter) (sym short.delivers ∙ e.delivers) in
        let stands : IsShort e.letter short.whole v.state.registers = subst (λ l. IsShort l short.whole v.state.registers) same short.short in
        record {
          letter = short.whole;
          delivers = short.delivered;
          told = e.told ∙ ap Some (outline_alike e.letter short.whole v.state.registers stands);
          hearing = hearing_as e.letter short.whole h stands e.hearing;
        }

    made_as : made_by v.state c ≡ made_by v.state d
    made_as = ap (made_by v.state) short.delivers ∙ made_alike s v.state short.letter short.whole short.short ∙ sym (ap (made_by v.state) short.delivered)

    half_as : (h : Half Q) → IsHalf s v o c h → IsHalf s v o d h
    half_as (half.Send l) e = absurd (true≢false (sym (ap comes short.delivers) ∙ ap comes e.1))
    half_as (half.Hear h) e = delivery_as h e
    half_as (half.Call g) e = absurd (true≢false (sym (ap comes short.delivers) ∙ ap comes e.calls))
    half_as (half.Advance g) e = absurd (true≢false (sym (ap comes short.delivers) ∙ ap comes e.advances))
    half_as (half.Quiet q) e = absurd (true≢false (sym (ap comes short.delivers) ∙ ap comes e))

  -- of two changes that come to the same both are ready
  ready_as : (o : Option (LetterState Q)) (c d : Act Q) (h : Half Q) → refusal_of s v.state d ≡ None → (c ≡ d) ⊎ IsShortDelivery v.state c d → IsReadyStep s v o c h → IsReadyStep s v o d h
  ready_as o c d h ok (inl same) e = subst (λ c. IsReadyStep s v o c h) same e
  ready_as o c d h ok (inr short) e =
      let made = made_as o c d short in
      record {
        accepted = ok;
        half = half_as o c d short h e.half;
        event = e.event ∙ ap (λ (m : Made Q). m.deed.event) made;
        mark = e.mark ∙ ap (λ (m : Made Q). m.deed.mark) made;
        letter = subst (SendsFor v (letter_of h)) (ap (λ (m : Made Q). m.letter) made) e.letter;
      }

-- so what is ready as it is seen is ready in a world, where it comes to what the step means there
pub ready_alike : {Q : Type 0} (s : QuorumSystem Q) (w : WorldState Q) (st : Step Q) (k : KeeperView Q) (p : Option (Meant Q)) (came : Option (LetterState Q)) (half : Half Q) → Alike s k.node p (meant w st)
    → outline_of came ≡ outline_of (letter_in w.letters st) → IsServedBy w st k.name → refusal s w st ≡ None → judged s k.node p ≡ None → ((m : Meant Q) → p ≡ Some m → IsReadyStep s (roomy k) (outline_of came) m.act half)
    → IsReadyIn s w k (record { step = st; half = half; letter = came; asks = false })
ready_alike s w st k p came half same outline served accepted none ready =
    let kept = some_meant s k.node p none in
    let found = some_meant s k.node (meant w st) (sym same.judges ∙ none) in
    let own : found.0.name ≡ k.name = served found.0 found.1 in
    let ok : judged s k.node (Some found.0) ≡ None = ap (judged s k.node) (sym found.1) ∙ sym same.judges ∙ none in
    record {
      act = found.0.act;
      means = found.1 ∙ (λ i. Some (record { name = own i; act = found.0.act }));
      accepted = accepted;
      ready = subst (λ o. IsReadyStep s (roomy k) o found.0.act half) outline (ready_as s (roomy k) (outline_of came) kept.0.act found.0.act half ok (same.changes kept.0 found.0 kept.1 found.1) (ready kept.0 kept.1));
      brings = outline;
    }

pub mail_later : {Q : Type 0} (rest : List (Mail Q)) (m : Mail Q) (others : List (Mail Q)) (n : ℕ) → rest ≡ m ∷ others → (m.number ≡ n → ⊥) → mail_in rest n ≡ mail_in others n
mail_later rest m others n e is = ap (λ ms. mail_in ms n) e ∙ ap (λ b. if b then Some m.letter else mail_in others n) (ne_eqb m.number n is)

pub mail_none : {Q : Type 0} (rest : List (Mail Q)) (n : ℕ) → length rest ≡ 0 → mail_in rest n ≡ None
mail_none [] n e = refl
mail_none (m ∷ ms) n e = absurd (omega (arith, e))

record Found {Q : Type 0} (w : WorldState Q) (name : ℕ) (tray : List (Mail Q)) (n : ℕ) : Type 0 where
  pub letter : LetterState Q
  pub asks : Bool
  pub there : mail_in tray n ≡ Some letter
  pub sent : IsMailOf w name (record { number = n; asks = asks; letter = letter })

found_here : {Q : Type 0} (w : WorldState Q) (name : ℕ) (x : Mail Q) (n : ℕ) → IsMailOf w name x → x.number ≡ n → IsMailOf w name (record { number = n; asks = x.asks; letter = x.letter })
found_here w name x n of e = subst (λ n. IsMailOf w name (record { number = n; asks = x.asks; letter = x.letter })) e of

found_later : {Q : Type 0} (x m : Mail Q) (xs : List (Mail Q)) (n place : ℕ) → nat_eq x.number n ≡ false → slice_get (x ∷ xs) place ≡ Some m → m.number ≡ n → IsIn xs n
found_later x m xs n zero other at is = absurd (eqb-false x.number n other (ap (λ (m : Mail _). m.number) (some_inj x m at) ∙ is))
found_later x m xs n (suc place) other at is = (place, m, at, is)

found_by : {Q : Type 0} (w : WorldState Q) (name : ℕ) (x : Mail Q) (xs : List (Mail Q)) (n : ℕ) (b : Bool) → nat_eq x.number n ≡ b → IsMailOf w name x → (nat_eq x.number n ≡ false → Found w name xs n) → Found w name (x ∷ xs) n
found_by w name x xs n true e of later = record { letter = x.letter; asks = x.asks; there = ap (λ b. if b then Some x.letter else mail_in xs n) e; sent = found_here w name x n of (eqb-true x.number n e) }
found_by w name x xs n false e of later =
    let rest = later e in
    record { letter = rest.letter; asks = rest.asks; there = ap (λ b. if b then Some x.letter else mail_in xs n) e ∙ rest.there; sent = rest.sent }

find_in : {Q : Type 0} (w : WorldState Q) (name : ℕ) (tray : List (Mail Q)) (n : ℕ) → ((place : ℕ) (m : Mail Q) → slice_get tray place ≡ Some m → IsMailOf w name m) → IsIn tray n → Found w name tray n
find_in w name [] n all h = absurd (none-some h.1 h.2)
find_in w name (x ∷ xs) n all h = found_by w name x xs n (nat_eq x.number n) refl (all 0 x refl) (λ e. find_in w name xs n (λ place. all (suc place)) (found_later x h.1 xs n h.0 e h.2 h.3))

all_at : {A : Type 0} (P : A → Type 0) (xs : List A) → All P xs → (place : ℕ) (a : A) → slice_get xs place ≡ Some a → P a
all_at P [] all place a e = absurd (none-some a e)
all_at P (x ∷ xs) all zero a e = subst P (some_inj x a e) (all 0 a (omega arith))
all_at P (x ∷ xs) all (suc place) a e = all_at P xs (λ k d lt. all (suc k) d (omega (arith, lt))) place a e

-- a step of the keeper's node means there what it means by the tray
pub tray_alike : {Q : Type 0} (s : QuorumSystem Q) (w : WorldState Q) (name : ℕ) (x : NodeState Q) (tray : List (Mail Q)) → node_at w name ≡ Some x → All (IsMailOf w name) tray → (st : Step Q)
    → ((m : Meant Q) → meant_in [] st ≡ Some m → m.name ≡ name) → ((n : ℕ) → st ≡ step.Deliver n → IsIn tray n)
    → IsServedBy w st name × Alike s x (meant_by (came_in tray st) st) (meant w st)
tray_alike s w name x tray here all (step.Deliver n) own there =
    let t = find_in w name tray n (all_at (IsMailOf w name) tray all) (there n refl) in
    let l = t.letter in
    let whole = t.sent.0 in
    let at = t.sent.1 in
    let to = t.sent.3 in (
      λ m e. ap (λ (m : Meant _). m.name) (some_inj m _ (sym e ∙ ap delivery at)) ∙ to,
      subst (λ o. Alike s x (delivery o) (delivery (letter_at w.letters n))) (sym t.there)
          (subst (λ o. Alike s x (delivery (Some l)) (delivery o)) (sym at) (coming s x l whole (short_here w name x here l whole t.sent.2 to))),
    )
tray_alike s w name x tray here all _ own there = (own, itself s x _)

-- and the letter that it lets come tells there what that of the tray does, besides copies
tray_outline : {Q : Type 0} (w : WorldState Q) (name : ℕ) (tray : List (Mail Q)) → All (IsMailOf w name) tray → (st : Step Q) → ((n : ℕ) → st ≡ step.Deliver n → IsIn tray n)
    → outline_of (came_in tray st) ≡ outline_of (letter_in w.letters st)
tray_outline w name tray all (step.Deliver n) there =
    let t = find_in w name tray n (all_at (IsMailOf w name) tray all) (there n refl) in
    ap outline_of t.there ∙ ap Some (outline_alike t.letter t.sent.0 _ t.sent.2) ∙ sym (ap outline_of t.sent.1)
tray_outline w name tray all _ there = refl

-- so the tray's judgement is the run's
pub tray_verdict : {Q : Type 0} (s : QuorumSystem Q) (w : WorldState Q) (name : ℕ) (x : NodeState Q) (tray : List (Mail Q)) → node_at w name ≡ Some x → All (IsMailOf w name) tray → (st : Step Q)
    → ((m : Meant Q) → meant_in [] st ≡ Some m → m.name ≡ name) → ((n : ℕ) → st ≡ step.Deliver n → IsIn tray n)
    → refusal s w st ≡ judged s x (meant_by (came_in tray st) st)
tray_verdict s w name x tray here all st own there =
    let t = tray_alike s w name x tray here all st own there in
    refusal_is s w st ∙ judge_of s w x name (meant w st) here t.0 ∙ sym t.1.judges

-- a step means what it does by the letter that it lets come
meant_is : {Q : Type 0} (w : WorldState Q) (st : Step Q) → meant w st ≡ meant_by (letter_in w.letters st) st
meant_is w (step.Deliver n) = refl
meant_is w _ = refl

-- what is ready in the run of what a keeper has seen is so in a longer one, where nothing more is its own
module _ {Q : Type 0} (s : QuorumSystem Q) (f : Q) (xs ys : List (Step Q)) (p : IsPrefix xs ys) where
  letter_longer : (n : ℕ) (m : Meant Q) (o : Option (LetterState Q)) → letter_at (run s f xs).letters n ≡ o → delivery (letter_at (run s f xs).letters n) ≡ Some m
      → letter_at (run s f xs).letters n ≡ letter_at (run s f ys).letters n
  letter_longer n m None at e = absurd (none-some m (sym (ap delivery at) ∙ e))
  letter_longer n m (Some l) at e = at ∙ sym (letter-left s f xs ys p n l at)

  letters_longer : (st : Step Q) (m : Meant Q) → meant (run s f xs) st ≡ Some m → letter_in (run s f xs).letters st ≡ letter_in (run s f ys).letters st
  letters_longer (step.Deliver n) m e = letter_longer n m (letter_at (run s f xs).letters n) refl e
  letters_longer _ m e = refl

  means_longer : (st : Step Q) (m : Meant Q) → meant (run s f xs) st ≡ Some m → meant (run s f ys) st ≡ Some m
  means_longer st m e = meant_is (run s f ys) st ∙ ap (λ o. meant_by o st) (sym (letters_longer st m e)) ∙ sym (meant_is (run s f xs) st) ∙ e

pub ready_longer : {Q : Type 0} (s : QuorumSystem Q) (f : Q) (steps : List (Step Q)) (k : KeeperView Q) (r : Ready Q) → IsLegal s f steps → Idle actor k.name k.seen steps → IsReadyIn s (run s f k.seen) k r → IsReadyIn s (run s f steps) k r
ready_longer s f steps k r legal idle h =
    let p : IsPrefix k.seen steps = (idle.0, idle.1) in
    let m : Meant _ = record { name = k.name; act = h.act } in
    let there = means_longer s f k.seen steps p r.step m h.means in
    let same : refusal s (run s f steps) r.step ≡ refusal s (run s f k.seen) r.step =
    refusal_is s (run s f steps) r.step
    ∙ ap (λ o. least (causes_of s (run s f steps) o)) there
    ∙ ap (λ o. least (causes_at s o h.act)) (idle_node s f k.name k.seen steps legal idle)
    ∙ sym (ap (λ o. least (causes_of s (run s f k.seen) o)) h.means)
    ∙ sym (refusal_is s (run s f k.seen) r.step) in
    record {
      act = h.act;
      means = there;
      accepted = same ∙ h.accepted;
      ready = subst (λ o. IsReadyStep s (roomy k) (outline_of o) h.act r.half) (letters_longer s f k.seen steps p r.step m h.means) h.ready;
      brings = h.brings ∙ ap outline_of (letters_longer s f k.seen steps p r.step m h.means);
    }

-- a keeper whose node has more room
pub keeper_roomy : {Q : Type 0} {s : QuorumSystem Q} {agreed : Option Q} {most holds held name : ℕ} {node x : FullNode Q} {tray : List (Mail Q)} {seen looked : List (Step Q)}
    → IsKeeper s agreed most holds name node tray seen → held ≡ holds → looked ≡ seen → x ≡ node → IsKeeper s agreed most held name x tray looked
keeper_roomy {s = s} {agreed = agreed} {most = most} {held = held} {name = name} {node = node} {x = x} {tray = tray} {seen = seen} k h l e =
    subst (λ looked. IsKeeper s agreed most held name x tray looked) (sym l)
    (subst (λ x. IsKeeper s agreed most held name x tray seen) (sym e)
    (subst (λ held. IsKeeper s agreed most held name node tray seen) (sym h) k))

-- what a keeper makes ready by its tray is ready
module _ {Q : Type 0} {s : QuorumSystem Q} {agreed : Option Q} {most holds name : ℕ} {node : FullNode Q} {tray : List (Mail Q)} {seen : List (Step Q)} (k : IsKeeper s agreed most holds name node tray seen) (st : Step Q)
    (own : (f : Q) → agreed ≡ Some f → (m : Meant Q) → meant_in [] st ≡ Some m → m.name ≡ name) (there : (n : ℕ) → st ≡ step.Deliver n → IsIn tray n) where
  pub tray_judged : (o : Option (LetterState Q)) → o ≡ came_in tray st → (f : Q) → agreed ≡ Some f → refusal s (run s f seen) st ≡ judged s node.state (meant_by o st)
  tray_judged o is f e = tray_verdict s (run s f seen) name node.state tray (k.replays f e) (k.mail f e) st (own f e) there ∙ ap (λ o. judged s node.state (meant_by o st)) (sym is)

  pub tray_ready : (o : Option (LetterState Q)) → o ≡ came_in tray st → (half : Half Q) (v : RoomyNode Q) → v.state ≡ node.state → judged s node.state (meant_by o st) ≡ None
      → ((m : Meant Q) → meant_by o st ≡ Some m → IsReadyStep s v (outline_of o) m.act half)
      → IsReadyFor s agreed (record { name = name; node = v.state; room = v.room; beside = v.beside; tray = tray; seen = seen }) (record { step = st; half = half; letter = o; asks = false })
  tray_ready o is half v same none ready = λ f e.
      let w = run s f seen in
      let x = v.state in
      let t = tray_alike s w name node.state tray (k.replays f e) (k.mail f e) st (own f e) there in
      let alike : Alike s x (meant_by o st) (meant w st) = subst (λ x. Alike s x (meant_by o st) (meant w st)) (sym same) (subst (λ o. Alike s node.state (meant_by o st) (meant w st)) (sym is) t.1) in
      let ok : judged s x (meant_by o st) ≡ None = ap (λ x. judged s x (meant_by o st)) same ∙ none in
      ready_alike s w st (record { name = name; node = x; room = v.room; beside = v.beside; tray = tray; seen = seen }) (meant_by o st) o half alike (ap outline_of is ∙ tray_outline w name tray (k.mail f e) st there) t.0 (tray_judged o is f e ∙ none) ok ready
