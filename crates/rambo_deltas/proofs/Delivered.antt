-- Where the letters of a journal come from
use Rattle.std.proofs.Common.{◌≡◌, ℕ, ◌<◌, ◌≤◌, List, length, Option, Some, None, refl, sym, ap, ◌∙◌, subst, arith}
use Rattle.rambo_names.specs.Quorums.{QuorumSystem}
use Rattle.rambo_gossip.specs.Letters.{LetterState}
use Rattle.rambo_node.specs.Acts.{Act, delivery}
use Rattle.rambo_node.specs.Letters.{letter_for}
use Rattle.rambo_node.specs.Nodes.{NodeState}
use Rattle.rambo_node.specs.Acts as act
use Rattle.rambo_node.specs.Steps.{Step}
use Rattle.rambo_node.specs.declared.step.StepOf.TheVariants as step
use Rattle.rambo_run.specs.Worlds.{WorldState, letter_at, first_world}
use Rattle.rambo_run.specs.Steps.{meant}
use Rattle.rambo_run.specs.Runs.{run}
use Rattle.rambo_run.specs.Journals.{journal}
use Rattle.rambo_run.proofs.Lists.{Member, some_inj, none-some}
use Rattle.rambo_run.proofs.CollectionClaims.{then}
use Rattle.rambo_run.proofs.Moments as moments
use Rattle.rambo_run.proofs.Worlds.{sound}
use Rattle.rambo_deltas.proofs.Journaled.{of_node, made_at}

-- the letter that a change brings
letter_of : {Q : Type 0} → Act Q → Option (LetterState Q)
letter_of (act.Hear l) = Some l
letter_of _ = None

-- it was sent to node n
unfoldable WasSent : {Q : Type 0} → WorldState Q → ℕ → LetterState Q → Type 0
WasSent w n l = (i : ℕ) × (letter_at w.letters i ≡ Some l) × (l.addressee ≡ n)

none_brought : {Q : Type 0} (w : WorldState Q) (k n : ℕ) (c : Act Q) (l : LetterState Q) → letter_of c ≡ None → of_node k c ≡ of_node n (act.Hear l) → WasSent w n l
unfolding letter_of
none_brought w k n c l none e = absurd (none-some l (sym none ∙ ap (λ m. letter_of m.act) (some_inj _ _ e)))

delivered_letter : {Q : Type 0} (w : WorldState Q) (i n : ℕ) (l : LetterState Q) (o : Option (LetterState Q)) → letter_at w.letters i ≡ o → delivery o ≡ of_node n (act.Hear l) → WasSent w n l
unfolding WasSent letter_of
delivered_letter w i n l None e d = absurd (none-some _ d)
delivered_letter w i n l (Some k) e d =
    let m = some_inj _ _ d in
    let same : k ≡ l = some_inj k l (ap (λ m. letter_of m.act) m) in
    (i, e ∙ ap Some same, ap (λ k. k.addressee) (sym same) ∙ ap (λ m. m.name) m)

was_sent : {Q : Type 0} (w : WorldState Q) (st : Step Q) (n : ℕ) (l : LetterState Q) → meant w st ≡ of_node n (act.Hear l) → WasSent w n l
unfolding letter_of
was_sent w (step.Deliver i) n l e = delivered_letter w i n l (letter_at w.letters i) refl e
was_sent w st n l e = none_brought w _ n _ l refl e

-- who told a letter, and to whom
teller : {Q : Type 0} (x : NodeState Q) (k to : ℕ) (l : LetterState Q) → x.name ≡ k → letter_for x to ≡ l → k ≡ l.sender
teller x k to l named content = sym named ∙ ap (λ l. l.sender) content

told_to : {Q : Type 0} (x : NodeState Q) (to n : ℕ) (l : LetterState Q) → l.addressee ≡ n → letter_for x to ≡ l → to ≡ n
told_to x to n l addressed content = ap (λ l. l.addressee) content ∙ addressed

-- a letter that came to node n is what its sender told it at an earlier moment
pub record Delivered {Q : Type 0} (s : QuorumSystem Q) (founders : Q) (steps : List (Step Q)) (n : ℕ) (l : LetterState Q) : Type 0 where
  pub moment : ℕ
  pub before : moment < length steps
  pub there : 1 ≤ l.sender
  pub content : letter_for (then s founders steps moment l.sender) n ≡ l

pub delivered : {Q : Type 0} (s : QuorumSystem Q) (founders : Q) (steps : List (Step Q)) (n : ℕ) (l : LetterState Q) → Member (act.Hear l) (journal s founders n steps) → Delivered s founders steps n l
unfolding journal run WasSent
delivered s founders steps n l i =
    let f = made_at s n steps (first_world s founders) (act.Hear l) i in
    let g = was_sent (moments.moment s founders steps f.moment) f.step n l f.means in
    let t = (sound s founders (moments.moment s founders steps) (moments.worlds s founders steps) f.moment).letters g.0 l g.1 in
    let sender : t.sender ≡ l.sender = teller (then s founders steps t.moment t.sender) t.sender t.addressee l t.sent.named t.content in
    let addressee : t.addressee ≡ n = told_to (then s founders steps t.moment t.sender) t.addressee n l g.2 t.content in
    record {
      moment = t.moment;
      before = omega (arith, t.before, f.within);
      there = subst (λ k. 1 ≤ k) sender t.sent.there;
      content = subst (λ n. letter_for (then s founders steps t.moment l.sender) n ≡ l) addressee
          (subst (λ k. letter_for (then s founders steps t.moment k) t.addressee ≡ l) sender t.content);
    }
