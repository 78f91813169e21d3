-- The book and the keepers before any step, and whom a step is for
use Rattle.std.proofs.Common.{◌≡◌, ℕ, zero, suc, List, [], length, Option, None, Some, All, slice_get, refl, sym, ap, ◌∙◌, subst, arith}
use Rattle.rambo_names.specs.Names.{IsName}
use Rattle.rambo_names.specs.Quorums.{QuorumSystem}
use Rattle.rambo_history.specs.declared.event.Event.{Event}
use Rattle.rambo_gossip.specs.Letters.{LetterState}
use Rattle.rambo_node.specs.FullNodes.{FullNode, first_full}
use Rattle.rambo_node.specs.Nodes.{NodeState, first_node}
use Rattle.rambo_node.specs.Steps.{Step}
use Rattle.rambo_run.specs.Worlds.{WorldState, node_at, first_world}
use Rattle.rambo_node.specs.Acts.{Meant, name_in}
use Rattle.rambo_run.specs.Steps.{meant, meant_in}
use Rattle.rambo_run.specs.Journals.{journal, journal_from}
use Rattle.rambo_run.specs.Runs.{run}
use Rattle.rambo_run.proofs.FirstWorlds.{first_named}
use Rattle.rambo_run.proofs.Lists.{none-some, some_inj, there_below}
use Rattle.rambo_sequence.specs.declared.mark.Mark.{Mark}
use Rattle.rambo_deltas.specs.Deltas.{full_at}
use Rattle.rambo_mail.specs.declared.mail.Mail.{Mail}
use Rattle.rambo_run.specs.Legal.{IsLegal}
use Rattle.rambo_book.specs.Kept.{AreSent, IsMailOf, IsKeeper, IsServedBy}
use Rattle.rambo_book.proofs.Whole.{IsWhole}
use Rattle.rambo_run.proofs.GoingOn.{run_none}
use Rattle.rambo_run.proofs.Legal.{legal_none}
use Rattle.rambo_book.proofs.Standing.{same_name}

no_letters : {Q : Type 0} (s : QuorumSystem Q) (f : Q) → (first_world s f).letters ≡ []
unfolding first_world
no_letters s f = refl

no_history : {Q : Type 0} (s : QuorumSystem Q) (f : Q) → (first_world s f).history ≡ []
unfolding first_world
no_history s f = refl

no_marks : {Q : Type 0} (s : QuorumSystem Q) (f : Q) → (first_world s f).marks ≡ []
unfolding first_world
no_marks s f = refl

none_sent : {Q : Type 0} (w : WorldState Q) (letters : List (LetterState Q)) → letters ≡ [] → w.letters ≡ [] → AreSent w letters
none_sent w letters l n = (ap length l ∙ sym (ap length n), λ place a b e h. absurd (none-some a (sym (ap (λ ls. slice_get ls place) l) ∙ e)))

pub first_book : {Q : Type 0} (s : QuorumSystem Q) (agreed : Option Q) (most : ℕ) (rolled : List (Step Q)) (f : Q) (steps : List (Step Q)) (letters : List (LetterState Q)) (history : List Event) (marks : List Mark) (capacity : ℕ)
    → agreed ≡ Some f → capacity ≡ most → rolled ≡ [] → steps ≡ [] → letters ≡ [] → history ≡ [] → marks ≡ [] → IsWhole s agreed most rolled f steps letters history marks capacity
first_book s agreed most rolled f steps letters history marks capacity founded terms r e l h m = record {
  founded = founded;
  terms = terms;
  all = r ∙ sym e;
  fits = omega (arith, ap length e);
  legal = subst (IsLegal s f) (sym e) (legal_none s f);
  sent = subst (λ steps. AreSent (run s f steps) letters) (sym e) (subst (λ w. AreSent w letters) (sym (run_none s f)) (none_sent (first_world s f) letters l (no_letters s f)));
  told = h ∙ sym (no_history s f) ∙ sym (ap (λ (w : WorldState _). w.history) (run_none s f)) ∙ ap (λ steps. (run s f steps).history) (sym e);
  marked = m ∙ sym (no_marks s f) ∙ sym (ap (λ (w : WorldState _). w.marks) (run_none s f)) ∙ ap (λ steps. (run s f steps).marks) (sym e);
}

none_full : {Q : Type 0} (s : QuorumSystem Q) (f : Q) (n : ℕ) → full_at s f [] n ≡ first_full s f n
unfolding full_at journal journal_from
none_full s f n = refl

pub first_keeper : {Q : Type 0} (s : QuorumSystem Q) (agreed : Option Q) (most : ℕ) (f : Q) (holds name : ℕ) (node : FullNode Q) (tray : List (Mail Q)) (seen : List (Step Q))
    → agreed ≡ Some f → IsName name → holds ≡ name → node ≡ first_full s f name → tray ≡ [] → seen ≡ [] → IsKeeper s agreed most holds name node tray seen
first_keeper s agreed most f holds name node tray seen founded is same first empty none = record {
  named = same;
  legal = λ g e. subst (IsLegal s g) (sym none) (legal_none s g);
  fits = omega (arith, ap length none);
  replays = λ g e.
      let fg = some_inj f g (sym founded ∙ e) in
      ap (λ l. node_at (run s g l) name) none ∙ ap (λ w. node_at w name) (run_none s g) ∙ first_named s g name is ∙ ap Some (ap (λ g. first_node s g name) (sym fg) ∙ sym (ap (λ (v : FullNode _). v.state) first));
  full = λ g e. ap (λ l. full_at s g l name) none ∙ none_full s g name ∙ ap (λ g. first_full s g name) (some_inj g f (sym e ∙ founded)) ∙ sym first;
  mail = λ g e. subst (All (IsMailOf (run s g seen) name)) (sym empty) (λ k d lt. absurd (omega (arith, lt)));
}

pub serving : {Q : Type 0} (w : WorldState Q) (ls : List (LetterState Q)) (st : Step Q) (own name : ℕ) → AreSent w ls → Some own ≡ name_in (meant_in ls st) → own ≡ name → IsServedBy w st name
serving w ls st own name sent is same m e = some_inj m.name name (sym (ap Some (sym same) ∙ is ∙ same_name w ls st sent ∙ ap name_in e))

pub unserved : {Q : Type 0} (w : WorldState Q) (ls : List (LetterState Q)) (st : Step Q) (name : ℕ) → AreSent w ls → None ≡ name_in (meant_in ls st) → IsServedBy w st name
unserved w ls st name sent is m e = absurd (none-some m.name (is ∙ same_name w ls st sent ∙ ap name_in e))

-- what has a name means it
means_one : {Q : Type 0} (o : Option (Meant Q)) (n : ℕ) → Some n ≡ name_in o → (m : Meant Q) × ((o ≡ Some m) × (m.name ≡ n))
means_one None n e = absurd (none-some n (sym e))
means_one (Some m) n e = (m, (refl, some_inj m.name n (sym e)))

-- and the other way round, the name that serves it is that of the node which the letters tell
pub served_own : {Q : Type 0} (w : WorldState Q) (ls : List (LetterState Q)) (st : Step Q) (own name : ℕ) → AreSent w ls → Some own ≡ name_in (meant_in ls st) → IsServedBy w st name → own ≡ name
served_own w ls st own name sent is served =
    let one = means_one (meant w st) own (is ∙ same_name w ls st sent) in
    sym one.1.1 ∙ served one.0 one.1.0

-- a step without a name means none
pub unnamed : {Q : Type 0} (w : WorldState Q) (ls : List (LetterState Q)) (st : Step Q) (m : Meant Q) → AreSent w ls → None ≡ name_in (meant_in ls st) → meant w st ≡ Some m → ⊥
unnamed w ls st m sent is e = none-some m.name (is ∙ same_name w ls st sent ∙ ap name_in e)

-- a step that means none has no name
pub none_named : {Q A : Type 0} (w : WorldState Q) (ls : List (LetterState Q)) (st : Step Q) (own : ℕ) → AreSent w ls → Some own ≡ name_in (meant_in ls st) → meant w st ≡ None → A
none_named w ls st own sent is none = absurd (none-some own (sym (is ∙ same_name w ls st sent ∙ ap name_in none)))

-- who has a node in a run has a name
pub is_named : {Q : Type 0} (w : WorldState Q) (n : ℕ) (x : NodeState Q) → length w.nodes ≡ 64 → node_at w n ≡ Some x → IsName n
is_named w zero x l e = absurd (none-some x e)
is_named w (suc i) x l e = (omega arith, omega (arith, l, there_below w.nodes i x e))
