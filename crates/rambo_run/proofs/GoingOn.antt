-- Runs that go on: what one step more adds, and what it leaves as it was
use Rattle.std.proofs.Common.{◌≡◌, ℕ, zero, suc, ◌-◌, arith, List, [], ◌∷◌, ◌++◌, Option, None, Some, slice_get, slice_set, append_assoc, refl, sym, ap, ◌∙◌}
use Rattle.std.proofs.lemmas.List.{append-nil}
use mathlib.Core.List.{IsPrefix}
use Rattle.rambo_names.specs.declared.refusal.Refusal.{Refusal}
use Rattle.rambo_names.specs.Quorums.{QuorumSystem}
use Rattle.rambo_history.specs.declared.event.Event.{Event}
use Rattle.rambo_gossip.specs.Letters.{LetterState}
use Rattle.rambo_node.specs.Acts.{Act, Meant}
use Rattle.rambo_node.specs.Changes.{made_by}
use Rattle.rambo_node.specs.Nodes.{NodeState}
use Rattle.rambo_node.specs.Steps.{Step}
use Rattle.rambo_run.specs.Worlds.{WorldState, node_at, first_world}
use Rattle.rambo_run.specs.Steps.{meant, refusal, with_letter, with_event, turn_at, turn_of, turn}
use Rattle.rambo_run.specs.Runs.{unless_refused, after, run_from, run}
use Rattle.rambo_run.proofs.Lists.{none-some, set_there}
use Rattle.rambo_run.proofs.Runs.{run_from-more}

pub run_is : {Q : Type 0} (s : QuorumSystem Q) (founders : Q) (sts : List (Step Q)) → run s founders sts ≡ run_from s (first_world s founders) sts
unfolding run
run_is s founders sts = refl

pub run_none : {Q : Type 0} (s : QuorumSystem Q) (founders : Q) → run s founders [] ≡ first_world s founders
unfolding run run_from
run_none s founders = refl

-- a step that isn't refused
pub after-taken : {Q : Type 0} (s : QuorumSystem Q) (w : WorldState Q) (st : Step Q) → refusal s w st ≡ None → after s w st ≡ (turn w st).world
unfolding after
after-taken s w st e = λ i. unless_refused (e i) w (turn w st).world

-- and one that is
pub after-refused : {Q : Type 0} (s : QuorumSystem Q) (w : WorldState Q) (st : Step Q) (r : Refusal) → refusal s w st ≡ Some r → after s w st ≡ w
unfolding after
after-refused s w st r e = λ i. unless_refused (e i) w (turn w st).world

pub run-after : {Q : Type 0} (s : QuorumSystem Q) (founders : Q) (sts : List (Step Q)) (st : Step Q) → run s founders (sts ++ st ∷ []) ≡ after s (run s founders sts) st
run-after s founders sts st =
    run_is s founders (sts ++ st ∷ []) ∙ run_from-more s (first_world s founders) sts st ∙ ap (λ w. after s w st) (sym (run_is s founders sts))

pub run-more : {Q : Type 0} (s : QuorumSystem Q) (founders : Q) (sts : List (Step Q)) (st : Step Q) → refusal s (run s founders sts) st ≡ None → run s founders (sts ++ st ∷ []) ≡ (turn (run s founders sts) st).world
run-more s founders sts st e = run-after s founders sts st ∙ after-taken s (run s founders sts) st e

pub run_from-append : {Q : Type 0} (s : QuorumSystem Q) (w : WorldState Q) (xs ys : List (Step Q)) → run_from s w (xs ++ ys) ≡ run_from s (run_from s w xs) ys
unfolding run_from
run_from-append s w [] ys = refl
run_from-append s w (x ∷ xs) ys = run_from-append s (after s w x) xs ys

-- another node's place is another
other_stays : {Q : Type 0} (w z : WorldState Q) (k n : ℕ) (x y : NodeState Q) → (k ≡ n → ⊥) → node_at w k ≡ Some x → z.nodes ≡ slice_set w.nodes (k - 1) y → node_at z n ≡ node_at w n
other_stays w z zero n x y d h e = absurd (none-some x h)
other_stays w z (suc k) zero x y d h e = refl
other_stays w z (suc k) (suc n) x y d h e =
    let i : suc k - 1 ≡ k = omega arith in
    ap (λ l. slice_get l n) (e ∙ ap (λ i. slice_set w.nodes i y) i) ∙ set_there w.nodes k n y (λ r. d (ap suc (sym r)))

else_at : {Q : Type 0} (w : WorldState Q) (k n : ℕ) (c : Act Q) (o : Option (NodeState Q)) → (k ≡ n → ⊥) → node_at w k ≡ o → node_at (turn_at w k o c).world n ≡ node_at w n
else_at w k n c None d h = refl
else_at w k n c (Some x) d h = other_stays w (turn_at w k (Some x) c).world k n x (made_by x c).node d h refl

else_of : {Q : Type 0} (w : WorldState Q) (n : ℕ) (o : Option (Meant Q)) → ((m : Meant Q) → o ≡ Some m → m.name ≡ n → ⊥) → node_at (turn_of w o).world n ≡ node_at w n
else_of w n None d = refl
else_of w n (Some m) d = else_at w m.name n m.act (node_at w m.name) (d m refl) refl

-- a step leaves the nodes as they are that it doesn't mean
pub else_stays : {Q : Type 0} (w : WorldState Q) (st : Step Q) (n : ℕ) → ((m : Meant Q) → meant w st ≡ Some m → m.name ≡ n → ⊥) → node_at (turn w st).world n ≡ node_at w n
unfolding turn
else_stays w st n d = else_of w n (meant w st) d

pub prefix_self : {A : Type 0} (xs : List A) → IsPrefix xs xs
prefix_self xs = ([], append-nil xs)

pub prefix_trans : {A : Type 0} (xs ys zs : List A) → IsPrefix xs ys → IsPrefix ys zs → IsPrefix xs zs
prefix_trans xs ys zs p q = (p.0 ++ q.0, sym (append_assoc xs p.0 q.0) ∙ (ap (λ w. w ++ q.0) p.1 ∙ q.1))

-- letters and history of w begin those of z
pub record Grows {Q : Type 0} (w z : WorldState Q) : Type 0 where
  pub letters : IsPrefix w.letters z.letters
  pub history : IsPrefix w.history z.history

grows_self : {Q : Type 0} (w : WorldState Q) → Grows w w
grows_self w = record { letters = prefix_self w.letters; history = prefix_self w.history }

letter_grows : {Q : Type 0} (ls : List (LetterState Q)) (o : Option (LetterState Q)) → IsPrefix ls (with_letter ls o)
letter_grows ls None = prefix_self ls
letter_grows ls (Some l) = (l ∷ [], refl)

event_grows : (es : List Event) (o : Option Event) → IsPrefix es (with_event es o)
event_grows es None = prefix_self es
event_grows es (Some e) = (e ∷ [], refl)

at_grows : {Q : Type 0} (w : WorldState Q) (n : ℕ) (c : Act Q) (o : Option (NodeState Q)) → Grows w (turn_at w n o c).world
at_grows w n c None = grows_self w
at_grows w n c (Some x) = record { letters = letter_grows w.letters (made_by x c).letter; history = event_grows w.history (made_by x c).deed.event }

of_grows : {Q : Type 0} (w : WorldState Q) (o : Option (Meant Q)) → Grows w (turn_of w o).world
of_grows w None = grows_self w
of_grows w (Some m) = at_grows w m.name m.act (node_at w m.name)

pub turn-grows : {Q : Type 0} (w : WorldState Q) (st : Step Q) → Grows w (turn w st).world
unfolding turn
turn-grows w st = of_grows w (meant w st)

unless_grows : {Q : Type 0} (w z : WorldState Q) (r : Option Refusal) → Grows w z → Grows w (unless_refused r w z)
unless_grows w z None g = g
unless_grows w z (Some r) g = grows_self w

after-grows : {Q : Type 0} (s : QuorumSystem Q) (w : WorldState Q) (st : Step Q) → Grows w (after s w st)
unfolding after
after-grows s w st = unless_grows w (turn w st).world (refusal s w st) (turn-grows w st)

grows_trans : {Q : Type 0} (u w z : WorldState Q) → Grows u w → Grows w z → Grows u z
grows_trans u w z g h = record { letters = prefix_trans u.letters w.letters z.letters g.letters h.letters; history = prefix_trans u.history w.history z.history g.history h.history }

pub run_from-grows : {Q : Type 0} (s : QuorumSystem Q) (w : WorldState Q) (sts : List (Step Q)) → Grows w (run_from s w sts)
unfolding run_from
run_from-grows s w [] = grows_self w
run_from-grows s w (st ∷ sts) = grows_trans w (after s w st) (run_from s (after s w st) sts) (after-grows s w st) (run_from-grows s (after s w st) sts)
