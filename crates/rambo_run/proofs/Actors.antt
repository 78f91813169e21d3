-- Whose steps those of a run are of which no step is refused
use Rattle.std.proofs.Common.{◌≡◌, ℕ, zero, suc, List, [], ◌∷◌, ◌++◌, map, Option, None, Some, is_some, slice_get, append_assoc, refl, sym, ap, ◌∙◌}
use Rattle.std.proofs.lemmas.Bool.{true≢false}
use Rattle.std.proofs.lemmas.List.{append-nil}
use Rattle.rambo_names.specs.Quorums.{QuorumSystem}
use Rattle.rambo_names.specs.Refusals.{least}
use Rattle.rambo_gossip.specs.Letters.{LetterState}
use Rattle.rambo_node.specs.Letters.{letter_for}
use Rattle.rambo_node.specs.Nodes.{NodeState}
use Rattle.rambo_node.specs.Acts as act
use Rattle.rambo_node.specs.Steps.{Step}
use Rattle.rambo_node.specs.declared.step.StepOf.TheVariants as step
use Rattle.rambo_run.specs.Worlds.{WorldState, node_at, letter_at, first_world}
use Rattle.rambo_node.specs.Acts.{Meant, delivery}
use Rattle.rambo_run.specs.Steps.{meant, causes_at, causes, refusal, turn_at, turn}
use Rattle.rambo_run.specs.Runs.{after, run_from, run}
use Rattle.rambo_run.specs.Legal.{IsLegal}
use Rattle.rambo_run.specs.Actors.{sent_by, sent, or_nobody, addressee_at, actor}
use Rattle.rambo_run.proofs.Lists.{none-some, some_inj}
use Rattle.rambo_run.proofs.Steps.{letters_at, letters_delivered}
use Rattle.rambo_run.proofs.GoingOn.{after-taken}
use Rattle.rambo_run.proofs.Legal.{legal_from, legal_in_turn}

pub to : {Q : Type 0} → LetterState Q → ℕ
to l = l.addressee

map-append : {A B : Type 0} (f : A → B) (xs ys : List A) → map f (xs ++ ys) ≡ map f xs ++ map f ys
map-append f [] ys = refl
map-append f (x ∷ xs) ys = ap (λ zs. f x ∷ zs) (map-append f xs ys)

-- the letter of a number is for whom it is for
addressed : {Q : Type 0} (ls : List (LetterState Q)) (i : ℕ) (l : LetterState Q) → slice_get ls i ≡ Some l → or_nobody (slice_get (map to ls) i) ≡ l.addressee
unfolding to
addressed [] i l e = absurd (none-some l e)
addressed (x ∷ ls) zero l e = ap to (some_inj x l e)
addressed (x ∷ ls) (suc i) l e = addressed ls i l e

delivered : {Q : Type 0} (ls : List (LetterState Q)) (o : Option (LetterState Q)) (m : Meant Q) → delivery o ≡ Some m → (l : LetterState Q) × (o ≡ Some l) × (l.addressee ≡ m.name)
delivered ls None m e = absurd (none-some m e)
delivered ls (Some l) m e = (l, refl, ap (λ (m : Meant _). m.name) (some_inj _ m e))

numbered : {Q : Type 0} (ls : List (LetterState Q)) (i : ℕ) (l : LetterState Q) → letter_at ls i ≡ Some l → addressee_at (map to ls) i ≡ l.addressee
numbered ls zero l e = absurd (none-some l e)
numbered ls (suc i) l e = addressed ls i l e

named : {Q : Type 0} (a m : Meant Q) → Some a ≡ Some m → a.name ≡ m.name
named a m e = ap (λ (m : Meant _). m.name) (some_inj a m e)

-- the node that a step means is that of its actor
pub acts : {Q : Type 0} (log : List (Step Q)) (w : WorldState Q) (st : Step Q) (m : Meant Q) → map to w.letters ≡ sent log → meant w st ≡ Some m → actor log st ≡ m.name
acts log w (step.Deliver l) m same e =
    let d = delivered w.letters (letter_at w.letters l) m e in
    ap (λ ns. addressee_at ns l) (sym same) ∙ numbered w.letters l d.0 d.1 ∙ d.2
acts log w _ m same e = named _ m e

sent-more : {Q : Type 0} (log : List (Step Q)) (st : Step Q) → sent (log ++ st ∷ []) ≡ sent log ++ sent_by st
sent-more [] st = append-nil (sent_by st)
sent-more (x ∷ log) st = ap (λ ns. sent_by x ++ ns) (sent-more log st) ∙ sym (append_assoc (sent_by x) (sent log) (sent_by st))

-- whom the letters are for, of a world and after a step
abbrev Lettered : {Q : Type 0} → WorldState Q → Step Q → WorldState Q → Type 0
Lettered w st z = map to z.letters ≡ map to w.letters ++ sent_by st

quiet : {Q : Type 0} (ls new : List (LetterState Q)) → new ≡ ls → map to new ≡ map to ls ++ []
quiet ls new e = ap (map to) e ∙ sym (append-nil (map to ls))

sending : {Q : Type 0} (s : QuorumSystem Q) (w : WorldState Q) (n a : ℕ) (o : Option (NodeState Q)) → least (causes_at s o (act.Send a)) ≡ None → Lettered w (step.Send n a) (turn_at w n o (act.Send a)).world
unfolding to Rattle.rambo_node.specs.Changes.made_by
sending s w n a None e = absurd (true≢false (ap is_some e))
sending s w n a (Some x) e = map-append to w.letters (letter_for x a ∷ [])

send_causes : {Q : Type 0} (s : QuorumSystem Q) (w : WorldState Q) (n a : ℕ) → refusal s w (step.Send n a) ≡ None → least (causes_at s (node_at w n) (act.Send a)) ≡ None
unfolding refusal causes
send_causes s w n a e = e

lettered : {Q : Type 0} (s : QuorumSystem Q) (w : WorldState Q) (st : Step Q) → refusal s w st ≡ None → Lettered w st (turn w st).world
unfolding turn
lettered s w (step.Send n a) e = sending s w n a (node_at w n) (send_causes s w n a e)
lettered s w (step.Deliver i) e = quiet _ _ (letters_delivered w (letter_at w.letters i))
lettered s w st e = quiet _ _ (letters_at w _ _ refl (node_at w _))

-- after a step that isn't refused
pub addressees_next : {Q : Type 0} (s : QuorumSystem Q) (log : List (Step Q)) (w : WorldState Q) (st : Step Q) → refusal s w st ≡ None → map to w.letters ≡ sent log → map to (after s w st).letters ≡ sent (log ++ st ∷ [])
addressees_next s log w st e same =
    ap (λ (w : WorldState _). map to w.letters) (after-taken s w st e) ∙ lettered s w st e ∙ ap (λ ns. ns ++ sent_by st) same ∙ sym (sent-more log st)

pub addressees_from : {Q : Type 0} (s : QuorumSystem Q) (rest log : List (Step Q)) (w : WorldState Q) → legal_from s w rest → map to w.letters ≡ sent log → map to (run_from s w rest).letters ≡ sent (log ++ rest)
unfolding run_from legal_from
addressees_from s [] log w legal same = same ∙ ap sent (sym (append-nil log))
addressees_from s (st ∷ rest) log w legal same =
    addressees_from s rest (log ++ st ∷ []) (after s w st) legal.1 (addressees_next s log w st legal.0 same)
    ∙ ap sent (append_assoc log (st ∷ []) rest)

pub first_letters : {Q : Type 0} (s : QuorumSystem Q) (founders : Q) → map to (first_world s founders).letters ≡ []
unfolding first_world
first_letters s founders = refl

-- the letters of a run of which no step is refused are for whom its steps sent them
pub addressees : {Q : Type 0} (s : QuorumSystem Q) (founders : Q) (sts : List (Step Q)) → IsLegal s founders sts → map to (run s founders sts).letters ≡ sent sts
unfolding run
addressees s founders sts legal = addressees_from s sts [] (first_world s founders) (legal_in_turn s founders sts legal) (first_letters s founders)
