-- Which letters there are after one step more
use Rattle.std.proofs.Common.{◌≡◌, ◌⊎◌, ℕ, zero, suc, ◌≤◌, List, [], ◌∷◌, ◌++◌, length, map, Option, None, Some, slice_get, refl, sym, ap, ◌∙◌, inl, inr, arith}
use Rattle.std.proofs.lemmas.List.{append_cancel_left, append-nil, length-append}
use Rattle.rambo_names.specs.Quorums.{QuorumSystem}
use Rattle.rambo_gossip.specs.Letters.{LetterState}
use Rattle.rambo_node.specs.Changes.{made_by}
use Rattle.rambo_node.specs.Letters.{letter_for}
use Rattle.rambo_node.specs.Nodes.{NodeState}
use Rattle.rambo_node.specs.Acts as act
use Rattle.rambo_node.specs.Steps.{Step}
use Rattle.rambo_node.specs.declared.step.StepOf.TheVariants as step
use Rattle.rambo_run.specs.Actors.{sent_by, sent}
use Rattle.rambo_run.specs.Legal.{IsLegal}
use Rattle.rambo_run.specs.Runs.{run}
use Rattle.rambo_run.specs.Steps.{refusal, turn_at, turn}
use Rattle.rambo_run.specs.Worlds.{WorldState, letter_at, node_at}
use Rattle.rambo_run.proofs.Actors.{to, addressees}
use Rattle.rambo_run.proofs.GoingOn.{run-more}
use Rattle.rambo_run.proofs.Legal.{get-left, legal-more, run-grows}
use Rattle.rambo_run.proofs.Lists.{get_more, none-some, some_inj}

map-append : {A B : Type 0} (f : A → B) (xs ys : List A) → map f (xs ++ ys) ≡ map f xs ++ map f ys
map-append f [] ys = refl
map-append f (x ∷ xs) ys = ap (λ zs. f x ∷ zs) (map-append f xs ys)

append-assoc : {A : Type 0} (xs ys zs : List A) → (xs ++ ys) ++ zs ≡ xs ++ (ys ++ zs)
append-assoc [] ys zs = refl
append-assoc (x ∷ xs) ys zs = ap (λ l. x ∷ l) (append-assoc xs ys zs)

sent-more : {Q : Type 0} (log : List (Step Q)) (st : Step Q) → sent (log ++ st ∷ []) ≡ sent log ++ sent_by st
sent-more [] st = append-nil (sent_by st)
sent-more (x ∷ log) st = ap (λ ns. sent_by x ++ ns) (sent-more log st) ∙ sym (append-assoc (sent_by x) (sent log) (sent_by st))

length-map : {A B : Type 0} (f : A → B) (xs : List A) → length (map f xs) ≡ length xs
length-map f [] = refl
length-map f (x ∷ xs) = ap suc (length-map f xs)

head_is : {A : Type 0} {a b : A} → a ∷ [] ≡ b ∷ [] → a ≡ b
head_is {a = a} {b = b} e = some_inj a b (ap (λ l. slice_get l 0) e)

-- a step sends one letter at most
one_at_most : {Q : Type 0} (st : Step Q) → length (sent_by st) ≤ 1
one_at_most (step.Send n a) = omega arith
one_at_most _ = omega arith

-- whom it is for
sent_at : {Q : Type 0} (w : WorldState Q) (n to : ℕ) (o : Option (NodeState Q)) (a : LetterState Q) → (turn_at w n o (act.Send to)).world.letters ≡ w.letters ++ a ∷ [] → to ≡ a.addressee
unfolding made_by
sent_at w n to None a e = (let len = ap length e ∙ length-append w.letters (a ∷ []) in absurd (omega (arith, len)))
sent_at w n to (Some x) a e = ap (λ (l : LetterState _). l.addressee) (head_is (append_cancel_left w.letters (letter_for x to ∷ []) (a ∷ []) e))

sent_last : {Q : Type 0} (w : WorldState Q) (st : Step Q) (a : LetterState Q) → length (sent_by st) ≡ 1 → (turn w st).world.letters ≡ w.letters ++ a ∷ [] → sent_by st ≡ a.addressee ∷ []
unfolding turn
sent_last w (step.Send n to) a one e = ap (λ n. n ∷ []) (sent_at w n to (node_at w n) a e)
sent_last w _ a one e = absurd (omega (arith, one))

-- a letter of a longer list is one of the list, or the last one
more_at : {Q : Type 0} (ls rest : List (LetterState Q)) (few : length rest ≤ 1) (number : ℕ) (l : LetterState Q) → letter_at (ls ++ rest) number ≡ Some l
    → (letter_at ls number ≡ Some l) ⊎ ((rest ≡ l ∷ []) × (number ≡ length (ls ++ rest)))
more_at ls rest few zero l e = absurd (none-some l e)
more_at ls [] few (suc i) l e = inl (ap (λ ls. slice_get ls i) (sym (append-nil ls)) ∙ e)
more_at ls (a ∷ []) few (suc i) l e = elim (get_more ls a l i e) [
  | inl h ↦ inl h
  | inr h ↦ (let len = length-append ls (a ∷ []) in inr (ap (λ l. l ∷ []) h.1, omega (arith, h.0, len)))
]
more_at ls (a ∷ b ∷ rest) few (suc i) l e = absurd (omega (arith, few))

-- letters that were sent stay so
pub letter_stays : {Q : Type 0} (s : QuorumSystem Q) (f : Q) (steps : List (Step Q)) (st : Step Q) (number : ℕ) (l : LetterState Q)
    → letter_at (run s f steps).letters number ≡ Some l → letter_at (run s f (steps ++ st ∷ [])).letters number ≡ Some l
letter_stays s f steps st zero l e = absurd (none-some l e)
letter_stays s f steps st (suc i) l e =
    let p = (run-grows s f steps (steps ++ st ∷ []) (st ∷ [], refl)).letters in
    ap (λ ls. slice_get ls i) (sym p.1) ∙ get-left (run s f steps).letters p.0 i l e

-- and each other one was sent by the step more
pub later_letter : {Q : Type 0} (s : QuorumSystem Q) (f : Q) (steps : List (Step Q)) (st : Step Q) → IsLegal s f steps → refusal s (run s f steps) st ≡ None
    → (number : ℕ) (l : LetterState Q) → letter_at (run s f (steps ++ st ∷ [])).letters number ≡ Some l
    → (letter_at (run s f steps).letters number ≡ Some l) ⊎ ((sent_by st ≡ l.addressee ∷ []) × (number ≡ length (run s f (steps ++ st ∷ [])).letters))
later_letter s f steps st legal accepted number l e =
    let ls = (run s f steps).letters in
    let more = steps ++ st ∷ [] in
    let p = (run-grows s f steps more (st ∷ [], refl)).letters in
    let before : map to ls ≡ sent steps = addressees s f steps legal in
    let after : map to (run s f more).letters ≡ sent more = addressees s f more (legal-more s f steps st legal accepted) in
    let rest : map to p.0 ≡ sent_by st = append_cancel_left (map to ls) (map to p.0) (sent_by st)
    (sym (map-append to ls p.0) ∙ ap (map to) p.1 ∙ after ∙ sent-more steps st ∙ ap (λ ns. ns ++ sent_by st) (sym before)) in
    let long : length p.0 ≡ length (sent_by st) = sym (length-map to p.0) ∙ ap length rest in
    let few = one_at_most st in
    elim (more_at ls p.0 (omega (arith, long, few)) number l (ap (λ ls. letter_at ls number) p.1 ∙ e)) [
      | inl h ↦ inl h
      | inr h ↦ inr (
        sent_last (run s f steps) st l (sym long ∙ ap length h.0) (ap (λ w. w.letters) (sym (run-more s f steps st accepted)) ∙ sym p.1 ∙ ap (λ l. ls ++ l) h.0),
        h.1 ∙ ap length p.1,
      )
    ]
