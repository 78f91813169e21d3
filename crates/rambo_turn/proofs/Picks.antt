-- What a keeper's node says of the steps that it may do by itself is what the run of what it saw says
use Rattle.std.proofs.Common.{◌≡◌, ℕ, suc, Bool, true, false, cond, List, [], ◌∷◌, ◌++◌, map, find, All, Option, Some, is_none, option_map, refl, sym, ap, ◌∙◌, subst, arith}
use Rattle.rambo_names.specs.Quorums.{QuorumSystem}
use Rattle.rambo_names.specs.Refusals.{least}
use Rattle.rambo_calls.specs.Calls.{CallState}
use Rattle.rambo_node.specs.Changes.{refusal_of}
use Rattle.rambo_node.specs.Nodes.{NodeState}
use Rattle.rambo_node.specs.Acts as act
use Rattle.rambo_node.specs.declared.prepared.Quiet.TheVariants as quiet
use Rattle.rambo_node.specs.Steps.{Step}
use Rattle.rambo_node.specs.declared.step.StepOf.TheVariants as step
use Rattle.rambo_run.specs.Worlds.{WorldState, node_at}
use Rattle.rambo_node.specs.Acts.{delivery}
use Rattle.rambo_run.specs.Steps.{refusal, causes_at, causes_of}
use Rattle.rambo_mail.specs.declared.mail.Mail.{Mail}
use Rattle.std.specs.Prelude.{IfSome}
use Rattle.rambo_book.specs.Kept.{IsMailOf}
use Rattle.rambo_pick.specs.Picking as pick
use Rattle.rambo_pick.specs.Picking.{Candidate, candidates, advance, of_configurations, is_accepted}
use Rattle.rambo_turn.specs.Turns.{first_of, steps_of}
use Rattle.rambo_book.proofs.Judging.{refusal_is}
use Rattle.rambo_book.proofs.Standing.{verdict_alike, short_here}

-- each of a list
abbrev pub Each : {A : Type 0} → (A → Type 0) → List A → Type 0
Each P [] = Unit {0}
Each P (a ∷ more) = P a × Each P more

each_append : {A : Type 0} (P : A → Type 0) (xs ys : List A) → Each P xs → Each P ys → Each P (xs ++ ys)
each_append P [] ys a b = b
each_append P (x ∷ xs) ys a b = (a.0, each_append P xs ys a.1 b)

each_delivery : {Q : Type 0} (P : Candidate Q → Type 0) (M : Mail Q → Type 0) (tray : List (Mail Q)) → All M tray → ((m : Mail Q) → M m → P (pick.delivery m)) → Each P (map pick.delivery tray)
each_delivery P M [] all h = tt
each_delivery P M (m ∷ ms) all h = (h m (all 0 m (omega arith)), each_delivery P M ms (λ k d lt. all (suc k) d (omega (arith, lt))) h)

each_advance : {Q : Type 0} (P : Candidate Q → Type 0) (name : ℕ) (cs : List (CallState Q)) → ((c : CallState Q) → P (advance name c)) → Each P (map (advance name) cs)
each_advance P name [] h = tt
each_advance P name (c ∷ cs) h = (h c, each_advance P name cs h)

-- each of what a node may do by itself
pub each_candidate : {Q : Type 0} (P : Candidate Q → Type 0) (M : Mail Q → Type 0) (x : NodeState Q) (tray : List (Mail Q)) → All M tray → ((m : Mail Q) → M m → P (pick.delivery m)) → ((c : CallState Q) → P (advance x.name c))
    → P (record { step = step.AdvanceCollect x.name; act = act.Quietly quiet.AdvanceCollect }) → P (record { step = step.AdvanceRecon x.name; act = act.Quietly quiet.AdvanceRecon }) → Each P (candidates x tray)
each_candidate P M x tray all hears moves collects bids =
    each_append P (map pick.delivery tray) (map (advance x.name) x.calls ++ of_configurations x.name) (each_delivery P M tray all hears)
    (each_append P (map (advance x.name) x.calls) (of_configurations x.name) (each_advance P x.name x.calls moves) (collects, (bids, tt)))

-- what is first of steps, where the node says of each what the run says
mapped : {A B : Type 0} (test : Bool) (f : A → B) (a : A) (o : Option A) → cond test (Some (f a)) (option_map f o) ≡ option_map f (cond test (Some a) o)
mapped true f a o = refl
mapped false f a o = refl

first_alike : {Q : Type 0} (s : QuorumSystem Q) (w : WorldState Q) (x : NodeState Q) (cs : List (Candidate Q)) → Each (λ (c : Candidate Q). refusal s w c.step ≡ refusal_of s x c.act) cs
    → first_of s w (map (λ (c : Candidate Q). c.step) cs) ≡ pick.first_of s x cs
first_alike s w x [] alike = refl
first_alike s w x (c ∷ cs) alike =
    ap (λ o. cond (is_none o) (Some c.step) (first_of s w (map (λ (c : Candidate _). c.step) cs))) alike.0
    ∙ ap (cond (is_accepted s x c) (Some c.step)) (first_alike s w x cs alike.1)
    ∙ mapped (is_accepted s x c) (λ (c : Candidate _). c.step) c (find (is_accepted s x) cs)

found_has : {A : Type 0} (P : A → Type 0) (test : Bool) (a : A) (rest : Option A) → P a → IfSome rest P → IfSome (cond test (Some a) rest) P
found_has P true a rest p h = p
found_has P false a rest p h = h

-- what a node accepts first has what each has
pub picked_each : {Q : Type 0} (s : QuorumSystem Q) (x : NodeState Q) (P : Step Q → Type 0) (cs : List (Candidate Q)) → Each (λ (c : Candidate Q). P c.step) cs → IfSome (pick.first_of s x cs) P
picked_each s x P [] a = tt
picked_each s x P (c ∷ cs) a =
    subst (λ o. IfSome o P) (mapped (is_accepted s x c) (λ (c : Candidate _). c.step) c (find (is_accepted s x) cs))
    (found_has P (is_accepted s x c) c.step (pick.first_of s x cs) a.0 (picked_each s x P cs a.1))

-- a world in which the node of its name is this one
module _ {Q : Type 0} (s : QuorumSystem Q) (w : WorldState Q) (x : NodeState Q) (here : node_at w x.name ≡ Some x) where
  hears : (m : Mail Q) → IsMailOf w x.name m → refusal s w (step.Deliver m.number) ≡ refusal_of s x (act.Hear m.letter)
  hears m is =
      refusal_is s w (step.Deliver m.number)
      ∙ ap (λ o. least (causes_of s w (delivery o))) is.1
      ∙ ap (λ n. least (causes_at s (node_at w n) (act.Hear is.0))) is.3
      ∙ ap (λ o. least (causes_at s o (act.Hear is.0))) here
      ∙ sym (verdict_alike s x m.letter is.0 (short_here w x.name x here m.letter is.0 is.2 is.3))

  moves : (c : CallState Q) → refusal s w (advance x.name c).step ≡ refusal_of s x (advance x.name c).act
  moves c = refusal_is s w (advance x.name c).step ∙ ap (λ o. least (causes_at s o (advance x.name c).act)) here

  collects : refusal s w (step.AdvanceCollect x.name) ≡ refusal_of s x (act.Quietly quiet.AdvanceCollect)
  collects = refusal_is s w (step.AdvanceCollect x.name) ∙ ap (λ o. least (causes_at s o (act.Quietly quiet.AdvanceCollect))) here

  bids : refusal s w (step.AdvanceRecon x.name) ≡ refusal_of s x (act.Quietly quiet.AdvanceRecon)
  bids = refusal_is s w (step.AdvanceRecon x.name) ∙ ap (λ o. least (causes_at s o (act.Quietly quiet.AdvanceRecon))) here

  pub first_is : (tray : List (Mail Q)) → All (IsMailOf w x.name) tray → first_of s w (steps_of x tray) ≡ pick.first_of s x (candidates x tray)
  first_is tray all = first_alike s w x (candidates x tray) (each_candidate (λ (c : Candidate Q). refusal s w c.step ≡ refusal_of s x c.act) (IsMailOf w x.name) x tray all hears moves collects bids)
