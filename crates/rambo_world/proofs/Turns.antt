-- What a step that isn't refused does
use Rattle.std.proofs.Common.{◌≡◌, ℕ, zero, suc, arith, List, Option, None, Some, Result, Ok, Err, IfErr, refl, sym, ap, ◌∙◌, subst}
use Rattle.std.proofs.lemmas.Bool.{false≢true, true≢false}
use Rattle.std.specs.Option.{is_some, option_map}
use Rattle.rambo_names.specs.declared.refusal.Refusal.{Refusal}
use Rattle.rambo_names.specs.declared.refusal.Refusal.TheVariants.{OutOfMemory}
use Rattle.rambo_names.specs.Quorums.{QuorumSystem}
use Rattle.rambo_names.specs.Refusals.{least, IsRefusal}
use Rattle.rambo_node.specs.Acts.{Act, delivery}
use Rattle.rambo_node.specs.Changes.{refusal_of}
use Rattle.rambo_node.specs.Nodes.{NodeState}
use Rattle.rambo_node.specs.Steps.{Step}
use Rattle.rambo_node.specs.declared.step.StepOf.TheVariants as step
use Rattle.rambo_run.specs.Worlds.{WorldState, node_at, letter_at}
use Rattle.rambo_run.specs.Steps.{Turn, meant, causes, causes_at, causes_of, refusal, turn, turn_at, turn_of, with_event, with_mark}
use Rattle.rambo_world.specs.Kept.{KeptNode, state_of, kept_at, state_at}
use Rattle.rambo_run.specs.Chronicles.{IsMarked}
use Rattle.rambo_run.specs.Legal.{EventsFit, MarksFit}
use Rattle.rambo_world.specs.Worlds.{EventFits, MarkFits}
use Rattle.rambo_letters.proofs.Lists.{some_is}
use Rattle.rambo_world.proofs.Growth.{state_at-kept}

-- who isn't refused is there
pub there : {Q : Type 0} (s : QuorumSystem Q) (o : Option (NodeState Q)) (c : Act Q) → least (causes_at s o c) ≡ None → (x : NodeState Q) × (o ≡ Some x)
there s None c e = absurd (true≢false (ap is_some e))
there s (Some x) c e = (x, refl)

-- founders that may be are refused for memory alone
pub err_alone : {T : Type 0} (r : Result T Refusal) (o : Option Refusal) → o ≡ None → IfErr r (λ f. f ≡ OutOfMemory) → IfErr r (IsRefusal o)
err_alone (Ok t) o n e = e
err_alone (Err f) None n e = e
err_alone (Err f) (Some g) n e = absurd (true≢false (ap is_some n))

-- a node that is there is kept
kept_some : {Q : Type 0} (o : Option (KeptNode Q)) (x : NodeState Q) → option_map state_of o ≡ Some x → (k : KeptNode Q) × (o ≡ Some k) × (k.node.state ≡ x)
kept_some None x e = absurd (false≢true (ap is_some e))
kept_some (Some k) x e = (k, refl, some_is k.node.state x e)

pub kept_there : {Q : Type 0} (ks : List (KeptNode Q)) (n : ℕ) (x : NodeState Q) → state_at ks n ≡ Some x → (k : KeptNode Q) × (kept_at ks n ≡ Some k) × (k.node.state ≡ x)
kept_there ks zero x e = absurd (false≢true (ap is_some e))
kept_there ks (suc i) x e = kept_some (kept_at ks (suc i)) x (sym (state_at-kept ks (suc i) (omega arith)) ∙ e)

-- a step that means a change of a node
module _ {Q : Type 0} (w : WorldState Q) (st : Step Q) (n : ℕ) (c : Act Q) (means : meant w st ≡ Some (record { name = n; act = c })) where
  pub step_turn : turn w st ≡ turn_at w n (node_at w n) c
  unfolding turn
  step_turn = ap (turn_of w) means

  pub step_refusal : (s : QuorumSystem Q) → refusal s w st ≡ least (causes_at s (node_at w n) c)
  unfolding refusal causes
  step_refusal s = ap (λ m. least (causes_of s w m)) means

  pub step_fits : (s : QuorumSystem Q) → EventsFit s w → refusal s w st ≡ None → EventFits w n c
  step_fits s fits accepted x e found event =
      fits st e accepted (ap (λ t. t.world.history) (step_turn ∙ ap (λ o. turn_at w n o c) found) ∙ ap (with_event w.history) event)

  pub step_told : (s : QuorumSystem Q) → MarksFit s w → refusal s w st ≡ None → MarkFits w n c
  step_told s told accepted x m found mark =
      let turned = step_turn ∙ ap (λ o. turn_at w n o c) found in
      subst (λ h. IsMarked h m) (ap (λ t. t.world.history) turned) (told st m accepted (ap (λ t. t.world.marks) turned ∙ ap (with_mark w.marks) mark))

pub deliver_refusal : {Q : Type 0} (s : QuorumSystem Q) (w : WorldState Q) (number : ℕ) → refusal s w (step.Deliver number) ≡ least (causes_of s w (delivery (letter_at w.letters number)))
unfolding refusal causes
deliver_refusal s w number = refl

-- a step that means a change of a node is judged by that node
pub judged_at : {Q : Type 0} (s : QuorumSystem Q) (w : WorldState Q) (st : Step Q) (n : ℕ) (c : Act Q) (x : NodeState Q)
    → meant w st ≡ Some (record { name = n; act = c }) → node_at w n ≡ Some x → refusal_of s x c ≡ refusal s w st
judged_at s w st n c x means found = sym (step_refusal w st n c means s ∙ ap (λ o. least (causes_at s o c)) found)

-- the same of a world by its parts
pub judged_now : {Q : Type 0} (s : QuorumSystem Q) (w now : WorldState Q) → w ≡ now → (st : Step Q) (n : ℕ) (c : Act Q) (x : NodeState Q)
    → meant w st ≡ Some (record { name = n; act = c }) → node_at w n ≡ Some x → (o : Option Refusal) → refusal_of s x c ≡ o → refusal s now st ≡ o
judged_now s w now view st n c x means found o e = subst (λ w. refusal s w st ≡ o) view (sym (judged_at s w st n c x means found) ∙ e)

pub turned_now : {Q : Type 0} (w now : WorldState Q) → w ≡ now → (st : Step Q) (n : ℕ) (c : Act Q) → meant w st ≡ Some (record { name = n; act = c })
    → (t : Turn Q) → turn_at w n (node_at w n) c ≡ t → turn now st ≡ t
turned_now w now view st n c means t done = ap (λ w. turn w st) (sym view) ∙ step_turn w st n c means ∙ done
