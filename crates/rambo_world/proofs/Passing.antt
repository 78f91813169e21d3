-- A letter that comes from one node to another as it is sent
use Rattle.std.proofs.Common.{◌≡◌, ◌≢◌, ℕ, ◌-◌, max, Bool, true, false, not, ◌||◌, nat_eq, if◌then◌else◌, List, [], ◌∷◌, Option, None, Some, refl, sym, ap, ◌∙◌, subst}
use Rattle.std.specs.FinSet as set
use Rattle.std.proofs.lemmas.Bool.{eq-eqb, false≢true, true≢false}
use Rattle.std.specs.Option.{is_some}
use Rattle.rambo_names.specs.declared.refusal.Refusal.{Refusal}
use Rattle.rambo_names.specs.declared.refusal.Refusal.TheVariants.{NotActive, Stopped, NotKnown}
use Rattle.rambo_names.specs.Names.{IsName}
use Rattle.rambo_names.specs.Quorums.{QuorumSystem}
use Rattle.rambo_names.specs.Refusals.{least}
use Rattle.rambo_joiner.specs.Statuses.{is_idle, is_stopped}
use Rattle.rambo_node.specs.declared.effect.Effect.TheVariants as effect
use Rattle.rambo_node.specs.Nodes.{NodeState}
use Rattle.rambo_node.specs.Refusals.{send_causes}
use Rattle.rambo_node.specs.Acts as act
use Rattle.rambo_node.specs.declared.step.StepOf.TheVariants as step
use Rattle.rambo_run.specs.Steps.{Turn, causes_at, refusal, turn}
use Rattle.rambo_run.specs.Runs.{after}
use Rattle.rambo_logs.specs.Merged.{merged_at, merged_raised}
use Rattle.rambo_world.specs.Hearing.{hear_refusal, IsHeard}
use Rattle.rambo_world.specs.Kept.{KeptNode, kept_at, state_at, outline, AllGrow, IsRecorded, IsSent, IsKept}
use Rattle.rambo_world.specs.Deliveries.{world_of}
use Rattle.rambo_world.specs.Direct.{bare, passed, first_of, pass_refusal}
use Rattle.rambo_world.proofs.Coming.{kept_after, came}
use Rattle.rambo_world.proofs.Deliveries.{sent_causes}
use Rattle.rambo_world.proofs.Meeting.{named_there}
use Rattle.rambo_world.proofs.Bare.{run_two}
use Rattle.rambo_run.proofs.GoingOn.{after-taken}
use Rattle.rambo_world.proofs.Sendings.{name_of, outline_sent, kept_sent, send_world}
use Rattle.rambo_world.proofs.Turns.{kept_there, deliver_refusal, step_refusal}
use Rattle.rambo_letters.proofs.Lists.{some_is}

-- no node sends a letter to itself
unless_none : (holds : Bool) (r : Refusal) (rest : Option Refusal) → (if holds then Some r else rest) ≡ None → (holds ≡ false) × (rest ≡ None)
unless_none true r rest e = absurd (false≢true (ap is_some (sym e)))
unless_none false r rest e = (refl, e)

or_false : (a b : Bool) → (a || b) ≡ false → a ≡ false
or_false true b e = absurd (true≢false e)
or_false false b e = refl

apart : {Q : Type 0} (x : NodeState Q) (to : ℕ) → least (send_causes x to) ≡ None → nat_eq to x.name ≡ false
apart x to e =
    let idle = unless_none (is_idle x.status) NotActive _ e in
    let stopped = unless_none (is_stopped x.status) Stopped _ idle.1 in
    or_false (nat_eq to x.name) (not (set.contains x.known to)) (unless_none (nat_eq to x.name || not (set.contains x.known to)) NotKnown None stopped.1).0

pub sends_away : {Q : Type 0} (x : NodeState Q) (from to : ℕ) → x.name ≡ from → least (send_causes x to) ≡ None → from ≢ to
sends_away x from to name e own = absurd (true≢false (sym (eq-eqb to x.name (sym (name ∙ own))) ∙ apart x to e))

module _ {Q : Type 0} (s : QuorumSystem Q) (ks : List (KeptNode Q)) (from to : ℕ) (k : KeptNode Q)
    (found : kept_at ks from ≡ Some k) (there : state_at ks from ≡ Some k.node.state) (name : k.node.state.name ≡ from) (recorded : IsRecorded k)
    (sent : refusal s (world_of ks [] [] []) (step.Send from to) ≡ None) where
  -- it is sent
  pub sent_alone : after s (world_of ks [] [] []) (step.Send from to) ≡ world_of ks (outline k to ∷ []) [] []
  sent_alone =
      after-taken s (world_of ks [] [] []) (step.Send from to) sent
      ∙ ap (λ (t : Turn Q). t.world) (send_world ks [] (outline k to ∷ []) [] [] from to 1 k (outline k to) found there name recorded refl refl refl)

  -- its coming is judged
  pub judged_alone : refusal s (after s (world_of ks [] [] []) (step.Send from to)) (step.Deliver 1) ≡ least (causes_at s (state_at ks to) (act.Hear (outline k to).letter))
  judged_alone =
      ap (λ w. refusal s w (step.Deliver 1)) sent_alone ∙ deliver_refusal s (world_of ks (outline k to ∷ []) [] []) 1
      ∙ ap least (sent_causes ks (outline k to ∷ []) [] [] 1 s (outline k to) refl)

  -- and it comes
  pub passed_alone : (new : List (KeptNode Q)) → refusal s (after s (world_of ks [] [] []) (step.Send from to)) (step.Deliver 1) ≡ None
      → turn (world_of ks (outline k to ∷ []) [] []) (step.Deliver 1) ≡ record { world = world_of new (outline k to ∷ []) [] []; effect = effect.Done }
      → passed s (world_of ks [] [] []) from to ≡ world_of new [] [] []
  passed_alone new accepted comes =
      let w = world_of ks (outline k to ∷ []) [] [] in
      let heard : refusal s w (step.Deliver 1) ≡ None = ap (λ w. refusal s w (step.Deliver 1)) (sym sent_alone) ∙ accepted in
      ap bare (run_two s (world_of ks [] [] []) (step.Send from to) (step.Deliver 1) ∙ ap (λ w. after s w (step.Deliver 1)) sent_alone
      ∙ after-taken s w (step.Deliver 1) heard ∙ ap (λ (t : Turn Q). t.world) comes)

-- a letter between two nodes of which nothing else is kept
module _ {Q : Type 0} (s : QuorumSystem Q) (ks : List (KeptNode Q)) (counts : List ℕ) (kept : IsKept ks [] counts) (from to : ℕ) (x : NodeState Q) (at : state_at ks from ≡ Some x) where
  sending : refusal s (world_of ks [] [] []) (step.Send from to) ≡ least (send_causes x to)
  sending = step_refusal (world_of ks [] [] []) (step.Send from to) from (act.Send to) refl s ∙ ap (λ o. least (causes_at s o (act.Send to))) at

  abbrev coming : Option Refusal
  coming = refusal s (after s (world_of ks [] [] []) (step.Send from to)) (step.Deliver 1)

  pub all_named : (k : KeptNode Q) → kept_at ks from ≡ Some k → k.node.state.name ≡ from
  all_named k found = name_of ks from k (kept.names (from - 1) k found) (named_there ks from x at)

  -- where its sender refuses it
  pub not_sent : (r : Refusal) → least (send_causes x to) ≡ Some r → pass_refusal s (world_of ks [] [] []) from to ≡ Some r
  not_sent r e = ap (λ o. first_of o coming) (sending ∙ e)

  -- and where it doesn't
  module _ (may : least (send_causes x to) ≡ None) where
    own : (k : KeptNode Q) × (kept_at ks from ≡ Some k) × (k.node.state ≡ x)
    own = kept_there ks from x at

    sent_off : refusal s (world_of ks [] [] []) (step.Send from to) ≡ None
    sent_off = sending ∙ may

    there_is : (k : KeptNode Q) → kept_at ks from ≡ Some k → state_at ks from ≡ Some k.node.state
    there_is k found = at ∙ ap Some (sym own.2 ∙ ap (λ k. k.node.state) (some_is own.0 k (sym own.1 ∙ found)))

    pub away : from ≢ to
    away = sends_away own.0.node.state from to (all_named own.0 own.1) (ap (λ x. least (send_causes x to)) own.2 ∙ may)

    pub judged_passing : (k : KeptNode Q) → kept_at ks from ≡ Some k → pass_refusal s (world_of ks [] [] []) from to ≡ hear_refusal s ks (outline k to).letter
    judged_passing k found =
        ap (λ o. first_of o coming) sent_off
        ∙ judged_alone s ks from to k found (there_is k found) (all_named k found) (kept.recorded (from - 1) k found) sent_off

    pub own_kept : (k : KeptNode Q) × (kept_at ks from ≡ Some k)
    own_kept = (own.0, own.1)

    -- its addressee hears it
    module _ (new : List (KeptNode Q)) (grow : AllGrow ks new) (before told : ℕ) (named_to : IsName to) (named_from : IsName from) (count : before ≡ merged_at counts to from)
        (accepted : (k : KeptNode Q) → kept_at ks from ≡ Some k → hear_refusal s ks (outline k to).letter ≡ None) (told_is : (k : KeptNode Q) → kept_at ks from ≡ Some k → told ≡ (outline k to).told)
        (heard : (k : KeptNode Q) → kept_at ks from ≡ Some k → IsHeard ks new (outline k to).letter before (max before told)) where
      abbrev k : KeptNode Q
      k = own.0

      name : k.node.state.name ≡ from
      name = all_named k own.1

      is_sent : IsSent ks (outline k to)
      is_sent = outline_sent ks k from to own.1 name

      has : IsHeard ks new (outline k to).letter before (max before (outline k to).told)
      has = subst (λ n. IsHeard ks new (outline k to).letter before (max before n)) (told_is k own.1) (heard k own.1)

      sender : IsName k.node.state.name
      sender = subst IsName (sym name) named_from

      counted : before ≡ merged_at counts to k.node.state.name
      counted = count ∙ ap (merged_at counts to) (sym name)

      pub kept_passed : IsKept new [] (merged_raised counts to from told)
      kept_passed =
          subst (IsKept new []) (λ i. merged_raised counts to (name i) (sym (told_is k own.1) i))
          (kept_after s ks new [] counts kept grow (outline k to) is_sent before named_to sender counted (accepted k own.1) has)

      pub has_passed : world_of new [] [] [] ≡ passed s (world_of ks [] [] []) from to
      has_passed =
          let with_it = kept_sent ks [] (outline k to) counts kept is_sent in
          sym (passed_alone s ks from to k own.1 (there_is k own.1) name (kept.recorded (from - 1) k own.1) sent_off new
          (judged_alone s ks from to k own.1 (there_is k own.1) name (kept.recorded (from - 1) k own.1) sent_off ∙ accepted k own.1)
          (came s ks new (outline k to ∷ []) counts with_it grow (outline k to) is_sent before named_to sender counted (accepted k own.1) has [] [] 1 refl))
