-- What a change of a node does to nodes of which nothing else is kept
use Rattle.std.proofs.Common.{◌≡◌, ℕ, false, List, [], None, Some, Ok, Err, refl, sym, ap}
use Rattle.rambo_names.specs.declared.refusal.Refusal.{Refusal}
use Rattle.rambo_names.specs.Quorums.{QuorumSystem}
use Rattle.rambo_node.specs.Acts.{Act}
use Rattle.rambo_node.specs.Changes.{made_by, refusal_of}
use Rattle.rambo_node.specs.Nodes.{NodeState}
use Rattle.rambo_node.specs.Steps.{Step}
use Rattle.rambo_run.specs.Runs.{after, result_of}
use Rattle.rambo_run.specs.Steps.{meant, refusal, sends, turn, with_event, with_mark}
use Rattle.rambo_run.specs.Worlds.{WorldState}
use Rattle.rambo_run.proofs.GoingOn.{after-refused}
use Rattle.rambo_world.specs.Deliveries.{world_of}
use Rattle.rambo_world.specs.Direct.{bare}
use Rattle.rambo_world.specs.Kept.{KeptNode, states_of, state_at, moved}
use Rattle.rambo_world.proofs.Changing.{changed_world}
use Rattle.rambo_world.proofs.Single.{refused_told, taken_told, taken_after}
use Rattle.rambo_world.proofs.Turns.{judged_now, turned_now}

module _ {Q : Type 0} (s : QuorumSystem Q) (ks : List (KeptNode Q)) (st : Step Q) (n : ℕ) (c : Act Q) (means : meant (world_of ks [] [] []) st ≡ Some (record { name = n; act = c }))
    (x : NodeState Q) (found : state_at ks n ≡ Some x) where
  abbrev w : WorldState Q
  w = world_of ks [] [] []

  -- where the node refuses it
  module _ (r : Refusal) (refused : refusal_of s x c ≡ Some r) where
    is_refused : refusal s w st ≡ Some r
    is_refused = judged_now s w w refl st n c x means found (Some r) refused

    pub refused_alone : Err r ≡ result_of (refusal s w st) w st
    refused_alone = refused_told s w st r is_refused

    pub stays_alone : w ≡ bare (after s w st)
    stays_alone = ap bare (sym (after-refused s w st r is_refused))

  -- and where it doesn't
  module _ (accepted : refusal_of s x c ≡ None) where
    pub accepted_alone : refusal s w st ≡ None
    accepted_alone = judged_now s w w refl st n c x means found None accepted

    module _ (quiet : sends c ≡ false) (new : List (KeptNode Q)) (nodes : states_of new ≡ moved ks n (λ y. (made_by y c).node)) where
      turned : turn w st ≡ record { world = world_of new [] (with_event [] (made_by x c).deed.event) (with_mark [] (made_by x c).deed.mark); effect = (made_by x c).deed.effect }
      turned = turned_now w w refl st n c means _ (changed_world ks new [] [] _ [] _ n c _ x nodes refl found quiet refl refl refl)

      pub told_alone : Ok (made_by x c).deed.effect ≡ result_of (refusal s w st) w st
      told_alone = taken_told s w st _ _ accepted_alone turned

      pub changed_alone : world_of new [] [] [] ≡ bare (after s w st)
      changed_alone = ap bare (taken_after s w st _ _ accepted_alone turned)
