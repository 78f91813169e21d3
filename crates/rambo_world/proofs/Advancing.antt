-- A call that goes on in two halves: its node is made ready, and then it goes on
use Rattle.std.proofs.Common.{◌≡◌, ℕ, List, ap, ◌∙◌}
use Rattle.rambo_history.specs.declared.event.CallId.{CallId}
use Rattle.rambo_history.specs.declared.event.Event.{Event}
use Rattle.rambo_node.specs.Acts as act
use Rattle.rambo_node.specs.Changes.{made_by}
use Rattle.rambo_sequence.specs.declared.mark.Mark.{Mark}
use Rattle.rambo_letters.specs.Kept.{SentState}
use Rattle.rambo_world.specs.Deliveries.{world_of}
use Rattle.rambo_world.specs.Kept.{KeptNode, states_of, whole_letters, moved, SameBarRoom, AllGrow, IsKept}
use Rattle.rambo_world.proofs.Changing.{same_world}
use Rattle.rambo_world.proofs.Growth.{same_grow, same_moved}
use Rattle.rambo_world.proofs.Stepping.{kept_stays, letters_stay}

module _ {Q : Type 0} (ks ready : List (KeptNode Q)) (same : SameBarRoom ks ready) (ss : List (SentState Q)) (counts : List ℕ) (kept : IsKept ks ss counts) where
  pub ready_kept : IsKept ready ss counts
  ready_kept = kept_stays ks ready (same_grow ks ready same) ss counts kept

  -- nothing has changed yet
  pub ready_world : (h history : List Event) (ms marks : List Mark) → history ≡ h → marks ≡ ms → world_of ready ss history marks ≡ world_of ks ss h ms
  ready_world h history ms marks events items = same_world ks ready ss h history ms marks same kept.sent events items

  module _ (new : List (KeptNode Q)) (grow : AllGrow ready new) where
    pub new_kept : IsKept new ss counts
    new_kept = kept_stays ready new grow ss counts ready_kept

    pub new_letters : whole_letters new ss ≡ whole_letters ks ss
    new_letters = letters_stay ready new grow ss ready_kept.sent ∙ letters_stay ks ready (same_grow ks ready same) ss kept.sent

    -- it doesn't go on
    pub still_world : SameBarRoom ready new → (h history : List Event) (ms marks : List Mark) → history ≡ h → marks ≡ ms → world_of new ss history marks ≡ world_of ks ss h ms
    still_world still h history ms marks events items =
        same_world ready new ss history history marks marks still ready_kept.sent (λ i. history) (λ i. marks) ∙ ready_world h history ms marks events items

    -- or it does
    pub went_nodes : (id by : CallId) → by ≡ id → states_of new ≡ moved ready by.name (λ x. (made_by x (act.Advance by)).node) → states_of new ≡ moved ks id.name (λ x. (made_by x (act.Advance id)).node)
    went_nodes id by is nodes =
        nodes ∙ ap (λ (i : CallId). moved ready i.name (λ x. (made_by x (act.Advance i)).node)) is ∙ same_moved ks ready id.name (λ x. (made_by x (act.Advance id)).node) same
