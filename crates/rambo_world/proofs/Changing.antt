-- What a change of a node does to the world
use Rattle.std.proofs.Common.{◌≡◌, ℕ, ◌-◌, false, List, Some, slice_get, slice_set, sym, ap, ◌∙◌}
use Rattle.rambo_history.specs.declared.event.Event.{Event}
use Rattle.rambo_node.specs.Acts.{Act}
use Rattle.rambo_node.specs.declared.effect.Effect.{Effect}
use Rattle.rambo_node.specs.Changes.{made_by}
use Rattle.rambo_node.specs.Nodes.{NodeState}
use Rattle.rambo_sequence.specs.declared.mark.Mark.{Mark}
use Rattle.rambo_run.specs.Steps.{turn_at, with_letter, with_event, with_mark, effect_in}
use Rattle.rambo_letters.specs.Kept.{SentState}
use Rattle.rambo_world.specs.Kept.{KeptNode, states_of, whole_letters, moved, moved_in, state_at, SameBarRoom, IsSent}
use Rattle.rambo_run.specs.Steps.{sends}
use Rattle.rambo_world.specs.Deliveries.{world_of}
use Rattle.rambo_run.proofs.Unsent.{unsent}
use Rattle.rambo_world.proofs.Growth.{same_grow}
use Rattle.rambo_world.proofs.Stepping.{letters_stay}

-- a change of a node that is there, and that sends no letter
pub changed_world : {Q : Type 0} (ks new : List (KeptNode Q)) (ss : List (SentState Q)) (h history : List Event) (ms marks : List Mark) (n : ℕ) (c : Act Q) (e : Effect Q) (x : NodeState Q)
    → states_of new ≡ moved ks n (λ y. (made_by y c).node) → whole_letters new ss ≡ whole_letters ks ss → state_at ks n ≡ Some x → sends c ≡ false
    → e ≡ (made_by x c).deed.effect → history ≡ with_event h (made_by x c).deed.event → marks ≡ with_mark ms (made_by x c).deed.mark
    → turn_at (world_of ks ss h ms) n (state_at ks n) c ≡ record { world = world_of new ss history marks; effect = e }
changed_world ks new ss h history ms marks n c e x nodes letters found quiet effect event mark =
    let none = unsent x c quiet in
    let node : slice_set (states_of ks) (n - 1) (made_by x c).node ≡ states_of new = sym (nodes ∙ ap (λ o. moved_in n o (λ y. (made_by y c).node) (states_of ks)) found) in
    ap (λ o. turn_at (world_of ks ss h ms) n o c) found
    ∙ λ i. record {
      world = record {
        nodes = node i;
        letters = (ap (with_letter (whole_letters ks ss)) none ∙ sym letters) i;
        history = sym event i;
        marks = sym mark i;
      };
      effect = (ap (effect_in (whole_letters ks ss) (made_by x c).deed.effect) none ∙ sym effect) i;
    }

-- nodes that are as before, but for their room, make the same world
pub same_world : {Q : Type 0} (ks new : List (KeptNode Q)) (ss : List (SentState Q)) (h history : List Event) (ms marks : List Mark) → SameBarRoom ks new
    → ((place : ℕ) (l : SentState Q) → slice_get ss place ≡ Some l → IsSent ks l) → history ≡ h → marks ≡ ms → world_of new ss history marks ≡ world_of ks ss h ms
same_world ks new ss h history ms marks same sent event mark = λ i. record {
  nodes = same.states i;
  letters = letters_stay ks new (same_grow ks new same) ss sent i;
  history = event i;
  marks = mark i;
}
