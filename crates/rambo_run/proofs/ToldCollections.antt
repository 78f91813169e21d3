-- What a step tells to be collected was collected
use Rattle.std.proofs.Common.{◌≡◌, ℕ, ◌<◌, false, not, ◌&&◌, List, Option, Some, None, is_none, refl, sym, ap, ◌∙◌, subst, inl, inr}
use Rattle.rambo_names.specs.Quorums.{QuorumSystem}
use Rattle.rambo_gc.specs.declared.gc_move.GcMove.{GcMove}
use Rattle.rambo_gc.specs.declared.gc_move.GcMove.TheVariants.{Propagating, Done}
use Rattle.rambo_gc.specs.Collections.{CollectionState, move_of}
use Rattle.rambo_gc.specs.Turns.{HasSecondQuorum}
use Rattle.rambo_gc.specs.CollectionLaws.{collection_over}
use Rattle.rambo_node.specs.declared.effect.Effect.{Effect}
use Rattle.rambo_node.specs.declared.effect.Effect.TheVariants as effect
use Rattle.rambo_node.specs.Changes.{collection_turned, collection_advanced, made_by}
use Rattle.rambo_node.specs.Nodes.{NodeState}
use Rattle.rambo_node.specs.Refusals.{collection_turn}
use Rattle.rambo_node.specs.Acts as act
use Rattle.rambo_node.specs.declared.prepared.Quiet.TheVariants as quiet
use Rattle.rambo_node.specs.Steps.{Step}
use Rattle.rambo_node.specs.declared.step.StepOf.TheVariants as step
use Rattle.rambo_run.specs.Worlds.{WorldState, node_at}
use Rattle.rambo_run.specs.Steps.{causes_at, causes, refusal, turn_at, turn}
use Rattle.rambo_run.specs.Claims.{IsDone}
use Rattle.rambo_run.specs.Configurations.{IsCollected, ToldCollectionsAreWhole}
use Rattle.rambo_run.proofs.Lists.{some_inj, none-some}
use Rattle.rambo_run.proofs.Steps.{AllClear, clear, some_there, same_move}
use Rattle.rambo_run.proofs.Collections.{collection_at, ends}
use Rattle.rambo_run.proofs.Sights.{at}
use Rattle.rambo_run.proofs.Worlds.{run_of}
use Rattle.rambo_run.proofs.Moments.{moment, worlds}
use Rattle.rambo_run.proofs.NodeLists.{node_is}
use Rattle.rambo_run.proofs.CollectionClaims.{collected_by, removed_by}

-- the place that an effect tells to be collected
abbrev place_in : {Q : Type 0} → Effect Q → Option ℕ
place_in (effect.Collected n place) = Some place
place_in effect.Done = None
place_in (effect.Called id) = None
place_in (effect.Sent number) = None
place_in effect.Moved = None
place_in (effect.Answered id answer) = None
place_in (effect.Decided n d) = None

-- the advance of a collection that is told ended it
abbrev Ends : {Q : Type 0} → QuorumSystem Q → NodeState Q → ℕ → Type 0
Ends s x p = (g : CollectionState) × (x.collection ≡ Some g) × (g.place ≡ p) × (move_of s x.map g ≡ Some Done)

module _ {Q : Type 0} (s : QuorumSystem Q) (x : NodeState Q) (p : ℕ) where
  turned_ends : (g : CollectionState) → x.collection ≡ Some g → (move : GcMove) → move_of s x.map g ≡ Some move → place_in (collection_turned x g move).effect ≡ Some p → Ends s x p
  turned_ends g i Propagating d e = absurd (none-some p e)
  turned_ends g i Done d e = (g, i, some_inj g.place p e, d)

  advance_ends : (o : Option CollectionState) → x.collection ≡ o → (not (is_none o) && is_none (collection_turn s x o)) ≡ false → place_in (collection_advanced x o).effect ≡ Some p → Ends s x p
  advance_ends None i d e = absurd (none-some p e)
  advance_ends (Some g) i d e =
      let r = some_there (move_of s x.map g) d in
      turned_ends g i r.0 r.1 (subst (λ move. place_in (collection_turned x g move).effect ≡ Some p) (same_move s x.map g r.0 r.1) e)

module _ {Q : Type 0} (s : QuorumSystem Q) (founders : Q) (ss : List (Step Q)) (m k n p : ℕ) where
  abbrev world : WorldState Q
  world = moment s founders ss m

  -- a collection that ended had its second quorum, or its place was removed already
  ended : IsDone s founders ss m (step.AdvanceCollect k) → (x : NodeState Q) → node_at world k ≡ Some x → Ends s x p → IsCollected s founders ss m p
  unfolding worlds
  ended does x e g =
      let node = at s founders (moment s founders ss) (worlds s founders ss) in
      let runs = run_of s founders (moment s founders ss) (worlds s founders ss) in
      let is = node_is s founders (moment s founders ss) (worlds s founders ss) m k x e in
      elim (collection_over s x.map g.0 g.3) [
        | inl l ↦ (removed_by s founders ss m k x e p (subst (λ p. p < x.map.floor) g.2 l)).0
        | inr q ↦ (let i = ap (λ x. x.collection) (sym is) ∙ g.1 in
            subst (IsCollected s founders ss m) g.2
            (collected_by s founders ss g.0.place m (ends s founders node runs m k g.0 i (collection_at s founders node runs m k g.0 i) (subst (λ x. HasSecondQuorum s x.map g.0) is q)) does))
      ]

  abbrev Tells : Option (NodeState Q) → Type 0
  Tells o = (turn_at world k o (act.Quietly quiet.AdvanceCollect)).effect ≡ effect.Collected n p

  told_at : IsDone s founders ss m (step.AdvanceCollect k) → (o : Option (NodeState Q)) → node_at world k ≡ o → AllClear (causes_at s o (act.Quietly quiet.AdvanceCollect)) → Tells o → IsCollected s founders ss m p
  unfolding made_by
  told_at does None i d e = absurd (none-some p (ap place_in e))
  told_at does (Some x) i d e = ended does x i (advance_ends s x p x.collection refl d.1.1.0 (ap place_in e))

  refused_not : refusal s world (step.AdvanceCollect k) ≡ None → AllClear (causes_at s (node_at world k) (act.Quietly quiet.AdvanceCollect))
  unfolding refusal causes
  refused_not e = clear (causes s world (step.AdvanceCollect k)) e

-- what a step tells to be collected was collected
pub told_collections_are_whole : {Q : Type 0} (s : QuorumSystem Q) → ToldCollectionsAreWhole s
unfolding turn
told_collections_are_whole s founders ss m n k p d e =
    told_at s founders ss m k n p d (node_at (moment s founders ss m) k) refl (refused_not s founders ss m k n p d.1) e
