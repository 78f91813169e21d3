-- The part of a turn that the laws of votes and attempts read
use Rattle.std.proofs.Common.{◌≡◌, ℕ, ◌+◌, ◌<◌, ◌≤◌, nat_lt, Option, Some, None, ap, ◌∙◌, inl, inr}
use Rattle.std.proofs.lemmas.Bool.{lt-ltb, le-ltb, cond-true, cond-false}
use Rattle.rambo_names.specs.Quorums.{QuorumSystem}
use Rattle.rambo_config_map.specs.Maps.{end_of, without_lowest}
use Rattle.rambo_gc.specs.declared.gc_move.GcMove.TheVariants.{Done}
use Rattle.rambo_gc.specs.Collections.{CollectionState, move_of}
use Rattle.rambo_gc.specs.CollectionLaws.{collection_over}
use Rattle.rambo_paxos.specs.declared.proposal.Proposal.{Proposal}
use Rattle.rambo_paxos.specs.declared.stage.Stage.TheVariants as stage
use Rattle.rambo_paxos.specs.Attempts.{AttemptState, opened, rebid, vote_opened, proposing, vote_proposed, advanced_in, vote_advanced_in}
use Rattle.rambo_paxos.specs.Votes.{empty_vote}
use Rattle.rambo_node.specs.Nodes.{NodeState}
use Rattle.rambo_node.specs.Letters.{gossip_for}
use Rattle.rambo_node.specs.Hearing.{heard_gossip}
use Rattle.rambo_node.specs.Operations.{called, query_answered, call_closed, called_again}
use Rattle.rambo_node.specs.Reconfigurations.{attempt_opened, attempt_rebid, attempt_moved, config_learnt, attempt_ended, collection_opened, collection_moved, collection_ended}
use Rattle.rambo_run.proofs.Turn.{Moments, Telling, IsBacked, Alters, collects, seconds, finishes, opens, rebids, proposes, chooses, gives_up, Turn, stays, knows, calls, hears, queried, answers, agains, alters}
use Rattle.rambo_run.proofs.Formed.{IsFormed, lost_end, gained_end, loses_room}

pub data VoteTurn {Q : Type 0} (s : QuorumSystem Q) (at : Moments Q) (m n : ℕ) (x y : NodeState Q) : Type 0 where
  v_stays : end_of y.map ≡ end_of x.map → y.vote ≡ x.vote → y.attempt ≡ x.attempt → VoteTurn s at m n x y
  v_hears : (u j : ℕ) → u ≤ m → y ≡ heard_gossip x j (gossip_for (at u j) n) → VoteTurn s at m n x y
  v_opens : (wish : Q) → end_of y.map ≡ end_of x.map → y.vote ≡ vote_opened x.vote x.name → y.attempt ≡ Some (opened (end_of x.map) wish x.vote x.name) → VoteTurn s at m n x y
  v_rebids : (a : AttemptState Q) → x.attempt ≡ Some a → a.place ≡ end_of x.map → end_of y.map ≡ end_of x.map → y.vote ≡ vote_opened x.vote a.ballot.name → y.attempt ≡ Some (rebid a x.vote) → VoteTurn s at m n x y
  v_proposes : (a : AttemptState Q) (told : Option (Proposal Q)) → IsBacked s x a → a.stage ≡ stage.Prepare told → end_of y.map ≡ end_of x.map
      → y.vote ≡ vote_proposed a told x.vote → y.attempt ≡ Some (proposing a told x.vote) → VoteTurn s at m n x y
  v_learns : end_of y.map ≡ end_of x.map + 1 → y.vote ≡ empty_vote → y.attempt ≡ None → VoteTurn s at m n x y
  v_drops : (a : AttemptState Q) → x.attempt ≡ Some a → a.place < end_of x.map → end_of y.map ≡ end_of x.map → y.vote ≡ x.vote → y.attempt ≡ None → VoteTurn s at m n x y

module _ {Q : Type 0} (s : QuorumSystem Q) where
  -- a collection that ends leaves the end of the map
  ended_end : (x : NodeState Q) (g : CollectionState) → IsFormed x → x.collection ≡ Some g → move_of s x.map g ≡ Some Done → end_of (collection_ended x g).map ≡ end_of x.map
  unfolding collection_ended
  ended_end x g f i d = elim (collection_over s x.map g d) [
    | inl l ↦ ap end_of (cond-true (nat_lt g.place x.map.floor) x.map (without_lowest x.map) (lt-ltb g.place x.map.floor l))
    | inr h ↦ ap end_of (cond-false (nat_lt g.place x.map.floor) x.map (without_lowest x.map) (le-ltb g.place x.map.floor h.kept)) ∙ lost_end x.map (loses_room x g f i h.kept)
  ]

  vote_altered : (at : Moments Q) (m n : ℕ) (x y : NodeState Q) → IsFormed x → Alters s x y → VoteTurn s at m n x y
  unfolding attempt_opened attempt_rebid attempt_moved config_learnt attempt_ended collection_opened collection_moved collection_ended
  vote_altered at m n x y f (collects h e) = v_stays (ap (λ y. end_of y.map) e) (ap (λ y. y.vote) e) (ap (λ y. y.attempt) e)
  vote_altered at m n x y f (seconds g i d e) = v_stays (ap (λ y. end_of y.map) e) (ap (λ y. y.vote) e) (ap (λ y. y.attempt) e)
  vote_altered at m n x y f (finishes g i d e) = v_stays (ap (λ y. end_of y.map) e ∙ ended_end x g f i d) (ap (λ y. y.vote) e) (ap (λ y. y.attempt) e)
  vote_altered at m n x y f (opens wish e) = v_opens wish (ap (λ y. end_of y.map) e) (ap (λ y. y.vote) e) (ap (λ y. y.attempt) e)
  vote_altered at m n x y f (rebids a i p e) = v_rebids a i p (ap (λ y. end_of y.map) e) (ap (λ y. y.vote) e) (ap (λ y. y.attempt) e)
  vote_altered at m n x y f (proposes a t b g e) =
      v_proposes a t b g (ap (λ y. end_of y.map) e) (ap (λ y. y.vote) e ∙ ap (λ g. vote_advanced_in g a x.vote) g) (ap (λ y. y.attempt) e ∙ ap (λ g. Some (advanced_in g a x.vote)) g)
  vote_altered at m n x y f (chooses a c b g e) =
      v_learns (ap (λ y. end_of y.map) e ∙ gained_end x.map c) (ap (λ y. y.vote) e ∙ ap (λ g. vote_advanced_in g a x.vote) g) (ap (λ y. y.attempt) e)
  vote_altered at m n x y f (gives_up a i p e) = v_drops a i p (ap (λ y. end_of y.map) e) (ap (λ y. y.vote) e) (ap (λ y. y.attempt) e)

  pub vote_turn : {T : Telling} (at : Moments Q) (m n : ℕ) (x y : NodeState Q) → IsFormed x → Turn s T at m n x y → VoteTurn s at m n x y
  unfolding called query_answered call_closed called_again
  vote_turn at m n x y f (stays e) = v_stays (ap (λ y. end_of y.map) e) (ap (λ y. y.vote) e) (ap (λ y. y.attempt) e)
  vote_turn at m n x y f (knows st known e) = v_stays (ap (λ y. end_of y.map) e) (ap (λ y. y.vote) e) (ap (λ y. y.attempt) e)
  vote_turn at m n x y f (calls o e) = v_stays (ap (λ y. end_of y.map) e) (ap (λ y. y.vote) e) (ap (λ y. y.attempt) e)
  vote_turn at m n x y f (hears u j h a b t e) = v_hears u j h e
  vote_turn at m n x y f (queried c i p h e) = v_stays (ap (λ y. end_of y.map) e) (ap (λ y. y.vote) e) (ap (λ y. y.attempt) e)
  vote_turn at m n x y f (answers c i p h e) = v_stays (ap (λ y. end_of y.map) e) (ap (λ y. y.vote) e) (ap (λ y. y.attempt) e)
  vote_turn at m n x y f (agains c i e) = v_stays (ap (λ y. end_of y.map) e) (ap (λ y. y.vote) e) (ap (λ y. y.attempt) e)
  vote_turn at m n x y f (alters a) = vote_altered at m n x y f a
