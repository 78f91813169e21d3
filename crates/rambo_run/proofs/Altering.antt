-- What a node that alters its collection or attempt keeps, and what it makes of its map
use Rattle.std.proofs.Common.{◌≡◌, ℕ, ◌≤◌, nat_lt, Some, None, refl, ap, ◌∙◌, inl, inr, arith}
use Rattle.std.proofs.lemmas.Bool.{lt-ltb, le-ltb, cond-true, cond-false}
use Rattle.rambo_names.specs.Quorums.{QuorumSystem}
use Rattle.rambo_config_map.specs.Maps.{merged_map, learnt, without_lowest}
use Rattle.rambo_gc.specs.Collections.{CollectionState}
use Rattle.rambo_gc.specs.Turns.{HasSecondQuorum}
use Rattle.rambo_gc.specs.CollectionLaws.{collection_over}
use Rattle.rambo_paxos.specs.declared.stage.Stage.TheVariants as stage
use Rattle.rambo_paxos.specs.Attempts.{AttemptState}
use Rattle.rambo_node.specs.Nodes.{NodeState}
use Rattle.rambo_node.specs.Hearing.{heard_gossip}
use Rattle.rambo_node.specs.Operations.{called, query_answered, call_closed, called_again}
use Rattle.rambo_node.specs.Reconfigurations.{attempt_opened, attempt_rebid, attempt_moved, config_learnt, attempt_ended, collection_opened, collection_moved, collection_ended}
use Rattle.rambo_run.proofs.Turn.{Moments, Telling, IsBacked, Alters, collects, seconds, finishes, opens, rebids, proposes, chooses, gives_up, Turn, stays, knows, calls, hears, queried, answers, agains, alters}

-- all but the map, the number, the collection, the attempt and the vote
pub record KeepsRest {Q : Type 0} (x y : NodeState Q) : Type 0 where
  pub name : y.name ≡ x.name
  pub registers : y.registers ≡ x.registers
  pub heard : y.heard ≡ x.heard
  pub made : y.made ≡ x.made
  pub calls : y.calls ≡ x.calls
  pub number : x.number ≤ y.number

kept : {Q : Type 0} (x y z : NodeState Q) → y ≡ z → KeepsRest x z → KeepsRest x y
kept x y z e k = record {
  name = ap (λ y. y.name) e ∙ k.name;
  registers = ap (λ y. y.registers) e ∙ k.registers;
  heard = ap (λ y. y.heard) e ∙ k.heard;
  made = ap (λ y. y.made) e ∙ k.made;
  calls = ap (λ y. y.calls) e ∙ k.calls;
  number = omega (arith, ap (λ y. y.number) e, k.number);
}

pub altered_rest : {Q : Type 0} (s : QuorumSystem Q) (x y : NodeState Q) → Alters s x y → KeepsRest x y
unfolding attempt_opened attempt_rebid attempt_moved config_learnt attempt_ended collection_opened collection_moved collection_ended
altered_rest s x y (collects h e) = kept x y _ e (record { name = refl; registers = refl; heard = refl; made = refl; calls = refl; number = omega arith })
altered_rest s x y (seconds g i d e) = kept x y _ e (record { name = refl; registers = refl; heard = refl; made = refl; calls = refl; number = omega arith })
altered_rest s x y (finishes g i d e) = kept x y _ e (record { name = refl; registers = refl; heard = refl; made = refl; calls = refl; number = omega arith })
altered_rest s x y (opens wish e) = kept x y _ e (record { name = refl; registers = refl; heard = refl; made = refl; calls = refl; number = omega arith })
altered_rest s x y (rebids a i p e) = kept x y _ e (record { name = refl; registers = refl; heard = refl; made = refl; calls = refl; number = omega arith })
altered_rest s x y (proposes a t b g e) = kept x y _ e (record { name = refl; registers = refl; heard = refl; made = refl; calls = refl; number = omega arith })
altered_rest s x y (chooses a c b g e) = kept x y _ e (record { name = refl; registers = refl; heard = refl; made = refl; calls = refl; number = omega arith })
altered_rest s x y (gives_up a i p e) = kept x y _ e (record { name = refl; registers = refl; heard = refl; made = refl; calls = refl; number = omega arith })

-- the map stays, loses its lowest place after a whole collection, or gains the configuration that an attempt chose
pub data MapMove {Q : Type 0} (s : QuorumSystem Q) (x y : NodeState Q) : Type 0 where
  map_stays : y.map ≡ x.map → MapMove s x y
  map_loses : (g : CollectionState) → x.collection ≡ Some g → HasSecondQuorum s x.map g → y.map ≡ without_lowest x.map → y.collection ≡ None → MapMove s x y
  map_gains : (a : AttemptState Q) (c : Q) → IsBacked s x a → a.stage ≡ stage.Propose c → y.map ≡ learnt x.map c → MapMove s x y

pub map_move : {Q : Type 0} (s : QuorumSystem Q) (x y : NodeState Q) → Alters s x y → MapMove s x y
unfolding attempt_opened attempt_rebid attempt_moved config_learnt attempt_ended collection_opened collection_moved collection_ended
map_move s x y (collects h e) = map_stays (ap (λ y. y.map) e)
map_move s x y (seconds g i d e) = map_stays (ap (λ y. y.map) e)
map_move s x y (finishes g i d e) = elim (collection_over s x.map g d) [
  | inl l ↦ map_stays (ap (λ y. y.map) e ∙ cond-true (nat_lt g.place x.map.floor) x.map (without_lowest x.map) (lt-ltb g.place x.map.floor l))
  | inr h ↦ map_loses g i h (ap (λ y. y.map) e ∙ cond-false (nat_lt g.place x.map.floor) x.map (without_lowest x.map) (le-ltb g.place x.map.floor h.kept)) (ap (λ y. y.collection) e)
]
map_move s x y (opens wish e) = map_stays (ap (λ y. y.map) e)
map_move s x y (rebids a i p e) = map_stays (ap (λ y. y.map) e)
map_move s x y (proposes a t b g e) = map_stays (ap (λ y. y.map) e)
map_move s x y (chooses a c b g e) = map_gains a c b g (ap (λ y. y.map) e)
map_move s x y (gives_up a i p e) = map_stays (ap (λ y. y.map) e)

-- the map after a turn: of some letter's map and the node's own, or moved by the node itself
pub data MapTurn {Q : Type 0} (s : QuorumSystem Q) (at : Moments Q) (m : ℕ) (x y : NodeState Q) : Type 0 where
  map_merges : (u j : ℕ) → u ≤ m → y.map ≡ merged_map x.map (at u j).map → MapTurn s at m x y
  map_moves : MapMove s x y → MapTurn s at m x y

pub map_turn : {Q : Type 0} {T : Telling} (s : QuorumSystem Q) (at : Moments Q) (m n : ℕ) (x y : NodeState Q) → Turn s T at m n x y → MapTurn s at m x y
unfolding called query_answered call_closed called_again heard_gossip
map_turn s at m n x y (stays e) = map_moves (map_stays (ap (λ y. y.map) e))
map_turn s at m n x y (knows st known e) = map_moves (map_stays (ap (λ y. y.map) e))
map_turn s at m n x y (calls o e) = map_moves (map_stays (ap (λ y. y.map) e))
map_turn s at m n x y (hears u j h a b t e) = map_merges u j h (ap (λ y. y.map) e)
map_turn s at m n x y (queried c i p h e) = map_moves (map_stays (ap (λ y. y.map) e))
map_turn s at m n x y (answers c i p h e) = map_moves (map_stays (ap (λ y. y.map) e))
map_turn s at m n x y (agains c i e) = map_moves (map_stays (ap (λ y. y.map) e))
map_turn s at m n x y (alters a) = map_moves (map_move s x y a)
