-- The nodes before any step, and the maps of the nodes
use Rattle.std.proofs.Common.{◌≡◌, ℕ, zero, suc, ◌+◌, ◌-◌, ◌*◌, ◌<◌, Bool, true, false, if◌then◌else◌, List, [], ◌∷◌, ◌++◌, take, length, replicate, None, Some, slice_get, slice_index, get_or, refl, sym, ap, ◌∙◌, subst, inl, inr, arith}
use Rattle.std.proofs.lemmas.Bool.{false≢true, true≢false}
use Rattle.std.proofs.lemmas.Option.{slice_get_cases, slice_get_within, slice_get-map, get_or_from_slice_get}
use Rattle.std.proofs.lemmas.List.{take_more, map-append, length-map, length-replicate}
use Rattle.std.specs.Option.{is_some, option_map}
use Rattle.rambo_names.specs.Names.{rising}
use Rattle.rambo_names.specs.Quorums.{QuorumSystem}
use Rattle.rambo_tag.specs.declared.keyed_version.KeyedVersion.{KeyedVersion}
use Rattle.rambo_tag.specs.Copies.{joined}
use Rattle.rambo_tag.specs.Logs.{greatest_of}
use Rattle.rambo_tag.proofs.Logged.{greatest_of-nil}
use Rattle.rambo_tag.proofs.Joins.{joined-empty}
use Rattle.rambo_history.specs.declared.event.Event.{Event}
use Rattle.rambo_joiner.specs.Statuses.{is_idle}
use Rattle.rambo_node.specs.Nodes.{NodeState, RoomyNode, first_node}
use Rattle.rambo_sequence.specs.declared.mark.Mark.{Mark}
use Rattle.rambo_run.specs.Runs.{maps_of}
use Rattle.rambo_run.specs.Worlds.{first_nodes, first_world}
use Rattle.rambo_run.proofs.FirstWorlds.{first_count}
use Rattle.rambo_letters.specs.Kept.{SentState}
use Rattle.rambo_logs.specs.Merged.{merged_at}
use Rattle.rambo_world.specs.Kept.{KeptNode, state_of, states_of, log_of, logs_of, node_state, node_states, whole_letters, log_at, HasMerged, IsKept}
use Rattle.rambo_letters.proofs.Lists.{some_is}
use Rattle.rambo_world.specs.Deliveries.{world_of}

-- the map of one node more
more_maps : {X : Type 0} (b : Bool) (m : X) (all bs cs : List X) → all ≡ bs ++ cs → (if b then all else m ∷ all) ≡ (if b then bs else m ∷ bs) ++ cs
more_maps true m all bs cs e = e
more_maps false m all bs cs e = ap (λ l. m ∷ l) e

maps_push : {Q : Type 0} (xs : List (NodeState Q)) (x : NodeState Q) → maps_of (xs ++ x ∷ []) ≡ maps_of xs ++ maps_of (x ∷ [])
maps_push [] x = refl
maps_push (y ∷ ys) x = more_maps (is_idle y.status) (record { name = y.name; floor = y.map.floor; active = y.map.configs }) (maps_of (ys ++ x ∷ [])) (maps_of ys) (maps_of (x ∷ [])) (maps_push ys x)

pub maps_next : {Q : Type 0} (xs : List (RoomyNode Q)) (place : ℕ) (x : RoomyNode Q) → place < length xs → x ≡ get_or xs place x
    → maps_of (node_states (take (place + 1) xs)) ≡ maps_of (node_states (take place xs)) ++ maps_of (x.state ∷ [])
maps_next xs place x below is =
    ap (λ ys. maps_of (node_states ys)) (take_more xs place x below ∙ ap (λ y. take place xs ++ y ∷ []) (sym is))
    ∙ ap maps_of (map-append node_state (take place xs) (x ∷ [])) ∙ maps_push (node_states (take place xs)) x.state

-- an idle node has no map to show, and any other node has its own
pub no_map : {Q : Type 0} (x : NodeState Q) → is_idle x.status ≡ true → maps_of (x ∷ []) ≡ []
no_map x e = ap (λ b. if b then [] else (record { name = x.name; floor = x.map.floor; active = x.map.configs } ∷ [])) e

pub own_map : {Q : Type 0} (x : NodeState Q) → is_idle x.status ≡ false → maps_of (x ∷ []) ≡ record { name = x.name; floor = x.map.floor; active = x.map.configs } ∷ []
own_map x e = ap (λ b. if b then [] else (record { name = x.name; floor = x.map.floor; active = x.map.configs } ∷ [])) e

-- the configurations of a row up to a place, and the next one
pub next_config : {X : Type 0} (xs items new : List X) (place : ℕ) (x : X) → items ≡ take place xs → slice_get xs place ≡ Some x → new ≡ items ++ x ∷ [] → new ≡ take (place + 1) xs
next_config xs items new place x told found more =
    more ∙ (λ i. told i ++ sym (get_or_from_slice_get xs place x x found) i ∷ []) ∙ sym (take_more xs place x (slice_get_within xs place x found))

pub no_config : {X Y : Type 0} (xs : List X) (place : ℕ) → place < length xs → slice_get xs place ≡ None → Y
no_config xs place below none =
    elim ((slice_get_cases xs place).1) [
      | inl h ↦ absurd (true≢false (ap is_some (sym h.2 ∙ none)))
      | inr h ↦ absurd (let past = h.0 in omega (arith, past, below))
    ]

-- the last name goes behind the others
first_push : {Q : Type 0} (s : QuorumSystem Q) (founders : Q) (k n : ℕ) → first_nodes s founders (rising k n) ++ first_node s founders (n + k) ∷ [] ≡ first_nodes s founders (rising (suc k) n)
unfolding rising
first_push s founders zero n = ap (λ m. first_node s founders m ∷ []) (let e : n + zero ≡ n = omega arith in e)
first_push s founders (suc k) n =
    ap (λ m. first_node s founders n ∷ (first_nodes s founders (rising k (n + 1)) ++ first_node s founders m ∷ [])) (let e : n + suc k ≡ n + 1 + k = omega arith in e)
    ∙ ap (λ l. first_node s founders n ∷ l) (first_push s founders k (n + 1))

-- so the nodes are made in their order
pub first_none : {Q : Type 0} (s : QuorumSystem Q) (founders : Q) → [] ≡ first_nodes s founders (rising 0 1)
unfolding rising
first_none s founders = refl

pub first_next : {Q : Type 0} (s : QuorumSystem Q) (founders : Q) (place : ℕ) (made : List (RoomyNode Q)) (x : RoomyNode Q) → node_states made ≡ first_nodes s founders (rising place 1)
    → x.state ≡ first_node s founders (place + 1) → node_states (made ++ x ∷ []) ≡ first_nodes s founders (rising (place + 1) 1)
first_next s founders place made x is node =
    map-append node_state made (x ∷ [])
    ∙ (λ i. is i ++ node i ∷ [])
    ∙ ap (λ m. first_nodes s founders (rising place 1) ++ first_node s founders m ∷ []) (let e : place + 1 ≡ 1 + place = omega arith in e)
    ∙ first_push s founders place 1
    ∙ ap (λ m. first_nodes s founders (rising m 1)) (let e : suc place ≡ place + 1 = omega arith in e)

first_at : {Q : Type 0} (s : QuorumSystem Q) (founders : Q) (k n place : ℕ) (x : NodeState Q) → slice_get (first_nodes s founders (rising k n)) place ≡ Some x → first_node s founders (place + n) ≡ x
unfolding rising
first_at s founders zero n place x e = absurd (false≢true (ap is_some e))
first_at s founders (suc k) n zero x e = ap (first_node s founders) (let e : zero + n ≡ n = omega arith in e) ∙ some_is (first_node s founders n) x e
first_at s founders (suc k) n (suc place) x e = ap (first_node s founders) (let e : suc place + n ≡ place + (n + 1) = omega arith in e) ∙ first_at s founders k (n + 1) place x e

first_name : {Q : Type 0} (s : QuorumSystem Q) (founders : Q) (n : ℕ) → (first_node s founders n).name ≡ n
unfolding first_node
first_name s founders n = refl

first_registers : {Q : Type 0} (s : QuorumSystem Q) (founders : Q) (n : ℕ) → (first_node s founders n).registers ≡ greatest_of []
unfolding first_node
first_registers s founders n = sym greatest_of-nil

-- and no log has a copy
no_log : (n place : ℕ) (l : List KeyedVersion) → slice_get (replicate n []) place ≡ Some l → l ≡ []
no_log zero place l e = absurd (false≢true (ap is_some e))
no_log (suc n) zero l e = sym (some_is [] l e)
no_log (suc n) (suc place) l e = no_log n place l e

-- what hasn't been merged
none_merged : {Q : Type 0} (ks : List (KeptNode Q)) (counts : List ℕ) (to from : ℕ) (k : KeptNode Q) → merged_at counts to from ≡ 0 → HasMerged ks counts to from k
none_merged ks counts to from k e = record {
  within = omega (arith, e);
  holds = ap (λ n. joined k.node.state.registers (greatest_of (take n (log_at ks from)))) e ∙ ap (joined k.node.state.registers) greatest_of-nil ∙ joined-empty k.node.state.registers;
}

get_or-replicate : (n place : ℕ) → slice_index (replicate n 0) place ≡ 0
get_or-replicate zero place = refl
get_or-replicate (suc n) zero = refl
get_or-replicate (suc n) (suc place) = get_or-replicate n place

-- nodes before any step
module _ {Q : Type 0} (s : QuorumSystem Q) (founders : Q) (ks : List (KeptNode Q)) (states : states_of ks ≡ first_nodes s founders (rising 64 1)) (logs : logs_of ks ≡ replicate 64 []) where
  state_there : (place : ℕ) (k : KeptNode Q) → slice_get ks place ≡ Some k → k.node.state ≡ first_node s founders (place + 1)
  state_there place k found =
      sym (first_at s founders 64 1 place k.node.state (ap (λ xs. slice_get xs place) (sym states) ∙ slice_get-map state_of ks place ∙ ap (option_map state_of) found))

  log_there : (place : ℕ) (k : KeptNode Q) → slice_get ks place ≡ Some k → k.log ≡ []
  log_there place k found = no_log 64 place k.log (ap (λ ls. slice_get ls place) (sym logs) ∙ slice_get-map log_of ks place ∙ ap (option_map log_of) found)

  -- what holds of every world holds of them
  first_kept : (counts : List ℕ) → length counts ≡ 4096 → ((place : ℕ) → slice_index counts place ≡ 0) → IsKept ks [] counts
  first_kept counts long zeros = record {
    nodes = sym (length-map ks state_of) ∙ ap length states ∙ first_count s founders 64 1;
    counts = long;
    names = λ place k e. ap (λ x. x.name) (state_there place k e) ∙ first_name s founders (place + 1);
    recorded = λ place k e. ap (λ x. x.registers) (state_there place k e) ∙ first_registers s founders (place + 1) ∙ ap greatest_of (sym (log_there place k e));
    sent = λ place x e. absurd (false≢true (ap is_some e));
    merged = λ to from k at at_from e. none_merged ks counts to from k (zeros ((to - 1) * 64 + (from - 1)));
  }

  module _ (ss : List (SentState Q)) (letters : ss ≡ []) where
    pub first_fits : (counts : List ℕ) → counts ≡ replicate 4096 0 → IsKept ks ss counts
    first_fits counts none =
        subst (λ ss. IsKept ks ss counts) (sym letters)
        (subst (λ counts. IsKept ks [] counts) (sym none) (first_kept (replicate 4096 0) (length-replicate {A = ℕ} 4096 0) (get_or-replicate 4096)))

    -- the world that is kept in them
    pub first_is : (h : List Event) (ms : List Mark) → h ≡ [] → ms ≡ [] → world_of ks ss h ms ≡ first_world s founders
    unfolding first_world
    first_is h ms history marks = λ i. record {
      nodes = states i;
      letters = whole_letters ks (letters i);
      history = history i;
      marks = marks i;
    }
