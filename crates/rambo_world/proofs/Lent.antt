-- The node of a name, put as it was left where it was lent
use Rattle.std.proofs.Common.{◌≡◌, ℕ, ◌-◌, ◌≤◌, ◌<◌, List, [], length, append-nil, get_or, Some, refl, sym, ◌∙◌}
use Rattle.std.proofs.lemmas.Option.{slice_get_within, get_or_from_slice_get}
use Rattle.rambo_node.specs.Nodes.{NodeState, RoomyNode}
use Rattle.rambo_world.specs.Kept.{KeptNode, states_of, kept_at, state_at, log_at, moved, with_node, SameBarRoom, AllGrow}
use Rattle.rambo_world.proofs.Growth.{state_here, put, put_here, unchanged, grow}
use Rattle.rambo_world.proofs.Zipping.{with_log}

module _ {Q : Type 0} (ks : List (KeptNode Q)) (name : ℕ) (x y : RoomyNode Q) (there : kept_at ks name ≡ Some (with_log x (log_at ks name))) (named : 1 ≤ name) where
  abbrev old : KeptNode Q
  old = with_log x (log_at ks name)

  abbrev new : KeptNode Q
  new = with_log y (log_at ks name)

  below : name - 1 < length ks
  below = slice_get_within ks (name - 1) old there

  is : old ≡ get_or ks (name - 1) old
  is = sym (get_or_from_slice_get ks (name - 1) old old there)

  pub lent_state : state_at ks name ≡ Some x.state
  lent_state = state_here ks (name - 1) name old old refl named below is

  pub lent_back : kept_at (with_node ks name y) name ≡ Some (with_log y (log_at ks name))
  lent_back = put_here ks (name - 1) name old new refl named below is

  pub lent_moved : (f : NodeState Q → NodeState Q) → y.state ≡ f x.state → states_of (with_node ks name y) ≡ moved ks name f
  lent_moved f e = put ks (name - 1) name old new refl named below is f e

  pub lent_same : y.state ≡ x.state → SameBarRoom ks (with_node ks name y)
  lent_same e = unchanged ks (name - 1) name old new refl named below is e refl

  pub lent_grows : y.state.name ≡ x.state.name → y.state.registers ≡ x.state.registers → AllGrow ks (with_node ks name y)
  lent_grows name_stays copies_stay = grow ks (name - 1) name old new refl named below is (record {
    name = name_stays;
    extends = ([], sym (append-nil (log_at ks name)));
    recorded = λ before. copies_stay ∙ before;
  })
