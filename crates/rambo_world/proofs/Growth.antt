-- Nodes after a step
use Rattle.std.proofs.Common.{◌≡◌, ◌≢◌, ℕ, zero, suc, ◌-◌, ◌≤◌, ◌<◌, List, [], length, append-nil, Option, None, Some, slice_get, slice_set, get_or, refl, sym, ap, ◌∙◌, inl, inr, subst, arith}
use Rattle.std.proofs.lemmas.Bool.{cases_eq, false≢true}
use Rattle.std.proofs.lemmas.Option.{slice_get-map, slice_get_within, slice_get_read, get_or_from_slice_get}
use Rattle.std.proofs.lemmas.List.{map-set, set-get_or, length-map, length-set, get_or-set_same, get_or-set_other}
use Rattle.std.specs.Option.{IsSomeAnd, is_some, option_map}
use Rattle.rambo_tag.specs.declared.keyed_version.KeyedVersion.{KeyedVersion}
use Rattle.rambo_tag.specs.Logs.{greatest_of}
use Rattle.rambo_node.specs.Nodes.{NodeState}
use Rattle.rambo_run.specs.Worlds.{node_at}
use Rattle.rambo_letters.proofs.Lists.{some_is}
use Rattle.rambo_world.specs.Kept.{KeptNode, state_of, states_of, log_of, logs_of, state_at, kept_at, moved, moved_in, Extends, SameBarRoom, Grows, AllGrow}

pub Extends-refl : (log : List KeyedVersion) → Extends log log
Extends-refl log = ([], sym (append-nil log))

-- a node that stays as it is
pub grows_same : {Q : Type 0} (x y : KeptNode Q) → y.node.state ≡ x.node.state → y.log ≡ x.log → Grows x y
grows_same x y state log = record {
  name = ap (λ s. s.name) state;
  extends = subst (Extends x.log) (sym log) (Extends-refl x.log);
  recorded = λ r. ap (λ s. s.registers) state ∙ r ∙ ap greatest_of (sym log);
}

-- the state of a kept node
pub state_at-kept : {Q : Type 0} (ks : List (KeptNode Q)) (name : ℕ) → 1 ≤ name → state_at ks name ≡ option_map state_of (kept_at ks name)
state_at-kept ks zero named = absurd (omega (arith, named))
state_at-kept ks (suc i) named = let same : suc i - 1 ≡ i = omega arith in slice_get-map state_of ks i ∙ ap (λ j. option_map state_of (slice_get ks j)) (sym same)

module _ {Q : Type 0} (ks : List (KeptNode Q)) (place name : ℕ) (x y : KeptNode Q) (at : place ≡ name - 1) (named : 1 ≤ name) (below : place < length ks) (is : x ≡ get_or ks place x) where
  here : slice_get ks place ≡ Some x
  here = slice_get_read ks (length ks) place x refl below is

  pub kept_here : kept_at ks name ≡ Some x
  kept_here = ap (slice_get ks) (sym at) ∙ here

  pub state_here : state_at ks name ≡ Some x.node.state
  state_here = state_at-kept ks name named ∙ ap (option_map state_of) kept_here

  pub put : (f : NodeState Q → NodeState Q) → y.node.state ≡ f x.node.state → states_of (slice_set ks place y) ≡ moved ks name f
  put f e = map-set state_of ks place y ∙ (λ i. slice_set (states_of ks) (at i) (e i)) ∙ sym (ap (λ o. moved_in name o f (states_of ks)) state_here)

  put_back : slice_set ks place x ≡ ks
  put_back = ap (slice_set ks place) is ∙ set-get_or ks place x

  -- put back as it was, but for its room
  pub unchanged : y.node.state ≡ x.node.state → y.log ≡ x.log → SameBarRoom ks (slice_set ks place y)
  unchanged state log = record {
    states = map-set state_of ks place y ∙ ap (slice_set (states_of ks) place) state ∙ sym (map-set state_of ks place x) ∙ ap states_of put_back;
    logs = map-set log_of ks place y ∙ ap (slice_set (logs_of ks) place) log ∙ sym (map-set log_of ks place x) ∙ ap logs_of put_back;
  }

  pub put_here : slice_get (slice_set ks place y) place ≡ Some y
  put_here = slice_get_read (slice_set ks place y) (length ks) place y (sym (length-set ks place y)) below (sym (get_or-set_same ks place y y below))

  put_other : (k : ℕ) (z : KeptNode Q) → k ≢ place → slice_get ks k ≡ Some z → slice_get (slice_set ks place y) k ≡ Some z
  put_other k z other found =
      slice_get_read (slice_set ks place y) (length ks) k z (sym (length-set ks place y)) (slice_get_within ks k z found)
      (sym (get_or-set_other ks place k y z other ∙ get_or_from_slice_get ks k z z found))

  grows_at : Grows x y → (k : ℕ) (z : KeptNode Q) → slice_get ks k ≡ Some z → IsSomeAnd (slice_get (slice_set ks place y) k) (Grows z)
  grows_at grows k z found =
      elim (cases_eq k place) [
        | inl same ↦ subst (λ o. IsSomeAnd o (Grows z)) (sym (ap (slice_get (slice_set ks place y)) same ∙ put_here))
            (subst (λ w. Grows w y) (some_is x z (sym here ∙ ap (slice_get ks) (sym same) ∙ found)) grows)
        | inr other ↦ subst (λ o. IsSomeAnd o (Grows z)) (sym (put_other k z other found)) (grows_same z z refl refl)
      ]

  pub grow : Grows x y → AllGrow ks (slice_set ks place y)
  grow grows = record { count = length-set ks place y; grow = grows_at grows }

-- what stays as it was, but for its room, grows as before
still_grows : {Q : Type 0} (x : KeptNode Q) (o p : Option (KeptNode Q)) → IsSomeAnd o (Grows x) → option_map state_of p ≡ option_map state_of o → option_map log_of p ≡ option_map log_of o → IsSomeAnd p (Grows x)
still_grows x None p grows state log = absurd grows
still_grows x (Some y) None grows state log = absurd (false≢true (ap is_some state))
still_grows x (Some y) (Some z) grows state log =
    let same = some_is z.node.state y.node.state state in
    let logged = some_is z.log y.log log in
    record {
      name = ap (λ s. s.name) same ∙ grows.name;
      extends = subst (Extends x.log) (sym logged) grows.extends;
      recorded = λ r. ap (λ s. s.registers) same ∙ grows.recorded r ∙ ap greatest_of (sym logged);
    }

pub grow_on : {Q : Type 0} (ks mid new : List (KeptNode Q)) → AllGrow ks mid → SameBarRoom mid new → AllGrow ks new
grow_on ks mid new grows same = record {
  count = sym (length-map new state_of) ∙ ap length same.states ∙ length-map mid state_of ∙ grows.count;
  grow = λ place x found. still_grows x (slice_get mid place) (slice_get new place) (grows.grow place x found)
      (sym (slice_get-map state_of new place) ∙ ap (λ l. slice_get l place) same.states ∙ slice_get-map state_of mid place)
      (sym (slice_get-map log_of new place) ∙ ap (λ l. slice_get l place) same.logs ∙ slice_get-map log_of mid place);
}

pub same_grow : {Q : Type 0} (ks new : List (KeptNode Q)) → SameBarRoom ks new → AllGrow ks new
same_grow ks new same =
    grow_on ks ks new (record { count = refl; grow = λ place x found. subst (λ o. IsSomeAnd o (Grows x)) (sym found) (grows_same x x refl refl) }) same

-- a node of a name, where all are as before, but for their room
pub same_state : {Q : Type 0} (ks new : List (KeptNode Q)) (name : ℕ) → SameBarRoom ks new → state_at new name ≡ state_at ks name
same_state ks new name same = ap (λ xs. node_at (record { nodes = xs; letters = []; history = []; marks = [] }) name) same.states

pub same_moved : {Q : Type 0} (ks new : List (KeptNode Q)) (name : ℕ) (f : NodeState Q → NodeState Q) → SameBarRoom ks new → moved new name f ≡ moved ks name f
same_moved ks new name f same = ap (λ xs. moved_in name (node_at (record { nodes = xs; letters = []; history = []; marks = [] }) name) f xs) same.states
