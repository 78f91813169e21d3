-- Nodes with their logs, and what a change of one of them makes of the list
use Rattle.std.proofs.Common.{◌≡◌, ℕ, zero, suc, ◌-◌, ◌≤◌, ◌<◌, List, [], ◌∷◌, length, get_or, Some, slice_get, slice_set, refl, sym, ap, ◌∙◌, subst, arith}
use Rattle.std.specs.Prelude.{slice_index_or}
use Rattle.std.proofs.lemmas.Bool.{false≢true}
use Rattle.std.proofs.lemmas.Option.{slice_get_read, get_or_from_slice_get}
use Rattle.std.specs.Option.{is_some}
use Rattle.rambo_tag.specs.declared.keyed_version.KeyedVersion.{KeyedVersion}
use Rattle.rambo_tag.specs.Copies.{joined}
use Rattle.rambo_tag.specs.Logs.{greatest_of}
use Rattle.rambo_gossip.specs.Letters.{LetterState}
use Rattle.rambo_logs.specs.NodeLogs.{part, lacked}
use Rattle.rambo_node.specs.Nodes.{NodeState, RoomyNode}
use Rattle.rambo_world.specs.Kept.{KeptNode, kept_of, kept_at, log_in, log_at, brought, states_of, logs_of, node_states, state_at, moved, with_node, SameBarRoom, Grows, AllGrow}
use Rattle.rambo_letters.proofs.Lists.{some_is}
use Rattle.rambo_world.proofs.Growth.{put, kept_here, state_here, unchanged, grow}

-- a node with its log
abbrev pub with_log : {Q : Type 0} → RoomyNode Q → List KeyedVersion → KeptNode Q
with_log x l = record { node = x; log = l }

-- the nodes alone
pub states_of-kept : {Q : Type 0} (xs : List (RoomyNode Q)) (ls : List (List KeyedVersion)) → states_of (kept_of xs ls) ≡ node_states xs
states_of-kept [] ls = refl
states_of-kept (x ∷ xs) [] = ap (λ zs. x.state ∷ zs) (states_of-kept xs [])
states_of-kept (x ∷ xs) (l ∷ ls) = ap (λ zs. x.state ∷ zs) (states_of-kept xs ls)

-- the logs alone
pub logs_of-kept : {Q : Type 0} (xs : List (RoomyNode Q)) (ls : List (List KeyedVersion)) → length xs ≡ length ls → logs_of (kept_of xs ls) ≡ ls
logs_of-kept [] [] same = refl
logs_of-kept [] (l ∷ ls) same = absurd (omega (arith, same))
logs_of-kept (x ∷ xs) [] same = absurd (omega (arith, same))
logs_of-kept (x ∷ xs) (l ∷ ls) same = ap (λ zs. l ∷ zs) (logs_of-kept xs ls (omega (arith, same)))

pub length-kept : {Q : Type 0} (xs : List (RoomyNode Q)) (ls : List (List KeyedVersion)) → length (kept_of xs ls) ≡ length xs
length-kept [] ls = refl
length-kept (x ∷ xs) [] = ap suc (length-kept xs [])
length-kept (x ∷ xs) (l ∷ ls) = ap suc (length-kept xs ls)

-- the node of a place, with its log
pub kept_of-at : {Q : Type 0} (xs : List (RoomyNode Q)) (ls : List (List KeyedVersion)) (place : ℕ) (x : RoomyNode Q)
    → slice_get xs place ≡ Some x → slice_get (kept_of xs ls) place ≡ Some (with_log x (slice_index_or ls place []))
kept_of-at [] ls place x e = absurd (false≢true (ap is_some e))
kept_of-at (y ∷ ys) [] zero x e = ap (λ z. Some (with_log z [])) (some_is y x e)
kept_of-at (y ∷ ys) [] (suc place) x e = kept_of-at ys [] place x e
kept_of-at (y ∷ ys) (l ∷ ls) zero x e = ap (λ z. Some (with_log z l)) (some_is y x e)
kept_of-at (y ∷ ys) (l ∷ ls) (suc place) x e = kept_of-at ys ls place x e

-- the log of a name
log_is-at : {Q : Type 0} (xs : List (RoomyNode Q)) (ls : List (List KeyedVersion)) → length xs ≡ length ls → (i : ℕ) → log_in (slice_get (kept_of xs ls) i) ≡ slice_index_or ls i []
log_is-at [] [] same i = refl
log_is-at [] (l ∷ ls) same i = absurd (omega (arith, same))
log_is-at (x ∷ xs) [] same i = absurd (omega (arith, same))
log_is-at (x ∷ xs) (l ∷ ls) same zero = refl
log_is-at (x ∷ xs) (l ∷ ls) same (suc i) = log_is-at xs ls (omega (arith, same)) i

pub log_is : {Q : Type 0} (xs : List (RoomyNode Q)) (ls : List (List KeyedVersion)) → length xs ≡ length ls → (name : ℕ) → log_at (kept_of xs ls) name ≡ slice_index_or ls (name - 1) []
log_is xs ls same name = log_is-at xs ls same (name - 1)

-- what is brought, by the logs
module _ {Q : Type 0} (xs : List (RoomyNode Q)) (ls : List (List KeyedVersion)) (same : length xs ≡ length ls) (l : LetterState Q) (start end : ℕ) where
  abbrev own : List KeyedVersion
  own = slice_index_or ls (l.addressee - 1) []

  abbrev told : List KeyedVersion
  told = slice_index_or ls (l.sender - 1) []

  pub brought_is : brought (kept_of xs ls) l start end ≡ greatest_of (lacked (greatest_of own) (part told start end))
  brought_is = λ i. greatest_of (lacked (greatest_of (log_is xs ls same l.addressee i)) (part (log_is xs ls same l.sender i) start end))

  pub enough_brought : joined (greatest_of own) (greatest_of (lacked (greatest_of own) (part told start end))) ≡ joined (greatest_of own) (greatest_of (part told start end))
      → joined (greatest_of (log_at (kept_of xs ls) l.addressee)) (brought (kept_of xs ls) l start end) ≡ joined (greatest_of (log_at (kept_of xs ls) l.addressee)) (greatest_of (part (log_at (kept_of xs ls) l.sender) start end))
  enough_brought e =
      (λ i. joined (greatest_of (log_is xs ls same l.addressee i)) (brought_is i)) ∙ e
      ∙ sym (λ i. joined (greatest_of (log_is xs ls same l.addressee i)) (greatest_of (part (log_is xs ls same l.sender i) start end)))

-- another node there, with the same log
kept_of-set : {Q : Type 0} (xs : List (RoomyNode Q)) (ls : List (List KeyedVersion)) (place : ℕ) (y : RoomyNode Q)
    → kept_of (slice_set xs place y) ls ≡ slice_set (kept_of xs ls) place (with_log y (slice_index_or ls place []))
kept_of-set [] ls place y = refl
kept_of-set (x ∷ xs) [] zero y = refl
kept_of-set (x ∷ xs) [] (suc place) y = ap (λ zs. with_log x [] ∷ zs) (kept_of-set xs [] place y)
kept_of-set (x ∷ xs) (l ∷ ls) zero y = refl
kept_of-set (x ∷ xs) (l ∷ ls) (suc place) y = ap (λ zs. with_log x l ∷ zs) (kept_of-set xs ls place y)

-- and with another log
kept_of-both : {Q : Type 0} (xs : List (RoomyNode Q)) (ls : List (List KeyedVersion)) (place : ℕ) (y : RoomyNode Q) (m : List KeyedVersion) → place < length ls
    → kept_of (slice_set xs place y) (slice_set ls place m) ≡ slice_set (kept_of xs ls) place (with_log y m)
kept_of-both [] ls place y m below = refl
kept_of-both (x ∷ xs) [] place y m below = absurd (omega (arith, below))
kept_of-both (x ∷ xs) (l ∷ ls) zero y m below = refl
kept_of-both (x ∷ xs) (l ∷ ls) (suc place) y m below = ap (λ zs. with_log x l ∷ zs) (kept_of-both xs ls place y m (omega (arith, below)))

-- the node of a name changes
module _ {Q : Type 0} (xs : List (RoomyNode Q)) (ls : List (List KeyedVersion)) (place name : ℕ) (x y : RoomyNode Q)
    (at : place ≡ name - 1) (named : 1 ≤ name) (below : place < length xs) (is : x ≡ get_or xs place x) where
  abbrev ks : List (KeptNode Q)
  ks = kept_of xs ls

  abbrev log : List KeyedVersion
  log = slice_index_or ls place []

  there : slice_get ks place ≡ Some (with_log x log)
  there = kept_of-at xs ls place x (slice_get_read xs (length xs) place x refl below is)

  kept_is : with_log x log ≡ get_or ks place (with_log x log)
  kept_is = sym (get_or_from_slice_get ks place (with_log x log) (with_log x log) there)

  kept_below : place < length ks
  kept_below = subst (λ n. place < n) (sym (length-kept xs ls)) below

  pub node_here : state_at ks name ≡ Some x.state
  node_here = state_here ks place name (with_log x log) (with_log x log) at named kept_below kept_is

  pub log_here : kept_at ks name ≡ Some (with_log x (slice_index_or ls (name - 1) []))
  log_here = kept_here ks place name (with_log x log) (with_log x log) at named kept_below kept_is ∙ ap (λ p. Some (with_log x (slice_index_or ls p []))) at

  -- whatever becomes of the logs, the nodes are those with this one changed
  pub put_node : (ms : List (List KeyedVersion)) (f : NodeState Q → NodeState Q) → y.state ≡ f x.state → states_of (kept_of (slice_set xs place y) ms) ≡ moved ks name f
  put_node ms f e =
      states_of-kept (slice_set xs place y) ms ∙ sym (states_of-kept (slice_set xs place y) ls) ∙ ap states_of (kept_of-set xs ls place y)
      ∙ put ks place name (with_log x log) (with_log y log) at named kept_below kept_is f e

  pub node_unchanged : (ms : List (List KeyedVersion)) → y.state ≡ x.state → ms ≡ ls → SameBarRoom ks (kept_of (slice_set xs place y) ms)
  node_unchanged ms e logs =
      subst (λ ms. SameBarRoom ks (kept_of (slice_set xs place y) ms)) (sym logs)
      (subst (SameBarRoom ks) (sym (kept_of-set xs ls place y)) (unchanged ks place name (with_log x log) (with_log y log) at named kept_below kept_is e refl))

  -- the node that is put keeps its log
  pub kept_with : length xs ≡ length ls → kept_of (slice_set xs place y) ls ≡ with_node ks name y
  kept_with same = kept_of-set xs ls place y ∙ λ i. slice_set ks (at i) (with_log y ((ap (λ p. slice_index_or ls p []) at ∙ sym (log_is xs ls same name)) i))

  -- a node that takes on copies, with these at the end of its log
  pub log_grows : (m : List KeyedVersion) → name - 1 < length ls → Grows (with_log x (slice_index_or ls (name - 1) [])) (with_log y m) → AllGrow ks (kept_of (slice_set xs place y) (slice_set ls (name - 1) m))
  log_grows m within grows =
      subst (λ p. AllGrow ks (kept_of (slice_set xs place y) (slice_set ls p m))) at
      (subst (AllGrow ks) (sym (kept_of-both xs ls place y m (subst (λ p. p < length ls) (sym at) within)))
      (grow ks place name (with_log x log) (with_log y m) at named kept_below kept_is (subst (λ p. Grows (with_log x (slice_index_or ls p [])) (with_log y m)) (sym at) grows)))
