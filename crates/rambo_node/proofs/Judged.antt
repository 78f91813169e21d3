-- What follows where a judge found no cause of refusal
use Rattle.std.proofs.Common.{◌≡◌, ℕ, zero, suc, ◌^◌, ◌-◌, ◌+◌, ◌≢◌, ◌<◌, ◌≤◌, min, Bool, true, false, not, ◌&&◌, ◌||◌, nat_le, nat_lt, length, is_none, if◌then◌else◌, List, [], ◌∷◌, Option, None, Some, Fits, w64, All, refl, sym, ap, ◌∙◌, subst, arith}
use Rattle.std.proofs.lemmas.Bool.{eq-eqb, true≢false}
use Rattle.std.proofs.lemmas.Option.{none-some, same_Some}
use Rattle.std.proofs.lemmas.List.Elements.{All-nil, All-cons}
use Rattle.rambo_names.specs.declared.refusal.Refusal.{Refusal}
use Rattle.rambo_names.specs.declared.refusal.Refusal.TheVariants.{NotActive, Stopped, NoSuchCall, NotYet, NumbersSpent}
use Rattle.rambo_names.specs.Quorums.{QuorumSystem}
use Rattle.rambo_names.specs.Refusals.{Cause, cause, least, number_of}
use Rattle.rambo_history.specs.declared.event.CallId.{CallId}
use Rattle.rambo_history.specs.declared.operation.Op.{Op}
use Rattle.rambo_config_map.specs.Maps.{MapState, active_at, end_of, top_of}
use Rattle.rambo_gc.specs.declared.stage.Stage.{Stage}
use Rattle.rambo_gc.specs.declared.gc_move.GcMove.{GcMove}
use Rattle.rambo_gc.specs.declared.gc_move.GcMove.TheVariants.{Propagating, Done}
use Rattle.rambo_gc.specs.Collections.{CollectionState, has_quorum, is_met, move_of, next_move}
use Rattle.rambo_joiner.specs.Statuses.{is_early, is_stopped}
use Rattle.rambo_gossip.specs.Kinds.{Kind}
use Rattle.rambo_paxos.specs.Attempts.{AttemptState}
use Rattle.rambo_paxos.specs.Votes.{is_spent}
use Rattle.rambo_node.specs.Claims.{RisesFrom, FirstIsLeast}
use Rattle.rambo_node.specs.Nodes.{NodeState, open_call}
use Rattle.rambo_calls.specs.Calls.{query_in, is_missing, is_unmet}
use Rattle.rambo_node.specs.Refusals.{is_last, call_causes, hear_causes, advance_causes, again_causes, collect_causes, advance_collect_causes, recon_causes, rebid_causes, advance_recon_causes, collection_turn, needs_number, query_spent, tags_spent, restarts}
use Rattle.rambo_bids.specs.Wishes.{is_for, attempt_waits}
use Rattle.rambo_node.specs.Reconfigurations.{collection_move}

passed : (holds : Bool) (r : Refusal) (rest : Option Refusal) → (if holds then Some r else rest) ≡ None → (holds ≡ false) × (rest ≡ None)
passed true r rest e = absurd (none-some r (sym e))
passed false r rest e = (refl, e)

abbrev holds_at : ℕ → List Cause → Bool
holds_at n [] = false
holds_at zero (c ∷ cs) = c.holds
holds_at (suc n) (c ∷ cs) = holds_at n cs

-- no cause holds
none_holds : (cs : List Cause) (n : ℕ) → least cs ≡ None → holds_at n cs ≡ false
none_holds [] n e = refl
none_holds (c ∷ cs) zero e = (passed c.holds c.refusal (least cs) e).0
none_holds (c ∷ cs) (suc n) e = none_holds cs n (passed c.holds c.refusal (least cs) e).1

-- a counter that isn't the last one has a next
pub has_next : (n : ℕ) → Fits w64 n → is_last n ≡ false → Fits w64 (n + 1)
has_next n fits e =
    let other : n ≢ 2 ^ 64 - 1 = λ last. true≢false (sym (eq-eqb n (2 ^ 64 - 1) last) ∙ e) in
    omega (arith, fits, other)

-- as its range tells
pub next_small : (n : ℕ) → n < 2 ^ 64 → is_last n ≡ false → Fits w64 (n + 1)
next_small n small e = has_next n (omega (arith, small)) e

-- and no greatest number stops it
pub next_of : (n r : ℕ) → is_last n ≡ false → Fits w64 n → r ≡ min (n + 1) (2 ^ 64 - 1) → r ≡ n + 1
next_of n r next fits is = let more = has_next n fits next in omega (arith, is, more)

-- nor the number after a letter that leaves a gap
pub gap_next : (gap : Bool) (n : ℕ) → (gap && is_last n) ≡ false → gap ≡ true → Fits w64 n → Fits w64 (n + 1)
gap_next true n next is fits = has_next n fits next
gap_next false n next is fits = absurd (true≢false (sym is))

-- where two causes don't hold, the least one is of those behind them
pub least_behind : (a b : Bool) (p q : Refusal) (cs : List Cause) → a ≡ false → b ≡ false → least (cause p a ∷ cause q b ∷ cs) ≡ least cs
least_behind a b p q cs none neither = ap (λ x. if x then Some p else (if b then Some q else least cs)) none ∙ ap (λ x. if x then Some q else least cs) neither

pub neither : (a b : Bool) → (a || b) ≡ false → (a ≡ false) × (b ≡ false)
neither true b e = absurd (true≢false e)
neither false b e = (refl, e)

not_false : (b : Bool) → not b ≡ false → b ≡ true
not_false true e = refl
not_false false e = absurd (true≢false e)

turned : (removed met : Bool) (st : Stage) (v : GcMove) → (if removed then Some Done else (if met then Some (next_move st) else None)) ≡ Some v
    → (if removed then Done else next_move st) ≡ v
turned true met st v e = same_Some Done v e
turned false true st v e = same_Some (next_move st) v e
turned false false st v e = absurd (none-some v e)

-- what the advance of a collection does
pub same_move : {Q : Type 0} (s : QuorumSystem Q) (m : MapState Q) (g : CollectionState) (v : GcMove) → move_of s m g ≡ Some v → collection_move m g ≡ v
same_move s m g v e = turned (nat_lt g.place m.floor) (is_met s m g) g.stage v e

module _ {Q : Type 0} (x : NodeState Q) where
  pub call_next : (o : Op) → least (call_causes x o) ≡ None → (is_last x.number ≡ false) × (is_last x.made ≡ false)
  call_next o e = (none_holds (call_causes x o) 5 e, none_holds (call_causes x o) 6 e)

  pub again_next : (id : CallId) → least (again_causes x id) ≡ None → (is_missing (open_call x id) ≡ false) × (is_last x.number ≡ false)
  again_next id e = (none_holds (again_causes x id) 2 e, none_holds (again_causes x id) 3 e)

  pub collect_next : least (collect_causes x) ≡ None → (nat_le (length x.map.configs) 1 ≡ false) × (is_last x.number ≡ false)
  collect_next e = (none_holds (collect_causes x) 2 e, none_holds (collect_causes x) 4 e)

  pub turn_open : (s : QuorumSystem Q) → least (advance_collect_causes s x) ≡ None → is_none x.collection ≡ false
  turn_open s e = none_holds (advance_collect_causes s x) 3 e

  -- a collection that isn't refused has a turn, and a number for it
  pub turn_there : (s : QuorumSystem Q) (g : CollectionState) → least (advance_collect_causes s x) ≡ None → x.collection ≡ Some g → move_of s x.map g ≡ None → ⊥
  turn_there s g e held none =
      true≢false (sym (ap (λ o. not (is_none o) && is_none (collection_turn s x o)) held ∙ ap is_none none) ∙ none_holds (advance_collect_causes s x) 2 e)

  pub turn_next : (s : QuorumSystem Q) (g : CollectionState) → least (advance_collect_causes s x) ≡ None → x.collection ≡ Some g → move_of s x.map g ≡ Some Propagating → is_last x.number ≡ false
  turn_next s g e held met =
      sym (ap (λ o. needs_number (collection_turn s x o) && is_last x.number) held ∙ ap (λ t. needs_number t && is_last x.number) met)
      ∙ none_holds (advance_collect_causes s x) 4 e

  pub recon_next : (s : QuorumSystem Q) (wish : Q) → least (recon_causes s x wish) ≡ None
      → (nat_le 8 (length x.map.configs) ≡ false) × (is_spent x.vote ≡ false) × (is_last (top_of x.map) ≡ false)
  recon_next s wish e = (none_holds (recon_causes s x wish) 4 e, none_holds (recon_causes s x wish) 7 e, none_holds (recon_causes s x wish) 8 e)

  pub rebid_next : least (rebid_causes x) ≡ None → (not (is_for (end_of x.map) x.attempt) ≡ false) × (is_spent x.vote ≡ false)
  rebid_next e = (none_holds (rebid_causes x) 2 e, none_holds (rebid_causes x) 3 e)

  pub bid_next : (s : QuorumSystem Q) → least (advance_recon_causes s x) ≡ None → (attempt_waits s x.map x.attempt ≡ false) × (is_none x.attempt ≡ false)
  bid_next s e = (none_holds (advance_recon_causes s x) 2 e, none_holds (advance_recon_causes s x) 3 e)

  -- an attempt for an unknown place that isn't refused has its quorum
  pub bid_met : (s : QuorumSystem Q) (a : AttemptState Q) → least (advance_recon_causes s x) ≡ None → x.attempt ≡ Some a → nat_lt a.place (end_of x.map) ≡ false
      → has_quorum s (active_at x.map (top_of x.map)) a.repliers ≡ true
  bid_met s a e held unknown =
      not_false _ (sym (ap (attempt_waits s x.map) held ∙ ap (λ b. not b && not (has_quorum s (active_at x.map (top_of x.map)) a.repliers)) unknown) ∙ (bid_next s e).0)

  pub hear_next : (k : Kind Q) → least (hear_causes x k) ≡ None → (restarts x k && is_last x.number) ≡ false
  hear_next k e = none_holds (hear_causes x k) 2 e

  pub advance_next : (s : QuorumSystem Q) (id : CallId) → least (advance_causes s x id) ≡ None → (is_missing (open_call x id) ≡ false) × (query_spent x (query_in (open_call x id)) ≡ false)
  advance_next s id e = (none_holds (advance_causes s x id) 2 e, none_holds (advance_causes s x id) 4 e)

  -- where no cause holds, a call may go on
  pub advance_passes : (s : QuorumSystem Q) (id : CallId) → is_early x.status ≡ false → is_stopped x.status ≡ false → is_missing (open_call x id) ≡ false
      → is_unmet s (open_call x id) ≡ false → query_spent x (query_in (open_call x id)) ≡ false → least (advance_causes s x id) ≡ None
  advance_passes s id early over missing unmet spent = λ i. least (
      cause NotActive (early i) ∷ cause Stopped (over i) ∷ cause NoSuchCall (missing i) ∷ cause NotYet (unmet i) ∷ cause NumbersSpent (spent i) ∷ []
      )

  -- an answered query that can go on has a next number, and a set a next tag
  pub asked_next : (o : Op) → query_spent x (Some o) ≡ false → (is_last x.number ≡ false) × (tags_spent x o ≡ false)
  asked_next o h = neither (is_last x.number) (tags_spent x o) h

-- a cause that holds has at least this number
abbrev HoldsFrom : ℕ → Cause → Type 0
HoldsFrom m c = c.holds ≡ true → m ≤ number_of c.refusal

all_from : (m n : ℕ) (cs : List Cause) → m ≤ n → RisesFrom n cs → All (HoldsFrom m) cs
all_from m n [] le rises = All-nil (HoldsFrom m)
all_from m n (c ∷ cs) le rises =
    let first = rises.0 in
    let here : m ≤ number_of c.refusal = omega (arith, le, first) in
    All-cons (HoldsFrom m) c cs (λ _. here) (all_from m (number_of c.refusal) cs here rises.1)

first_from : (n : ℕ) (cs : List Cause) (r : Refusal) → RisesFrom n cs → least cs ≡ Some r → All (HoldsFrom (number_of r)) cs
first_from n [] r rises e = absurd (none-some r e)
first_from n (c ∷ cs) r rises e = elim c.holds as (λ b. c.holds ≡ b → (if b then Some c.refusal else least cs) ≡ Some r → All (HoldsFrom (number_of r)) (c ∷ cs)) [
  | true ↦ λ _ told.
      let itself : number_of c.refusal ≤ number_of c.refusal = omega arith in
      subst (λ q. All (HoldsFrom (number_of q)) (c ∷ cs)) (same_Some c.refusal r told)
      (All-cons (HoldsFrom (number_of c.refusal)) c cs (λ _. itself) (all_from (number_of c.refusal) (number_of c.refusal) cs itself rises.1))
  | false ↦ λ not told. All-cons (HoldsFrom (number_of r)) c cs (λ holds. absurd (true≢false (sym holds ∙ not))) (first_from (number_of c.refusal) cs r rises.1 told)
] refl e

pub first_is_least : FirstIsLeast
first_is_least cs r rises e = first_from 0 cs r rises e
