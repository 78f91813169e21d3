-- A list of steps gives a world at each moment
use Rattle.std.proofs.Common.{◌≡◌, ℕ, zero, suc, ◌⊎◌, List, [], ◌∷◌, length, take, Option, Some, None, slice_get, refl, ap, inl, inr}
use Rattle.rambo_names.specs.declared.refusal.Refusal.{Refusal}
use Rattle.rambo_names.specs.Quorums.{QuorumSystem}
use Rattle.rambo_node.specs.Steps.{Step}
use Rattle.rambo_run.specs.Worlds.{WorldState, first_world}
use Rattle.rambo_run.specs.Steps.{refusal, turn}
use Rattle.rambo_run.specs.Runs.{unless_refused, after, run_from, run}
use Rattle.rambo_run.proofs.Sights.{Worlds}

-- a step that is refused changes nothing, and another one takes its turn
abbrev pub OneStep : {Q : Type 0} → QuorumSystem Q → Option (Step Q) → WorldState Q → WorldState Q → Type 0
OneStep {Q = Q} s o w z = (z ≡ w) ⊎ ((st : Step Q) × (refusal s w st ≡ None) × (z ≡ (turn w st).world) × (o ≡ Some st))

module _ {Q : Type 0} (s : QuorumSystem Q) where
  after_cases : (w : WorldState Q) (st : Step Q) (o : Option Refusal) → refusal s w st ≡ o → OneStep s (Some st) w (after s w st)
  unfolding after
  after_cases w st None e = inr (st, e, ap (λ o. unless_refused o w (turn w st).world) e, refl)
  after_cases w st (Some r) e = inl (ap (λ o. unless_refused o w (turn w st).world) e)

  pub run_next : (ss : List (Step Q)) (w : WorldState Q) (m : ℕ) → OneStep s (slice_get ss m) (run_from s w (take m ss)) (run_from s w (take (suc m) ss))
  unfolding run_from
  run_next [] w zero = inl refl
  run_next [] w (suc m) = inl refl
  run_next (st ∷ ss) w zero = after_cases w st (refusal s w st) refl
  run_next (st ∷ ss) w (suc m) = run_next ss (after s w st) m

  -- the world after the first m steps
  abbrev pub moment : Q → List (Step Q) → ℕ → WorldState Q
  moment founders ss m = run s founders (take m ss)

  unfoldable pub worlds : (founders : Q) (ss : List (Step Q)) → Worlds s founders (moment founders ss)
  unfolding run run_from
  worlds founders ss = record { first = refl; steps = slice_get ss; next = run_next ss (first_world s founders) }

pub take_all : {A : Type 0} (xs : List A) → take (length xs) xs ≡ xs
take_all [] = refl
take_all (x ∷ xs) = ap (λ r. x ∷ r) (take_all xs)

-- the last moment is the whole run
pub last_moment : {Q : Type 0} (s : QuorumSystem Q) (founders : Q) (ss : List (Step Q)) → moment s founders ss (length ss) ≡ run s founders ss
last_moment s founders ss = ap (run s founders) (take_all ss)
