-- What a book that is lent says of what happened under its lock
use Rattle.std.proofs.Common.{◌≡◌, ◌⊎◌, inl, inr, ⊎_elim, ℕ, ◌≤◌, ◌<◌, List, [], ◌∷◌, ◌++◌, All, length, Option, None, Some, Result, Ok, Err, OnOk, IfOk, IfErr, refl, sym, ◌∙◌, subst, arith}
use Rattle.std.proofs.lemmas.List.{length-append}
use mathlib.Core.List.{IsPrefix}
use Rattle.rambo_names.specs.declared.refusal.Refusal.{Refusal}
use Rattle.rambo_names.specs.declared.refusal.Refusal.TheVariants.{OutOfMemory, HistoryFull}
use Rattle.rambo_names.specs.Quorums.{QuorumSystem}
use Rattle.rambo_config_map.specs.Maps.{MapState}
use Rattle.rambo_node.specs.declared.effect.Effect.{Effect}
use Rattle.rambo_node.specs.declared.effect.Effect.TheVariants as effect
use Rattle.rambo_node.specs.Steps.{Step}
use Rattle.rambo_run.specs.Legal.{IsLegal}
use Rattle.rambo_run.specs.Runs.{run}
use Rattle.rambo_run.specs.Steps.{refusal, turn}
use Rattle.rambo_run.specs.Worlds.{node_at}
use Rattle.rambo_run.proofs.Legal.{legal-more}
use Rattle.rambo_run.proofs.Lists.{some_inj}
use Rattle.rambo_book.specs.Kept.{BookView, KeeperView, IsMailOf, Told, state}
use Rattle.rambo_turn.specs.Turns.{IsNext, next_of}
use Rattle.rambo_turn.specs.declared.turn.Turn.{Turn}
use Rattle.rambo_turn.specs.declared.turn.Turn.TheVariants as turned
use Rattle.rambo_visit.specs.Happened.{Happened, HasMap, HasNoRoom, HasTurned, IsHeldUp, IsLast, IsTurn}

-- a book of these founders, of which none of the steps was refused
module _ {Q : Type 0} (s : QuorumSystem Q) (agreed : Option Q) (most : ℕ) (b : BookView Q) (founded : agreed ≡ Some b.founders) (terms : b.capacity ≡ most) (legal : IsLegal s b.founders b.steps) where
  -- what holds of its founders holds of those that were agreed
  of_founders : (P : Q → Type 0) → P b.founders → (f : Q) → agreed ≡ Some f → P f
  of_founders P h f is = subst P (some_inj b.founders f (sym founded ∙ is)) h

  -- a step more
  last : (st : Step Q) (IsSo : List (Step Q) → Type 0) → refusal s (state s b) st ≡ None → length b.steps < b.capacity → IsSo (b.steps ++ st ∷ []) → Happened s b.founders most IsSo
  last st IsSo accepted room so = record {
    steps = b.steps ++ st ∷ [];
    legal = legal-more s b.founders b.steps st legal accepted;
    fits = omega (arith, room, terms, length-append b.steps (st ∷ []));
    so = so;
  }

  pub sent_so : (r : Result ℕ Refusal) (st : Step Q) → OnOk r (refusal s (state s b) st ≡ None) → OnOk r (length b.steps < b.capacity) → IfOk r (λ n. effect.Sent n ≡ (turn (state s b) st).effect)
      → IfOk r (λ n. (f : Q) → agreed ≡ Some f → Happened s f most (IsLast s f st (effect.Sent n)))
  sent_so (Ok n) st accepted room told =
      of_founders (λ f. Happened s f most (IsLast s f st (effect.Sent n)))
      (last st (IsLast s b.founders st (effect.Sent n)) accepted room (record { before = b.steps; all = refl; accepted = accepted; told = told }))
  sent_so (Err r) st accepted room told = tt

  pub unsent_so : {A : Type 0} (r : Result A Refusal) (st : Step Q) → length b.steps ≤ b.capacity → IfErr r (Told (refusal s (state s b) st) (length b.steps) b.capacity)
      → IfErr r (λ r. (f : Q) → agreed ≡ Some f → Happened s f most (λ l. Told (refusal s (run s f l) st) (length l) most r))
  unsent_so (Ok a) st fits told = tt
  unsent_so (Err r) st fits told =
      of_founders (λ f. Happened s f most (λ l. Told (refusal s (run s f l) st) (length l) most r))
      (record { steps = b.steps; legal = legal; fits = omega (arith, fits, terms); so = subst (λ n. Told (refusal s (state s b) st) (length b.steps) n r) terms told })

  -- a step that was done
  pub done_so : (r : Result (Effect Q) Refusal) (st : Step Q) → refusal s (state s b) st ≡ None → OnOk r (length b.steps < b.capacity) → IfOk r (λ e. e ≡ (turn (state s b) st).effect)
      → IfOk r (λ e. (f : Q) → agreed ≡ Some f → Happened s f most (IsLast s f st e))
  done_so (Ok e) st accepted room told =
      of_founders (λ f. Happened s f most (IsLast s f st e))
      (last st (IsLast s b.founders st e) accepted room (record { before = b.steps; all = refl; accepted = accepted; told = told }))
  done_so (Err r) st accepted room told = tt

  -- it is full, or memory is out
  pub no_room : (r : Refusal) → Told None (length b.steps) b.capacity r → HasNoRoom s agreed most r
  no_room r told =
      ⊎_elim
      (λ (full : (r ≡ HistoryFull) × (length b.steps ≡ b.capacity)).
      inr (full.0, of_founders (λ f. Happened s f most (λ steps. length steps ≡ most)) (record { steps = b.steps; legal = legal; fits = omega (arith, full.1, terms); so = full.1 ∙ terms })))
      (λ (short : (r ≡ OutOfMemory) × (length b.steps < b.capacity)). inl short.0)
      told

  pub no_room_so : {A : Type 0} (r : Result A Refusal) → IfErr r (Told None (length b.steps) b.capacity) → IfErr r (HasNoRoom s agreed most)
  no_room_so (Ok a) told = tt
  no_room_so (Err r) told = no_room r told

  -- it is full, and there was something to do
  pub held : (name : ℕ) (r : Refusal) → Told None (length b.steps) b.capacity r → ((f : Q) → agreed ≡ Some f → Happened s f most (λ seen. (st : Step Q) × IsNext s f name (Some st) seen))
      → (r ≡ OutOfMemory) ⊎ ((r ≡ HistoryFull) × ((f : Q) → agreed ≡ Some f → IsHeldUp s f most name))
  held name r told something =
      ⊎_elim
      (λ (full : (r ≡ HistoryFull) × (length b.steps ≡ b.capacity)).
      inr (
        full.0,
        λ f is. (of_founders (λ f. Happened s f most (λ steps. length steps ≡ most)) (record { steps = b.steps; legal = legal; fits = omega (arith, full.1, terms); so = full.1 ∙ terms }) f is, something f is),
      ))
      (λ (short : (r ≡ OutOfMemory) × (length b.steps < b.capacity)). inl short.0)
      told

  pub held_up : {A : Type 0} (name : ℕ) (r : Result A Refusal) → IfErr r (Told None (length b.steps) b.capacity) → ((f : Q) → agreed ≡ Some f → Happened s f most (λ seen. (st : Step Q) × IsNext s f name (Some st) seen))
      → IfErr r (λ r. (r ≡ OutOfMemory) ⊎ ((r ≡ HistoryFull) × ((f : Q) → agreed ≡ Some f → IsHeldUp s f most name)))
  held_up name (Ok a) told something = tt
  held_up name (Err r) told something = held name r told something

  pub turned_so : (name : ℕ) (r : Result (Turn Q) Refusal) (st : Step Q) (seen : List (Step Q)) → IsPrefix seen b.steps → IfOk r (λ t. t ≡ turned.Did st) → OnOk r (refusal s (state s b) st ≡ None) → OnOk r (length b.steps < b.capacity)
      → IsNext s b.founders name (Some st) seen → IfOk r (λ t. (f : Q) → agreed ≡ Some f → HasTurned s f most name t)
  turned_so name (Ok t) st seen begins did accepted room next =
      of_founders (λ f. HasTurned s f most name t)
      (subst (HasTurned s b.founders most name) (sym did) (last st (IsTurn s b.founders name st) accepted room (record { before = b.steps; all = refl; accepted = accepted; seen = seen; begins = begins; next = next })))
  turned_so name (Err r) st seen begins did accepted room next = tt

-- what a keeper does next its node does by what the keeper has seen
pub next_so : {Q : Type 0} (s : QuorumSystem Q) (f : Q) (name : ℕ) (k : KeeperView Q) (o : Option (Step Q)) → k.name ≡ name → node_at (run s f k.seen) k.name ≡ Some k.node → All (IsMailOf (run s f k.seen) k.name) k.tray
    → o ≡ next_of s f k → IsNext s f name o k.seen
next_so s f name k o named here mail first = record {
  node = k.node;
  here = subst (λ n. node_at (run s f k.seen) n ≡ Some k.node) named here;
  tray = k.tray;
  mail = subst (λ n. All (IsMailOf (run s f k.seen) n) k.tray) named mail;
  first = first;
}

-- what a keeper knows, whatever happened before, of what its node does next
module _ {Q : Type 0} (s : QuorumSystem Q) (agreed : Option Q) (most name : ℕ) (k : KeeperView Q) (named : k.name ≡ name) (legal : (f : Q) → agreed ≡ Some f → IsLegal s f k.seen) (fits : length k.seen ≤ most)
    (here : (f : Q) → agreed ≡ Some f → node_at (run s f k.seen) k.name ≡ Some k.node) (mail : (f : Q) → agreed ≡ Some f → All (IsMailOf (run s f k.seen) k.name) k.tray) where
  pub next_then : (o : Option (Step Q)) → ((f : Q) → agreed ≡ Some f → o ≡ next_of s f k) → (f : Q) → agreed ≡ Some f → Happened s f most (IsNext s f name o)
  next_then o first f is = record { steps = k.seen; legal = legal f is; fits = fits; so = next_so s f name k o named (here f is) (mail f is) (first f is) }

  pub something_then : (st : Step Q) → ((f : Q) → agreed ≡ Some f → Some st ≡ next_of s f k) → (f : Q) → agreed ≡ Some f → Happened s f most (λ seen. (st : Step Q) × IsNext s f name (Some st) seen)
  something_then st first f is = record { steps = k.seen; legal = legal f is; fits = fits; so = (st, next_so s f name k (Some st) named (here f is) (mail f is) (first f is)) }

  pub map_then : (map : MapState Q) → map ≡ k.node.map → (f : Q) → agreed ≡ Some f → Happened s f most (λ l. HasMap (run s f l) name map)
  map_then map e f is = record { steps = k.seen; legal = legal f is; fits = fits; so = (k.node, (subst (λ n. node_at (run s f k.seen) n ≡ Some k.node) named (here f is), sym e)) }
