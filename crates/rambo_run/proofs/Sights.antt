-- What is seen of a run of worlds: its nodes, its steps, and who sent which letter when
use Rattle.std.proofs.Common.{◌≡◌, ℕ, suc, ◌+◌, ◌<◌, ◌≤◌, ◌⊎◌, true, length, Option, Some, None, sym, ap}
use Rattle.rambo_names.specs.Quorums.{QuorumSystem}
use Rattle.rambo_joiner.specs.Statuses.{is_active}
use Rattle.rambo_gossip.specs.Letters.{LetterState}
use Rattle.rambo_node.specs.Nodes.{NodeState, first_node}
use Rattle.rambo_node.specs.Letters.{letter_for}
use Rattle.rambo_node.specs.Steps.{Step}
use Rattle.rambo_node.specs.declared.step.StepOf.TheVariants as step
use Rattle.rambo_run.specs.Worlds.{WorldState, node_at, letter_at, first_world}
use Rattle.rambo_run.specs.Steps.{refusal, turn}
use Rattle.rambo_run.proofs.Turn.{Moments}
use Rattle.rambo_run.proofs.Numbers.{Numbered}
use Rattle.rambo_run.proofs.Seen.{Seen, node_or, seen_at, seen, WorldTurn}

-- whole worlds, moment by moment
pub record Worlds {Q : Type 0} (s : QuorumSystem Q) (founders : Q) (world : ℕ → WorldState Q) : Type 0 where
  pub first : world 0 ≡ first_world s founders
  pub steps : ℕ → Option (Step Q)
  pub next : (m : ℕ) → (world (suc m) ≡ world m) ⊎ ((st : Step Q) × (refusal s (world m) st ≡ None) × (world (suc m) ≡ (turn (world m) st).world) × (steps m ≡ Some st))

module _ {Q : Type 0} (s : QuorumSystem Q) (founders : Q) (world : ℕ → WorldState Q) (worlds : Worlds s founders world) where
  abbrev pub at : Moments Q
  at m n = seen_at s founders (world m) n

  abbrev pub view : ℕ → Seen Q
  view m = seen s founders (world m)

  -- this is the step after moment m, and it isn't refused
  abbrev pub Happens : ℕ → Step Q → Type 0
  Happens m st = (worlds.steps m ≡ Some st) × (refusal s (world m) st ≡ None)

  -- letter i of all was sent by node j to node n in the step after moment u
  pub record Sent (i u j n : ℕ) : Type 0 where
    pub number : i ≡ length (world u).letters + 1
    pub happens : Happens u (step.Send j n)
    pub named : (at u j).name ≡ j
    pub there : 1 ≤ j

  -- the letter that active node j sent to node n at moment u comes in the step after moment m
  pub record Came (m n u j : ℕ) : Type 0 where
    pub letter : ℕ
    pub sent : Sent letter u j n
    pub later : u < m
    pub comes : Happens m (step.Deliver letter)
    pub content : letter_at (world m).letters letter ≡ Some (letter_for (at u j) n)
    pub active : is_active (at u j).status ≡ true

  abbrev pub To : ℕ → WorldState Q → Type 0
  To m z = WorldTurn s Came at m (view m) (seen s founders z)

  -- each letter was made by its sender at some moment
  pub record LetterFrom (m i : ℕ) (l : LetterState Q) : Type 0 where
    pub moment : ℕ
    pub before : moment < m
    pub sender : ℕ
    pub addressee : ℕ
    pub sent : Sent i moment sender addressee
    pub content : letter_for (at moment sender) addressee ≡ l

  -- what holds of a moment, from which the step after it is seen
  pub record Sound (m : ℕ) : Type 0 where
    pub letters : (i : ℕ) (l : LetterState Q) → letter_at (world m).letters i ≡ Some l → LetterFrom m i l
    pub names : (n : ℕ) → (at m n).name ≡ n
    pub numbered : (n : ℕ) → Numbered (at m n)

  pub is_at : (m n : ℕ) (x : NodeState Q) → node_at (world m) n ≡ Some x → x ≡ at m n
  is_at m n x e = sym (ap (node_or (first_node s founders n)) e)
  -- one node changed
