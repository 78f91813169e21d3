-- What a step does, and why it is refused: it is an act of one node, from which letters, history and marks follow
use Rattle.std.specs.Prelude.{ℕ, ◌+◌, ◌-◌, Bool, true, false, List, [], ◌∷◌, ◌++◌, length, Option, None, Some, slice_set}
use Rattle.std.specs.Option.{option_and_then}
use Rattle.rambo_names.specs.declared.refusal.Refusal.{Refusal}
use Rattle.rambo_names.specs.declared.refusal.Refusal.TheVariants.{NotActive, NoSuchLetter}
use Rattle.rambo_names.specs.Quorums.{QuorumSystem}
use Rattle.rambo_names.specs.Refusals.{Cause, cause, least}
use Rattle.rambo_history.specs.declared.event.Event.{Event}
use Rattle.rambo_gossip.specs.Letters.{LetterState}
use Rattle.rambo_node.specs.Acts.{Act, Meant, meant_by}
use Rattle.rambo_node.specs.Acts as act
use Rattle.rambo_node.specs.declared.effect.Effect.{Effect}
use Rattle.rambo_node.specs.declared.effect.Effect.TheVariants as effect
use Rattle.rambo_node.specs.Changes as node
use Rattle.rambo_node.specs.Changes.{Made, made_by}
use Rattle.rambo_node.specs.Nodes.{NodeState}
use Rattle.rambo_sequence.specs.declared.mark.Mark.{Mark}
use Rattle.rambo_node.specs.Steps.{Step, delivered_by}
use Rattle.rambo_run.specs.Worlds.{WorldState, node_at, letter_at}

-- the letter that a step lets come, if it was sent
abbrev pub letter_in : {Q : Type 0} → List (LetterState Q) → Step Q → Option (LetterState Q)
letter_in ls st = option_and_then (letter_at ls) (delivered_by st)

-- what a step means where these letters were sent
abbrev pub meant_in : {Q : Type 0} → List (LetterState Q) → Step Q → Option (Meant Q)
meant_in ls st = meant_by (letter_in ls st) st

-- and in a world, of which nothing else decides that
abbrev pub meant : {Q : Type 0} → WorldState Q → Step Q → Option (Meant Q)
meant w st = meant_in w.letters st

-- whether an act sends a letter
abbrev pub sends : {Q : Type 0} → Act Q → Bool
sends (act.Send to) = true
sends _ = false

-- there are 64 nodes, so that each name has one
abbrev pub causes_at : {Q : Type 0} → QuorumSystem Q → Option (NodeState Q) → Act Q → List Cause
causes_at s None a = cause NotActive true ∷ []
causes_at s (Some x) a = node.causes s x a

abbrev pub causes_of : {Q : Type 0} → QuorumSystem Q → WorldState Q → Option (Meant Q) → List Cause
causes_of s w None = cause NoSuchLetter true ∷ []
causes_of s w (Some m) = causes_at s (node_at w m.name) m.act

-- the causes of refusal of a step, in ascending order of number
unfoldable pub causes : {Q : Type 0} → QuorumSystem Q → WorldState Q → Step Q → List Cause
causes s w st = causes_of s w (meant w st)

-- the least refusal whose cause holds
unfoldable pub refusal : {Q : Type 0} → QuorumSystem Q → WorldState Q → Step Q → Option Refusal
refusal s w st = least (causes s w st)

-- a world, and what the step did that led to it
pub record Turn (Q : Type 0) : Type 0 where
  pub world : WorldState Q
  pub effect : Effect Q

-- nothing happens
abbrev pub no_turn : {Q : Type 0} → WorldState Q → Turn Q
no_turn w = record { world = w; effect = effect.Done }

-- a letter goes to the end of the list
abbrev pub with_letter : {Q : Type 0} → List (LetterState Q) → Option (LetterState Q) → List (LetterState Q)
with_letter ls None = ls
with_letter ls (Some l) = ls ++ l ∷ []

abbrev pub with_event : List Event → Option Event → List Event
with_event es None = es
with_event es (Some e) = es ++ e ∷ []

abbrev pub with_mark : List Mark → Option Mark → List Mark
with_mark ms None = ms
with_mark ms (Some m) = ms ++ m ∷ []

-- letters are numbered from 1
abbrev pub effect_in : {Q : Type 0} → List (LetterState Q) → Effect Q → Option (LetterState Q) → Effect Q
effect_in ls e None = e
effect_in ls e (Some l) = effect.Sent (length ls + 1)

-- the node is put in its place, and what the act did goes to the letters, the history and the marks
abbrev pub turn_by : {Q : Type 0} → WorldState Q → ℕ → Made Q → Turn Q
turn_by w n m = record {
  world = record {
    nodes = slice_set w.nodes (n - 1) m.node;
    letters = with_letter w.letters m.letter;
    history = with_event w.history m.deed.event;
    marks = with_mark w.marks m.deed.mark;
  };
  effect = effect_in w.letters m.deed.effect m.letter;
}

abbrev pub turn_at : {Q : Type 0} → WorldState Q → ℕ → Option (NodeState Q) → Act Q → Turn Q
turn_at w n None a = no_turn w
turn_at w n (Some x) a = turn_by w n (made_by x a)

abbrev pub turn_of : {Q : Type 0} → WorldState Q → Option (Meant Q) → Turn Q
turn_of w None = no_turn w
turn_of w (Some m) = turn_at w m.name (node_at w m.name) m.act

-- what a step does that isn't refused
unfoldable pub turn : {Q : Type 0} → WorldState Q → Step Q → Turn Q
turn w st = turn_of w (meant w st)
