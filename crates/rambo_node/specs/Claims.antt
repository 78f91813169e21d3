-- What holds of every act
use Rattle.std.specs.Prelude.{◌≡◌, ℕ, ◌≤◌, List, [], ◌∷◌, Some, true, All}
use Rattle.std.specs.FinMap.{get}
use Rattle.rambo_names.specs.declared.refusal.Refusal.{Refusal}
use Rattle.rambo_names.specs.Quorums.{QuorumSystem}
use Rattle.rambo_names.specs.Refusals.{Cause, least, number_of}
use Rattle.rambo_tag.specs.Copies.{Copies, joined}
use Rattle.rambo_tag.specs.Tags.{greater}
use Rattle.rambo_gossip.specs.Letters.{LetterState, letter_with}
use Rattle.rambo_gossip.specs.Short.{IsShort}
use Rattle.rambo_node.specs.Acts.{Act}
use Rattle.rambo_node.specs.Changes.{causes}
use Rattle.rambo_node.specs.Hearing.{heard_letter}
use Rattle.rambo_node.specs.Nodes.{NodeState}
use Rattle.rambo_node.specs.Refusals.{hear_causes}

-- the numbers of the causes are at least this, and never fall
abbrev pub RisesFrom : ℕ → List Cause → Type 0
RisesFrom n [] = Unit {0}
RisesFrom n (c ∷ cs) = (n ≤ number_of c.refusal) × RisesFrom (number_of c.refusal) cs

-- the numbers of the causes never fall
abbrev pub IsRising : List Cause → Type 0
IsRising cs = RisesFrom 0 cs

abbrev pub CausesRise : Type 0 → Type 0
CausesRise Q = (s : QuorumSystem Q) (x : NodeState Q) (a : Act Q) → IsRising (causes s x a)

-- so the first cause that holds has the least number of those that hold
abbrev pub FirstIsLeast : Type 0
FirstIsLeast = (cs : List Cause) (r : Refusal) → IsRising cs → least cs ≡ Some r → All (λ c. c.holds ≡ true → number_of r ≤ number_of c.refusal) cs

-- two maps of copies come to the same where they are merged, key by key
abbrev pub MergeAlike : Copies → Copies → Copies → Type 0
MergeAlike r a b = (key : List ℕ) → greater (get r key) (get a key) ≡ greater (get r key) (get b key)

-- a letter with other copies is heard alike, where they come to the same
abbrev pub HeardAlike : {Q : Type 0} → NodeState Q → LetterState Q → Copies → Copies → Type 0
HeardAlike x l a b =
    (heard_letter x (letter_with l a) ≡ heard_letter x (letter_with l b))
    × (hear_causes x (letter_with l a).kind ≡ hear_causes x (letter_with l b).kind)

-- so a letter may leave out what its addressee already holds
abbrev pub ShortLettersAreHeardAlike : Type 0 → Type 0
ShortLettersAreHeardAlike Q = (x : NodeState Q) (l : LetterState Q) (a b : Copies) → joined x.registers a ≡ joined x.registers b → HeardAlike x l a b

abbrev pub LettersAreHeardByKey : Type 0 → Type 0
LettersAreHeardByKey Q = (x : NodeState Q) (l : LetterState Q) (a b : Copies) → MergeAlike x.registers a b → HeardAlike x l a b

-- and a short letter, where the node holds what it leaves out, is heard as the whole one
abbrev pub ShortIsHeardAsWhole : Type 0 → Type 0
ShortIsHeardAsWhole Q =
    (x : NodeState Q) (l whole : LetterState Q) → IsShort l whole x.registers
    → (heard_letter x l ≡ heard_letter x whole) × (hear_causes x l.kind ≡ hear_causes x whole.kind)
