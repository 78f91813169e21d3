-- Whom a node asks first
use Rattle.std.specs.Prelude.{ℕ, ◌+◌, ◌%◌, ◌^◌, max, Bool, true, false, if◌then◌else◌, List, ◌++◌, filter, fold, take, drop}
use Rattle.std.specs.FinSet as set
use Rattle.rambo_names.specs.Names.{NameSet, names, count_of}
use Rattle.rambo_names.specs.Quorums.{QuorumSystem}
use Rattle.rambo_outbox.specs.declared.asking.Choice.{Choice}
use Rattle.rambo_outbox.specs.Bids.{agree}

-- one more name, unless there is a quorum already
abbrev pub with_next : {Q : Type 0} → QuorumSystem Q → Q → NameSet → ℕ → NameSet
with_next s q who n = if s.is_quorum q who then who else set.insert who n

-- one name after the other, until there is a quorum
abbrev pub enough : {Q : Type 0} → QuorumSystem Q → Q → NameSet → List ℕ → NameSet
enough s q who ns = fold (with_next s q) who ns

-- the members of a configuration that may be written to
abbrev pub others : {Q : Type 0} → QuorumSystem Q → NameSet → Q → NameSet
others s reach q = set.intersection (s.members q) reach

-- these from a place on, and then those before it
abbrev pub turned : ℕ → List ℕ → List ℕ
turned place ns = drop place ns ++ take place ns

-- the turn after one
abbrev pub next_turn : ℕ → ℕ
next_turn turn = (turn + 1) % 2 ^ 64

-- the members in the order of this turn
abbrev pub in_turn : {Q : Type 0} → QuorumSystem Q → Choice → Q → List ℕ
in_turn s c q = let all = others s c.reach q in turned (c.turn % max 1 (count_of all)) (names all)

-- of these those that were silent lately, or the rest
abbrev pub those : NameSet → Bool → List ℕ → List ℕ
those silent is_silent ns = filter (λ n. agree (set.contains silent n) is_silent) ns

-- a quorum of one more configuration: the silent ones come last
abbrev pub with_quorum : {Q : Type 0} → QuorumSystem Q → Choice → NameSet → Q → NameSet
with_quorum s c who q = enough s q (enough s q who (those c.silent false (in_turn s c q))) (those c.silent true (in_turn s c q))

-- the node itself and enough for a quorum of each configuration
abbrev pub with_me : {Q : Type 0} → QuorumSystem Q → Choice → List Q → NameSet
with_me s c qs = fold (with_quorum s c) (set.insert set.empty c.me) qs

-- those without the node
abbrev pub first_asked : {Q : Type 0} → QuorumSystem Q → Choice → List Q → NameSet
first_asked s c qs = set.remove (with_me s c qs) c.me
