-- Weighted configurations
use Rattle.std.specs.Prelude.{ℕ, ◌+◌, ◌*◌, Bool, true, false, cond, nat_lt, List, [], ◌∷◌}
use Rattle.std.specs.FinSet as set
use Rattle.rambo_names.specs.Names.{NameSet, rising}
use Rattle.rambo_names.specs.Quorums.{QuorumSystem}

-- a configuration by the weights of its members, 1 to 15: the names whose weight has the bit 1, 2, 4, 8
pub record Weights : Type 0 where
  pub ones : NameSet
  pub twos : NameSet
  pub fours : NameSet
  pub eights : NameSet

-- the weight of a name, 0 where it is no member
abbrev pub weight_of : Weights → ℕ → ℕ
weight_of c n =
    cond (set.contains c.ones n) 1 0 + cond (set.contains c.twos n) 2 0 + cond (set.contains c.fours n) 4 0 + cond (set.contains c.eights n) 8 0

-- the members: the names that have a weight
abbrev pub members_of : Weights → NameSet
members_of c = set.union (set.union c.ones c.twos) (set.union c.fours c.eights)

-- the total weight of the names of a list that pass a test
abbrev pub weight_among : Weights → (ℕ → Bool) → List ℕ → ℕ
weight_among c p [] = 0
weight_among c p (n ∷ ns) = cond (p n) (weight_of c n) 0 + weight_among c p ns

-- the total weight of all members
unfoldable pub total : Weights → ℕ
total c = weight_among c (λ _. true) (rising 64 1)

-- the total weight of the members in a set
unfoldable pub held : Weights → NameSet → ℕ
held c who = weight_among c (set.contains who) (rising 64 1)

-- the members in the set weigh more than half of all
abbrev pub outweighs : Weights → NameSet → Bool
outweighs c who = nat_lt (total c) (2 * held c who)

-- weighted majorities
abbrev pub weighted_majorities : QuorumSystem Weights
weighted_majorities = record { members = members_of; is_quorum = outweighs }

-- each of these names with weight 1
abbrev pub evenly : NameSet → Weights
evenly members = record { ones = members; twos = set.empty; fours = set.empty; eights = set.empty }

-- the names of a digit, with this one put in or taken out
abbrev pub digit_put : NameSet → ℕ → Bool → NameSet
digit_put s n true = set.insert s n
digit_put s n false = set.remove s n
