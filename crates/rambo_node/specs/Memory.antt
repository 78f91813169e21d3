-- Which acts may allocate: the others are refused by their causes alone
use Rattle.std.specs.Prelude.{Bool, true, false}
use Rattle.rambo_gossip.specs.Kinds.{Kind}
use Rattle.rambo_gossip.specs.Kinds as kind
use Rattle.rambo_node.specs.Acts.{Act}
use Rattle.rambo_node.specs.Acts as act

-- whether a letter says more than that its sender wants to join
abbrev pub is_gossip : {Q : Type 0} → Kind Q → Bool
is_gossip kind.Join = false
is_gossip (kind.Gossip g) = true

-- whether an act may allocate: any but the wish to join that comes, and a quiet one
abbrev pub needs_memory : {Q : Type 0} → Act Q → Bool
needs_memory (act.Hear l) = is_gossip l.kind
needs_memory (act.Quietly q) = false
needs_memory _ = true
