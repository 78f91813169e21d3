-- Short letters are replayed as the whole ones
use Rattle.std.specs.Prelude.{◌≡◌}
use Rattle.rambo_gossip.specs.Letters.{LetterState}
use Rattle.rambo_gossip.specs.Short.{IsShort}
use Rattle.rambo_node.specs.FullNodes.{FullNode, full_after}
use Rattle.rambo_node.specs.Acts as act

-- a node that hears a short letter becomes, with its stamps and bases, what it becomes by the whole one
abbrev pub ShortLettersAreReplayedAlike : Type 0 → Type 0
ShortLettersAreReplayedAlike Q =
    (v : FullNode Q) (l whole : LetterState Q) → IsShort l whole v.state.registers → full_after v (act.Hear l) ≡ full_after v (act.Hear whole)
