-- A node hears a short letter, with its stamps and bases, as the whole one
use Rattle.std.proofs.Common.{◌≡◌, refl, ap, ◌∙◌}
use Rattle.rambo_tag.specs.Copies.{Copies}
use Rattle.rambo_gossip.specs.Kinds.{Kind}
use Rattle.rambo_gossip.specs.Kinds as kind
use Rattle.rambo_gossip.specs.Letters.{LetterState, kind_with}
use Rattle.rambo_gossip.specs.Short as letters
use Rattle.rambo_gossip.specs.Short.{copies_in}
use Rattle.rambo_node.specs.Changes.{made_by}
use Rattle.rambo_node.specs.Nodes.{NodeState, raised}
use Rattle.rambo_node.proofs.Short.{heard_as_whole}
use Rattle.rambo_deltas.specs.Alike.{ShortLettersAreReplayedAlike}
use Rattle.rambo_node.specs.FullNodes.{heard_in, stamps_heard, full_after}
use Rattle.rambo_tag.specs.Stamps.{Stamps, IsShort}
use Rattle.rambo_tag.proofs.StampLaws.{short_is_alike}

-- the copies of a short letter are short for those of the whole one
short_copies : {Q : Type 0} (l whole : LetterState Q) (held : Copies) → letters.IsShort l whole held → IsShort (copies_in l.kind) (copies_in whole.kind) held
short_copies l whole held short = record { part = short.part; held_anyway = λ key v e f. short.held_anyway key v f e }

-- they are stamped alike
stamped_alike : {Q : Type 0} (x : NodeState Q) (s : Stamps) (k : Kind Q) (c : Copies) → IsShort (copies_in k) c x.registers → stamps_heard x s k ≡ stamps_heard x s (kind_with k c)
stamped_alike x s kind.Join c short = refl
stamped_alike x s (kind.Gossip g) c short = (short_is_alike x.number g.copies c x.registers s short).1

-- and carry the same number
heard_alike : {Q : Type 0} (k : Kind Q) (c : Copies) → heard_in k ≡ heard_in (kind_with k c)
heard_alike kind.Join c = refl
heard_alike (kind.Gossip g) c = refl

pub short_letters_are_replayed_alike : {Q : Type 0} → ShortLettersAreReplayedAlike Q
unfolding full_after made_by
short_letters_are_replayed_alike {Q} v l whole short =
    let c : Copies = copies_in whole.kind in
    let stamps : stamps_heard v.state v.stamps l.kind ≡ stamps_heard v.state v.stamps whole.kind =
    stamped_alike v.state v.stamps l.kind c (short_copies l whole v.state.registers short) ∙ ap (λ (l : LetterState Q). stamps_heard v.state v.stamps l.kind) short.rest in
    let heard : heard_in l.kind ≡ heard_in whole.kind = heard_alike l.kind c ∙ ap (λ (l : LetterState Q). heard_in l.kind) short.rest in
    let sender : l.sender ≡ whole.sender = ap (λ (l : LetterState Q). l.sender) short.rest in
    λ i. record { state = (heard_as_whole v.state l whole short).0 i; stamps = stamps i; bases = raised v.bases (sender i) (heard i) }
