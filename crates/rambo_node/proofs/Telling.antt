-- What a node tells, and what is made of it
use Rattle.std.proofs.Common.{◌≡◌, ℕ, Bool, true, false, if◌then◌else◌, refl, sym, ap, ◌∙◌}
use Rattle.rambo_tag.specs.Copies.{Copies, joined}
use Rattle.rambo_tag.proofs.Joins.{same_copies, get-joined}
use Rattle.rambo_gossip.specs.Kinds.{Kind}
use Rattle.rambo_gossip.specs.Kinds as kind
use Rattle.rambo_gossip.specs.Gossips.{GossipState}
use Rattle.rambo_gossip.specs.Letters.{LetterState, letter_with, kind_with}
use Rattle.rambo_joiner.specs.Statuses.{is_active}
use Rattle.rambo_node.specs.Claims.{MergeAlike, HeardAlike}
use Rattle.rambo_node.specs.Hearing.{heard_kind, heard_gossip}
use Rattle.rambo_node.specs.Letters.{letter_for, gossip_for}
use Rattle.rambo_node.specs.Nodes.{NodeState}
use Rattle.rambo_node.specs.Refusals.{hear_causes}

own_kind : {Q : Type 0} (g : GossipState Q) (active : Bool) → kind_with (if active then kind.Gossip g else kind.Join) g.copies ≡ (if active then kind.Gossip g else kind.Join)
own_kind g true = refl
own_kind g false = refl

-- a letter with its own copies
pub with_own : {Q : Type 0} (x : NodeState Q) (to : ℕ) → letter_with (letter_for x to) x.registers ≡ letter_for x to
with_own x to = ap (λ k. record { sender = x.name; addressee = to; kind = k }) (own_kind (gossip_for x to) (is_active x.status))

-- of two lots of copies the later one stands
pub kind_twice : {Q : Type 0} (k : Kind Q) (a b : Copies) → kind_with (kind_with k a) b ≡ kind_with k b
kind_twice kind.Join a b = refl
kind_twice (kind.Gossip g) a b = refl

kind_alike : {Q : Type 0} (x : NodeState Q) (j : ℕ) (k : Kind Q) (a b : Copies) → joined x.registers a ≡ joined x.registers b
    → (heard_kind x j (kind_with k a) ≡ heard_kind x j (kind_with k b)) × (hear_causes x (kind_with k a) ≡ hear_causes x (kind_with k b))
unfolding heard_gossip
kind_alike x j kind.Join a b e = (refl, refl)
kind_alike x j (kind.Gossip g) a b e = (λ i. record (heard_gossip x j g) { registers = e i }, refl)

-- copies that come to the same are heard alike
pub heard_alike : {Q : Type 0} (x : NodeState Q) (l : LetterState Q) (a b : Copies) → joined x.registers a ≡ joined x.registers b → HeardAlike x l a b
heard_alike x l a b e = kind_alike x l.sender l.kind a b e

pub joined_alike : (r a b : Copies) → MergeAlike r a b → joined r a ≡ joined r b
joined_alike r a b same = same_copies _ _ (λ q. get-joined r a q ∙ same q ∙ sym (get-joined r b q))
