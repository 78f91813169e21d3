-- A letter that is delivered with what is new of its copies
use Rattle.std.proofs.Common.{◌≡◌, ◌≢◌, ℕ, zero, suc, ◌+◌, ◌-◌, ◌*◌, ◌≤◌, ◌<◌, max, List, length, Option, None, Some, refl, ◌⊎◌, inl, inr, arith}
use Rattle.std.proofs.lemmas.Option.{slice_get-map}
use Rattle.std.proofs.lemmas.List.{get_or-set_same, get_or-set_other}
use Rattle.std.specs.Option.{option_map}
use Rattle.rambo_names.specs.Names.{IsName}
use Rattle.rambo_names.specs.Quorums.{QuorumSystem}
use Rattle.rambo_tag.specs.Copies.{Copies, joined}
use Rattle.rambo_gossip.specs.Kinds.{Kind}
use Rattle.rambo_gossip.specs.Kinds as kind
use Rattle.rambo_gossip.specs.Letters.{LetterState, kind_with, letter_with}
use Rattle.rambo_node.specs.Hearing.{heard_kind, heard_join, heard_gossip}
use Rattle.rambo_node.specs.Nodes.{NodeState}
use Rattle.rambo_node.specs.Refusals.{hear_causes}
use Rattle.rambo_node.specs.Acts as act
use Rattle.rambo_run.specs.Steps.{causes_at}
use Rattle.rambo_run.specs.Worlds.{letter_at}
use Rattle.rambo_letters.specs.Kept.{SentState, sent_at}
use Rattle.rambo_logs.specs.Merged.{merged_at, merged_raised}
use Rattle.rambo_world.specs.Kept.{KeptNode, whole_letter, whole_letters}

-- the letter of a number
pub letter_at-sent : {Q : Type 0} (ks : List (KeptNode Q)) (ss : List (SentState Q)) (number : ℕ) → letter_at (whole_letters ks ss) number ≡ option_map (whole_letter ks) (sent_at ss number)
letter_at-sent ks ss zero = refl
letter_at-sent ks ss (suc i) = slice_get-map (whole_letter ks) ss i

-- copies don't bear on refusals
pub hear_causes-with : {Q : Type 0} (x : NodeState Q) (k : Kind Q) (c : Copies) → hear_causes x (kind_with k c) ≡ hear_causes x k
hear_causes-with x kind.Join c = refl
hear_causes-with x (kind.Gossip g) c = refl

pub causes_with : {Q : Type 0} (s : QuorumSystem Q) (o : Option (NodeState Q)) (l : LetterState Q) (c : Copies) → causes_at s o (act.Hear (letter_with l c)) ≡ causes_at s o (act.Hear l)
causes_with s None l c = refl
causes_with s (Some x) l c = hear_causes-with x l.kind c

-- two letters whose copies make the same of a node
pub heard_alike : {Q : Type 0} (x : NodeState Q) (j : ℕ) (k : Kind Q) (a b : Copies) → joined x.registers a ≡ joined x.registers b → heard_kind x j (kind_with k a) ≡ heard_kind x j (kind_with k b)
unfolding heard_gossip
heard_alike x j kind.Join a b e = refl
heard_alike x j (kind.Gossip g) a b e = λ i. record (heard_gossip x j (record g { copies = a })) { registers = e i }

-- what a node has merged, of a letter that it heard
pub heard_registers : {Q : Type 0} (x : NodeState Q) (j : ℕ) (k : Kind Q) (c : Copies) → ((k ≡ kind.Join) × ((heard_kind x j (kind_with k c)).registers ≡ x.registers)) ⊎ ((heard_kind x j (kind_with k c)).registers ≡ joined x.registers c)
unfolding heard_gossip heard_join
heard_registers x j kind.Join c = inl (refl, refl)
heard_registers x j (kind.Gossip g) c = inr refl

-- a count that is raised
pub raised_same : (ms : List ℕ) (to from n : ℕ) → (to - 1) * 64 + (from - 1) < length ms → merged_at (merged_raised ms to from n) to from ≡ max (merged_at ms to from) n
raised_same ms to from n below = get_or-set_same ms ((to - 1) * 64 + (from - 1)) (max (merged_at ms to from) n) 0 below

pub raised_other : (ms : List ℕ) (to from n t f : ℕ) → (t - 1) * 64 + (f - 1) ≢ (to - 1) * 64 + (from - 1) → merged_at (merged_raised ms to from n) t f ≡ merged_at ms t f
raised_other ms to from n t f other = get_or-set_other ms ((to - 1) * 64 + (from - 1)) ((t - 1) * 64 + (f - 1)) (max (merged_at ms to from) n) 0 other

-- two pairs of names have places of their own
pub own_place : (to from t f : ℕ) → IsName to → IsName from → IsName t → IsName f → (t - 1) * 64 + (f - 1) ≡ (to - 1) * 64 + (from - 1) → (t ≡ to) × (f ≡ from)
own_place to from t f a b c d e =
    let a1 : 1 ≤ to = a.0 in let b1 : 1 ≤ from = b.0 in let b2 : from ≤ 64 = b.1 in let c1 : 1 ≤ t = c.0 in let d1 : 1 ≤ f = d.0 in let d2 : f ≤ 64 = d.1 in
    (omega (arith, a1, b1, b2, c1, d1, d2, e), omega (arith, a1, b1, b2, c1, d1, d2, e))

pub place_below : (to from : ℕ) → IsName to → IsName from → (to - 1) * 64 + (from - 1) < 4096
place_below to from a b =
    let a1 : 1 ≤ to = a.0 in let a2 : to ≤ 64 = a.1 in let b1 : 1 ≤ from = b.0 in let b2 : from ≤ 64 = b.1 in omega (arith, a1, a2, b1, b2)
