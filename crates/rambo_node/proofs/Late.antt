-- No stamp is above the phase number
use Rattle.std.proofs.Common.{◌≡◌, ℕ, suc, ◌+◌, ◌≤◌, Bool, true, false, List, sym, subst, arith}
use Rattle.std.specs.Prelude.{if◌then◌else◌}
use Rattle.std.specs.FinMap.{empty, insert}
use Rattle.rambo_calls.specs.Hearing.{any_gap}
use Rattle.rambo_gossip.specs.Gossips.{GossipState}
use Rattle.rambo_tag.specs.Copies.{Copies}
use Rattle.rambo_tag.specs.Stamps.{Stamps, AreAtMost, stamps_merged}
use Rattle.rambo_tag.proofs.StampLaws.{AreAtMost-empty, AreAtMost-later, AreAtMost-put, AreAtMost-merged}
use Rattle.rambo_node.specs.Hearing.{number_after}
use Rattle.rambo_node.specs.Nodes.{NodeState}

-- of no stamps
pub late_none : (s : Stamps) (n : ℕ) → s ≡ empty → AreAtMost n s
late_none s n e = subst (AreAtMost n) (sym e) (AreAtMost-empty n)

-- of the same stamps
pub late_same : (s t : Stamps) (n : ℕ) → t ≡ s → AreAtMost n s → AreAtMost n t
late_same s t n e h = subst (AreAtMost n) (sym e) h

-- once the number has risen
pub late_next : (s : Stamps) (n : ℕ) → AreAtMost n s → AreAtMost (n + 1) s
late_next s n h = AreAtMost-later n (n + 1) s (up n) h
  where
    up : (n : ℕ) → n ≤ n + 1
    up n = omega (arith)

-- once a copy was put under the number
pub late_put : (s t : Stamps) (key : List ℕ) (n : ℕ) → t ≡ insert s key n → AreAtMost n s → AreAtMost n t
late_put s t key n e h = subst (AreAtMost n) (sym e) (AreAtMost-put n s key h)

-- once copies were merged under it
pub late_merged : (s t : Stamps) (held sent : Copies) (n : ℕ) → t ≡ stamps_merged n held s sent → AreAtMost n s → AreAtMost n t
late_merged s t held sent n e h = subst (AreAtMost n) (sym e) (AreAtMost-merged n held sent s h)

-- a letter doesn't lower the number
pub never_lower : {Q : Type 0} (x : NodeState Q) (g : GossipState Q) → x.number ≤ number_after x g
never_lower x g = up x.number (any_gap g.heard g.map x.calls)
  where
    up : (n : ℕ) (b : Bool) → n ≤ (if b then suc n else n)
    up n true = omega (arith)
    up n false = omega (arith)
