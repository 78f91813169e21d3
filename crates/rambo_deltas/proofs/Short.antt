-- What a node has since its base may stand, in a letter, for all that it has
use Rattle.std.proofs.Common.{◌≡◌, ℕ, ◌<◌, Bool, true, false, if◌then◌else◌, nat_le, Some, None, refl, sym, ap, ◌∙◌, subst, inl, inr, arith}
use Rattle.std.proofs.lemmas.Bool.Decides.{nat_tests}
use Rattle.std.specs.FinMap as map
use Rattle.rambo_names.specs.Quorums.{QuorumSystem}
use Rattle.rambo_tag.specs.Copies.{Copies, joined}
use Rattle.rambo_tag.specs.Tags.{is_newer}
use Rattle.rambo_tag.proofs.CopyOrder.{is_below, is_newer-is_below, not_below-trans, greater-right}
use Rattle.rambo_tag.proofs.Joins.{get-joined}
use Rattle.rambo_joiner.specs.Statuses.{is_active}
use Rattle.rambo_gossip.specs.Kinds as kind
use Rattle.rambo_gossip.specs.Letters.{LetterState, letter_with}
use Rattle.rambo_gossip.specs.Short as letters
use Rattle.rambo_node.specs.Letters.{letter_for, gossip_for}
use Rattle.rambo_node.specs.Nodes.{NodeState, heard_from}
use Rattle.rambo_node.proofs.Short.{whole_is_short}
use Rattle.rambo_run.specs.Runs.{run}
use Rattle.rambo_run.specs.Worlds.{copies_of, held_by}
use Rattle.rambo_run.proofs.Growing.{copies_are_kept}
use Rattle.rambo_run.proofs.Lists.{pick, none-some}
use Rattle.rambo_deltas.specs.Deltas.{full_at, DeltasAreShort, LaterToo}
use Rattle.rambo_tag.specs.Stamps.{stamp_at, stamp_or_zero, IsShort}
use Rattle.rambo_deltas.proofs.Bases.{old_copies_are_held}
use Rattle.rambo_deltas.proofs.Carried.{bases_are_carried}
use Rattle.rambo_deltas.proofs.Stamped.{full_nodes_are_nodes, stamps_are_numbers}

below_base : (base n : ℕ) → nat_le base n ≡ false → n < base
below_base base n e = grind (arith, nat_tests)

pub deltas_are_short : {Q : Type 0} (s : QuorumSystem Q) → DeltasAreShort s
deltas_are_short {Q} s founders steps n j p a b since =
    let v = full_at s founders steps n in
    let base : ℕ = heard_from v.bases j in
    let y : NodeState Q = (full_at s founders steps j).state in
    let there = full_nodes_are_nodes s founders steps j b in
    record {
      part = λ key c f. elim (pick (nat_le base (stamp_at v.stamps key)) (map.get v.state.registers key) None) [
        | inl t ↦ sym t.1 ∙ sym (since key) ∙ f
        | inr t ↦ absurd (none-some c (sym t.1 ∙ sym (since key) ∙ f))
      ];
      held_anyway = λ key c f g. elim (pick (nat_le base (stamp_at v.stamps key)) (map.get v.state.registers key) None) [
        | inl t ↦ absurd (none-some c (sym f ∙ since key ∙ t.1 ∙ g))
        | inr t ↦ (
            let l = stamps_are_numbers s founders steps n key c a g in
            let is : stamp_at v.stamps key ≡ l.1.number = ap stamp_or_zero l.3 in
            let below : stamp_at v.stamps key < base = below_base base (stamp_at v.stamps key) t.0 in
            let old = old_copies_are_held s founders steps n j y key c l.0 l.1 there l.2 (omega (arith, below, is, bases_are_carried s founders steps n j b)) in
            subst (λ r. is_newer (map.get r key) c ≡ false) (sym (ap copies_of there)) old
            )
      ];
    }

-- where more is held, short copies stay short
pub short_longer : (p whole held more : Copies) → joined more held ≡ more → IsShort p whole held → IsShort p whole more
short_longer p whole held more grows short = record {
  part = short.part;
  held_anyway = λ key v e f.
      let above : is_below (map.get more key) (map.get held key) ≡ false =
      subst (λ o. is_below o (map.get held key) ≡ false) (sym (get-joined more held key) ∙ ap (λ r. map.get r key) grows) (greater-right (map.get more key) (map.get held key)) in
      let below : is_below (map.get held key) (Some v) ≡ false = sym (is_newer-is_below (map.get held key) v) ∙ short.held_anyway key v e f in
      is_newer-is_below (map.get more key) v ∙ not_below-trans (map.get more key) (map.get held key) (Some v) above below;
}

-- a letter of short copies is short for the whole letter
module _ {Q : Type 0} (x : NodeState Q) (to : ℕ) (p held : Copies) (short : IsShort p x.registers held) where
  -- the whole letter of a node that is active, and of one that isn't
  abbrev whole : Bool → LetterState Q
  whole active = record { sender = x.name; addressee = to; kind = if active then kind.Gossip (gossip_for x to) else kind.Join }

  of_kind : (active : Bool) → letters.IsShort (letter_with (whole active) p) (whole active) held
  of_kind true = record { rest = refl; part = short.part; held_anyway = λ key v e f. short.held_anyway key v f e }
  of_kind false = whole_is_short _ held

  pub short_letter : letters.IsShort (letter_with (letter_for x to) p) (letter_for x to) held
  short_letter = of_kind (is_active x.status)

pub later_too : {Q : Type 0} (s : QuorumSystem Q) → LaterToo s
later_too s founders xs ys n j p longer a b since =
    short_letter (full_at s founders xs n).state j p (held_by (run s founders ys) j)
    (short_longer p (full_at s founders xs n).state.registers (held_by (run s founders xs) j) (held_by (run s founders ys) j) (copies_are_kept s founders xs ys longer j) (deltas_are_short s founders xs n j p a b since))
