-- What is short for a whole letter is heard as that one
use Rattle.std.proofs.Common.{◌≡◌, Option, None, Some, false, refl, sym, ap, ◌∙◌}
use Rattle.std.specs.Prelude.{if◌then◌else◌}
use Rattle.std.specs.FinMap as map
use Rattle.rambo_tag.specs.Tags.{is_newer, greater}
use Rattle.rambo_tag.specs.declared.version.Version.{Version}
use Rattle.rambo_gossip.specs.Kinds.{Kind}
use Rattle.rambo_gossip.specs.Kinds as kind
use Rattle.rambo_gossip.specs.Letters.{LetterState, kind_with, letter_with}
use Rattle.rambo_gossip.specs.Short.{copies_in, IsShort}
use Rattle.rambo_node.specs.Claims.{MergeAlike, HeardAlike}
use Rattle.rambo_node.specs.Hearing.{heard_letter}
use Rattle.rambo_node.specs.Nodes.{NodeState}
use Rattle.rambo_node.specs.Refusals.{hear_causes}
use Rattle.rambo_node.proofs.Telling.{heard_alike, joined_alike}

-- of one key: what is left out changes nothing
key_alike : (held a b : Option Version) → ((v : Version) → a ≡ Some v → b ≡ Some v) → ((v : Version) → b ≡ Some v → a ≡ None → is_newer held v ≡ false) → greater held a ≡ greater held b
key_alike held (Some v) b part anyway = ap (greater held) (sym (part v refl))
key_alike held None None part anyway = refl
key_alike held None (Some v) part anyway = sym (ap (λ t. if t then Some v else held) (anyway v refl refl))

own_kind : {Q : Type 0} (k : Kind Q) → kind_with k (copies_in k) ≡ k
own_kind kind.Join = refl
own_kind (kind.Gossip g) = refl

-- a letter has its own copies
pub own_copies : {Q : Type 0} (l : LetterState Q) → letter_with l (copies_in l.kind) ≡ l
own_copies l = λ i. record l { kind = own_kind l.kind i }

merge_alike : {Q : Type 0} (x : NodeState Q) (l whole : LetterState Q) → IsShort l whole x.registers → MergeAlike x.registers (copies_in l.kind) (copies_in whole.kind)
merge_alike x l whole short key = key_alike (map.get x.registers key) _ _ (short.part key) (short.held_anyway key)

pub heard_as_whole : {Q : Type 0} (x : NodeState Q) (l whole : LetterState Q) → IsShort l whole x.registers
    → (heard_letter x l ≡ heard_letter x whole) × (hear_causes x l.kind ≡ hear_causes x whole.kind)
heard_as_whole x l whole short =
    let alike : HeardAlike x l (copies_in l.kind) (copies_in whole.kind) =
    heard_alike x l (copies_in l.kind) (copies_in whole.kind) (joined_alike x.registers (copies_in l.kind) (copies_in whole.kind) (merge_alike x l whole short)) in (
      ap (heard_letter x) (sym (own_copies l)) ∙ alike.0 ∙ ap (heard_letter x) short.rest,
      ap (λ (l : LetterState _). hear_causes x l.kind) (sym (own_copies l)) ∙ alike.1 ∙ ap (λ (l : LetterState _). hear_causes x l.kind) short.rest,
    )

-- a letter is short for itself, whatever is held
pub whole_is_short : {Q : Type 0} (l : LetterState Q) (held : map.FinMap _ Version) → IsShort l l held
whole_is_short l held = record { rest = own_copies l; part = λ key v e. e; held_anyway = λ key v e f. absurd (none_some v (sym f ∙ e)) }
  where
    none_some : (v : Version) → None ≡ Some v → ⊥
    none_some v e = cc
