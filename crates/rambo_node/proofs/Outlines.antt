-- Letters without their copies are judged as they are with them, and become the letters again with their own
use Rattle.std.proofs.Common.{◌≡◌, refl}
use Rattle.rambo_tag.specs.Copies.{Copies}
use Rattle.rambo_gossip.specs.Kinds.{Kind}
use Rattle.rambo_gossip.specs.Kinds as kind
use Rattle.rambo_gossip.specs.Letters.{LetterState, kind_with, letter_with}
use Rattle.rambo_gossip.specs.Short.{copies_in}
use Rattle.rambo_node.proofs.Telling.{kind_twice}

kind_again : {Q : Type 0} (k : Kind Q) (copies : Copies) → kind_with (kind_with k copies) (copies_in k) ≡ k
kind_again kind.Join copies = refl
kind_again (kind.Gossip g) copies = refl

pub letter_again : {Q : Type 0} (l : LetterState Q) (copies : Copies) → letter_with (letter_with l copies) (copies_in l.kind) ≡ l
letter_again l copies = λ i. record l { kind = kind_again l.kind copies i }

-- other copies take the place of a letter's copies
pub letter_twice : {Q : Type 0} (l : LetterState Q) (a b : Copies) → letter_with (letter_with l a) b ≡ letter_with l b
letter_twice l a b = λ i. record l { kind = kind_twice l.kind a b i }
