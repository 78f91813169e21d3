-- Letters as they are stored
use Rattle.std.specs.Prelude.{ℕ, zero, suc, List, Option, None, slice_get}
use Rattle.rambo_gossip.specs.Letters.{LetterState}

-- a letter as it is stored: without copies, and with the length that its sender's log then had, or 0 where it has no
-- copies
pub record SentState (Q : Type 0) : Type 0 where
  pub letter : LetterState Q
  pub told : ℕ

-- the letter of a number, from 1 on
abbrev pub sent_at : {Q : Type 0} → List (SentState Q) → ℕ → Option (SentState Q)
sent_at ss zero = None
sent_at ss (suc i) = slice_get ss i
