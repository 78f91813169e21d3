use Rattle.memchr.specs.Find.{Nowhere, Passes, is_byte}
use Rattle.rambo_text.proofs.words.first_space.Given as goal

-- no space so far
abbrev pub invariant-loop-place : goal.invariant-loop-place
invariant-loop-place l = Nowhere (Passes (is_byte 32) l.line) 0 l.place
