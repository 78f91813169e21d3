use Rattle.std.proofs.Common.{◌≡◌, vec_len}
use Rattle.rambo_post.proofs.post.outboxes_of.Given as goal

abbrev pub invariant-loop-place : goal.invariant-loop-place
invariant-loop-place l = vec_len l.outboxes ≡ l.place
