use Rattle.std.proofs.Common.{◌≡◌, ◌+◌, [], vec_len}
use Rattle.rambo_post.proofs.post.Post.with_boxes.Given as goal

abbrev pub invariant-loop-place : goal.invariant-loop-place
invariant-loop-place g l = record {
  made : l.roll ≡ (l.place + 1, []);
  each : vec_len l.keepers ≡ l.place;
}
