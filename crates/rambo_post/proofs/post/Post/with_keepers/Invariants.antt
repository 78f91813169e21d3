use Rattle.std.proofs.Common.{◌≡◌, ◌++◌, length, vec_len}
use Rattle.rambo_post.proofs.post.Post.with_keepers.Given as goal

abbrev pub invariant-loop-keeper : goal.invariant-loop-keeper
invariant-loop-keeper g l = record {
  rest : l.yielded ++ l.keeper-iterator.rest.items ≡ l.fn.keepers.items;
  each : vec_len l.locked ≡ length l.yielded;
}
