use Rattle.std.proofs.Common.{◌≡◌, vec_len}
use Rattle.rambo_cluster.proofs.room.Rooms.new.Given as goal

abbrev pub invariant-loop-number : goal.invariant-loop-number
invariant-loop-number l = vec_len l.rooms ≡ l.number
