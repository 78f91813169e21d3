use Rattle.std.proofs.Common.{◌≡◌, vec_len}
use Rattle.rambo_cluster.proofs.station.stations_of.Given as goal

abbrev pub invariant-loop-place : goal.invariant-loop-place
invariant-loop-place l = vec_len l.stations ≡ l.place
