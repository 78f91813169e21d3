-- What has a size where configurations have one
use Rattle.std.proofs.Common.{ℕ, ◌<◌, ◌≤◌, ◌^◌, arith}
use denote.Param.{layout, copied}
use denote.RattleType.{RattleType}
use prog.Memory.{size}
use Rattle.rambo_names.specs.Room.{fits, room_of}
use Rattle.rambo_names.specs.declared.quorums.Quorums
use Rattle.std.specs.declared.cmp.PartialEq
use Rattle.rambo_config_map.specs.contracts.config_map.ConfigMap as map
use Rattle.rambo_calls.specs.contracts.open_call.OpenCall as call

pub map_fits : (i : ℕ) (T : RattleType) (qg : Quorums.Ghosts T.Denot) (pg : PartialEq.Ghosts T.Denot) → room_of T ≤ 4096 → size (layout (map.the_row (copied i T) qg pg)) < 2 ^ 63
map_fits i T qg pg h = fits (layout (map.the_row (copied i T) qg pg)) (omega (arith, h))

pub call_fits : (i : ℕ) (T : RattleType) (qg : Quorums.Ghosts T.Denot) (pg : PartialEq.Ghosts T.Denot) → room_of T ≤ 4096 → size (layout (call.the_row (copied i T) qg pg)) < 2 ^ 63
call_fits i T qg pg h = fits (layout (call.the_row (copied i T) qg pg)) (omega (arith, h))
