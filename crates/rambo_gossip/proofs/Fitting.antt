-- What letters tell of configurations has a size where configurations have one
use Rattle.std.proofs.Common.{ℕ, ◌<◌, ◌≤◌, ◌^◌, arith}
use denote.Param.{layout, copied}
use denote.RattleType.{RattleType}
use prog.Memory.{size}
use Rattle.rambo_names.specs.Room.{fits, room_of}
use Rattle.rambo_names.specs.declared.quorums.Quorums
use Rattle.std.specs.declared.cmp.PartialEq
use Rattle.rambo_gossip.specs.contracts.standing.Standing as standing

pub standing_fits : (i : ℕ) (T : RattleType) (qg : Quorums.Ghosts T.Denot) (pg : PartialEq.Ghosts T.Denot) → room_of T ≤ 4096 → size (layout (standing.the_row (copied i T) qg pg)) < 2 ^ 63
standing_fits i T qg pg h = fits (layout (standing.the_row (copied i T) qg pg)) (omega (arith, h))
