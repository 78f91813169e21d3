-- Runs have a size where their configurations have one
use Rattle.std.proofs.Common.{◌<◌, ◌≤◌, ◌^◌, arith}
use denote.Param.{layout, copied}
use denote.RattleType.{RattleType}
use prog.Memory.{size}
use Rattle.rambo_names.specs.Room.{fits, room_of}
use Rattle.rambo_names.specs.declared.quorums.Quorums
use Rattle.std.specs.declared.cmp.PartialEq
use Rattle.rambo_tag.specs.declared.replica.Replica
use Rattle.rambo_world.specs.contracts.running.Running.{the_row}
use Rattle.rambo_tag.specs.contracts.registers.Registers
use Rattle.std.specs.contracts.hash.BuildHasherDefault
use Rattle.std.specs.contracts.hash.FoldHasher
use Rattle.std.below.core.specs.contracts.clone.Clone+copy.TheImpl as TheCopy
use Rattle.std.specs.contracts.prelude.BuildHasherDefaultBuildHasher.TheImpl as TheBuilder
use Rattle.std.specs.contracts.prelude.FoldHasherHasher.TheImpl as TheHasher

abbrev pub replica_row : RattleType
replica_row = Registers.the_row (BuildHasherDefault.the_row FoldHasher.the_row) FoldHasher.the_row (TheBuilder.ghosts FoldHasher.the_row TheHasher.ghosts TheBuilder.no_dict (TheCopy.ghosts FoldHasher.the_row) TheBuilder.no_dict) TheHasher.ghosts

pub running_fits : (T : RattleType) (qg : Quorums.Ghosts T.Denot) (pg : PartialEq.Ghosts T.Denot) (rg : Replica.Ghosts replica_row.Denot)
    → room_of T ≤ 4096 → size (layout (the_row (copied 0 T) replica_row qg pg rg)) < 2 ^ 63
running_fits T qg pg rg h = fits (layout (the_row (copied 0 T) replica_row qg pg rg)) (omega (arith, h))
