use Rattle.std.proofs.Common.{◌≡◌, ◌-◌, fold, drop, length}
use Rattle.std.specs.FinSet as set
use Rattle.rambo_outbox.specs.Asking.{with_quorum}
use Rattle.rambo_outbox.proofs.asking.Choice.first_asked.Given as goal

-- the configurations from this place on are still to have a quorum
abbrev pub invariant-loop-config : goal.invariant-loop-config
invariant-loop-config g l = fold (with_quorum g.Q.Quorums.system l.self) l.who (drop l.place l.map.configs) ≡ fold (with_quorum g.Q.Quorums.system l.self) (set.insert set.empty l.self.me) l.map.configs

abbrev pub decreases-loop-config : goal.decreases-loop-config
decreases-loop-config g l = length l.map.configs - l.place
