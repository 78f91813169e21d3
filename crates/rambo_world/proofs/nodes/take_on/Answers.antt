use Rattle.std.proofs.Common.{ap}
use Rattle.rambo_world.proofs.nodes.take_on.Goals as goal

pub take_on-requires : goal.take_on-requires
take_on-requires c = c.requires c.if-start-end.true

pub returns-then-start-end : goal.returns-then-start-end
returns-then-start-end c more brought none = ap (λ s. s.logs) (c.take_on.ensures (record { to = c.args.to; copies = more }) (brought c.if-start-end.true))
