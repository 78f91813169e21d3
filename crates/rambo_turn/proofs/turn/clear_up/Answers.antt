use Rattle.std.proofs.Common.{sym}
use Rattle.rambo_turn.proofs.Turned.{cleared_other}
use Rattle.rambo_turn.proofs.turn.clear_up.Goals as goal

pub forget-requires : goal.forget-requires
forget-requires g c = c.requires-raw.1.1.1

pub returns-in_default : goal.returns-in_default
returns-in_default g c =
    let k = c.args.keeper.now in
    λ i. record k { tray = sym (cleared_other k.tray c.args.step.now c.in_default.not-Deliver) i }
