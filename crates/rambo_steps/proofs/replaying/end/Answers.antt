use Rattle.std.proofs.lemmas.Result.{IfOk-at_ok}
use Rattle.rambo_steps.proofs.RunAlong.{given_once}
use Rattle.rambo_steps.proofs.replaying.end.Goals as goal

pub write_order_of-requires : goal.write_order_of-requires
write_order_of-requires g c =
    given_once _ _ _ _ (IfOk-at_ok _ c.in_ok-sequences.ensures.ok c.sequences.ensures.given) (IfOk-at_ok _ c.in_ok-sequences.ensures.ok c.sequences.ensures.proper) c.as_slice-2.ensures.value
