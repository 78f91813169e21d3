use Rattle.std.proofs.lemmas.Result.{IfOk-at_ok, IfOk-weaker}
use Rattle.rambo_replay.proofs.Founding.{founded_by}
use Rattle.rambo_replay.proofs.replaying.founded_by.Goals as goal

pub returns-clause-founded : goal.returns-clause-founded
returns-clause-founded c =
    IfOk-weaker c.in_memory.result _ _ (λ r told.
    founded_by _ _ _ c.in_ok-founders.ensures.founders (IfOk-at_ok _ told c.new-2.ensures.made)) c.in_memory.ensures.ok
