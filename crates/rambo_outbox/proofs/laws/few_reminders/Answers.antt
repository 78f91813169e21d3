use Rattle.rambo_outbox.proofs.Few.{few_reminders}
use Rattle.rambo_outbox.proofs.laws.few_reminders.Goals as goal

pub returns : goal.returns
returns g c = few_reminders g.Q.Quorums.system
