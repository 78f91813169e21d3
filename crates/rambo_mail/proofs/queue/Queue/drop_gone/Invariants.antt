use Rattle.std.proofs.Common.{◌≡◌, ◌≤◌, length}
use Rattle.rambo_mail.specs.Waiting.{drop_gone}
use Rattle.rambo_mail.proofs.queue.Queue.drop_gone.Given as goal

abbrev pub invariant-loop-self : goal.invariant-loop-self
invariant-loop-self l = (drop_gone l.gone l.self.entries ≡ drop_gone l.gone l.initial.self.entries) × (l.initial.self.room ≤ l.self.room)

abbrev pub decreases-loop-self : goal.decreases-loop-self
decreases-loop-self l = length l.self.entries
