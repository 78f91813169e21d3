use Rattle.std.proofs.Common.{◌≡◌, [], replicate}
use Rattle.rambo_mail.specs.Queues.{lists_of}
use Rattle.rambo_mail.proofs.mails.Mails.new.Given as goal

abbrev pub invariant-loop-place : goal.invariant-loop-place
invariant-loop-place l = lists_of l.queues.items ≡ replicate l.place []
