use Rattle.std.proofs.Common.{◌≡◌, length}
use Rattle.rambo_book.specs.Readying.{mail_in}
use Rattle.rambo_book.proofs.first_half.mail_of.Given as goal

abbrev pub invariant-loop-mail : goal.invariant-loop-mail
invariant-loop-mail g l = mail_in l.tray l.number ≡ mail_in l.rest l.number

abbrev pub decreases-loop-mail : goal.decreases-loop-mail
decreases-loop-mail g l = length l.rest
