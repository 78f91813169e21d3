use Rattle.std.proofs.Common.{◌≡◌, ◌++◌, take, drop}
use Rattle.rambo_book.specs.Mailing.{without}
use Rattle.rambo_book.proofs.forgetting.place_in.Given as goal

abbrev pub invariant-loop-at : goal.invariant-loop-at
invariant-loop-at g l = without l.tray l.number ≡ take l.at l.tray ++ without (drop l.at l.tray) l.number
