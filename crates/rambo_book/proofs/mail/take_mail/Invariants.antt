use Rattle.std.proofs.Common.{◌≡◌, ℕ, ◌≤◌, length}
use Rattle.rambo_book.specs.Kept.{state}
use Rattle.rambo_mail.specs.Waiting.{waiting_for}
use Rattle.rambo_book.specs.Windows.{gone_of}
use Rattle.rambo_book.specs.Mailing.{AreTaken}
use Rattle.rambo_book.proofs.mail.take_mail.Given as goal

abbrev pub invariant-loop-entry : goal.invariant-loop-entry
invariant-loop-entry g l =
    (l.book ≡ record l.fn.book { waiting = l.book.waiting })
    × (l.keeper ≡ record l.fn.keeper { tray = l.keeper.tray })
    × (count : ℕ) × (count ≤ length (waiting_for l.fn.book.waiting l.fn.keeper.name))
    × AreTaken (state g.Q.Quorums.system l.fn.book) (gone_of g.J.Terms.endless g.J.Terms.capacity (state g.Q.Quorums.system l.fn.book)) l.fn.keeper.name count l.fn.book.waiting l.book.waiting l.fn.keeper.tray l.keeper.tray

abbrev pub decreases-loop-entry : goal.decreases-loop-entry
decreases-loop-entry g l = length (waiting_for l.book.waiting l.fn.keeper.name)
