use Rattle.std.proofs.Common.{◌≡◌, ◌<◌, ℕ, Some, slice_get}
use Rattle.rambo_mail.specs.declared.mail.Mail.{Mail}
use Rattle.rambo_recovery.proofs.delivering.is_in.Given as goal

abbrev pub invariant-loop-place : goal.invariant-loop-place
invariant-loop-place g l = (place : ℕ) (m : Mail _) → place < l.place → slice_get l.tray place ≡ Some m → m.number ≡ l.number → ⊥
