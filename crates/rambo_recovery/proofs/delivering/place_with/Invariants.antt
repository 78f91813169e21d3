use Rattle.std.proofs.Common.{◌≡◌, ◌<◌, ℕ, Some, slice_get}
use Rattle.rambo_book.specs.Kept.{KeeperView}
use Rattle.rambo_book.specs.Readying.{IsIn}
use Rattle.rambo_recovery.proofs.delivering.place_with.Given as goal

abbrev pub invariant-loop-place : goal.invariant-loop-place
invariant-loop-place g l = (place : ℕ) (k : KeeperView _) → place < l.place → slice_get l.keepers place ≡ Some k → IsIn k.tray l.number → ⊥
