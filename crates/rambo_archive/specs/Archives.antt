-- What files hold and keep
use Rattle.std.specs.Prelude.{◌≡◌, ℕ, ◌+◌, ◌^◌, ⊤, min, List, Option, None, Some, Result, Ok, Err}
use Rattle.rambo_atomic.specs.Streams.{counted}

-- what is known to be kept is all that was taken
abbrev pub IsKept : Option (List ℕ) → Option (List ℕ) → Type 0
IsKept None taken = ⊤
IsKept (Some bytes) taken = taken ≡ Some bytes

-- how often a file was read, and how many of its calls failed
pub record DiskState : Type 0 where
  pub reads : ℕ
  pub failures : ℕ

-- one more call, which was answered or failed
abbrev pub disk_after : {T : Type 0} → {E : Type 0} → DiskState → Result T E → DiskState
disk_after d (Ok x) = d
disk_after d (Err e) = record d { failures = counted d.failures }

-- one more read; after 2^60 they aren't counted
abbrev pub disk_after_read : {T : Type 0} → {E : Type 0} → DiskState → Result T E → DiskState
disk_after_read d answer = disk_after (record d { reads = min (d.reads + 1) (2 ^ 60) }) answer
