-- What reads and writes of a stream do
use Rattle.std.specs.Prelude.{◌≡◌, ℕ, zero, suc, ◌+◌, ◌-◌, ◌^◌, min, List, ◌++◌, take, drop, Option, Result, Ok, Err, IsErrAnd}
use Rattle.std.specs.IoError.{error_kind}
use Rattle.std.specs.Io.KnownBytes.{Appends}
use Rattle.std.specs.declared.io.Error.{Error}
use Rattle.std.specs.declared.io.ErrorKind.TheVariants.{Interrupted}

-- a count of one more call; it stops at the greatest number of 64 bits
abbrev pub counted : ℕ → ℕ
counted n = min (n + 1) (2 ^ 64 - 1)

-- known bytes grew by a prefix of the text
abbrev pub Begins : Option (List ℕ) → Option (List ℕ) → List ℕ → Type 0
Begins old new text = (written : List ℕ) × (rest : List ℕ) × (text ≡ written ++ rest) × Appends old new written

-- a call that gave this answer was interrupted by a signal
abbrev pub IsInterruption : Result ℕ Error → Type 0
IsInterruption answer = IsErrAnd answer (λ e. error_kind e ≡ Interrupted)

-- a number of calls, each of which gives an answer and leaves a stream, were interrupted, one after another
abbrev pub AreInterrupted : {T : Type 0} → (T → Result ℕ Error → T → Type 0) → ℕ → T → T → Type 0
AreInterrupted gives zero old new = new ≡ old
AreInterrupted {T} gives (suc n) old new = (between : T) × (answer : Result ℕ Error) × AreInterrupted gives n old between × gives between answer new × IsInterruption answer

-- a call was made again as long as it was interrupted, 2^64 - 1 times at most, and gave this answer at last
abbrev pub Answers : {T : Type 0} → (T → Result ℕ Error → T → Type 0) → T → Result ℕ Error → T → Type 0
Answers {T} gives old answer new =
    (n : ℕ) × (between : T) × AreInterrupted gives n old between × gives between answer new × (IsInterruption answer → n ≡ 2 ^ 64 - 1)

-- a reader or writer of std, how often it was read, and how many of its calls failed
pub record WrappedState (T : Type 0) : Type 0 where
  pub inner : T
  pub reads : ℕ
  pub failures : ℕ

-- one more read, which gave a number of bytes or failed, and left the inner reader so
abbrev pub wrapped_after_read : {T : Type 0} → {E : Type 0} → WrappedState T → T → Result ℕ E → WrappedState T
wrapped_after_read w inner (Ok n) = record { inner = inner; reads = w.reads + 1; failures = w.failures }
wrapped_after_read w inner (Err e) = record { inner = inner; reads = min (w.reads + 1) (2 ^ 60); failures = counted w.failures }

-- one more write, which took a number of bytes or failed, and left the inner writer so
abbrev pub wrapped_after_write : {T : Type 0} → {E : Type 0} → WrappedState T → T → Result ℕ E → WrappedState T
wrapped_after_write w inner (Ok n) = record w { inner = inner }
wrapped_after_write w inner (Err e) = record w { inner = inner; failures = counted w.failures }

-- bytes in memory, of which those before a place were read. `room`: how many more can be written without allocating.
-- `piece`: the longest piece that a call takes. `until`: in how many calls one fails (0: in none). `reads`, `failures`:
-- how often they were read, and how many calls failed
pub record TapeState : Type 0 where
  pub bytes : List ℕ
  pub room : ℕ
  pub place : ℕ
  pub piece : ℕ
  pub until : ℕ
  pub reads : ℕ
  pub failures : ℕ

-- what a tape has left to be read
abbrev pub tape_left : TapeState → List ℕ
tape_left t = drop t.place t.bytes

-- one more read, which gave a number of bytes or failed
abbrev pub tape_after_read : {E : Type 0} → TapeState → Result ℕ E → TapeState
tape_after_read t (Ok n) = record t { place = t.place + n; until = t.until - 1; reads = t.reads + 1 }
tape_after_read t (Err e) = record t { until = t.until - 1; reads = min (t.reads + 1) (2 ^ 60); failures = counted t.failures }

-- one more write, which took a number of these bytes or failed, and left this room
abbrev pub tape_after_write : {E : Type 0} → TapeState → List ℕ → ℕ → Result ℕ E → TapeState
tape_after_write t bytes room (Ok n) = record t { bytes = t.bytes ++ take n bytes; room = room; until = t.until - 1 }
tape_after_write t bytes room (Err e) = record t { room = room; until = t.until - 1; failures = counted t.failures }
