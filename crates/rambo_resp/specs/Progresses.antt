-- How a stream is read byte by byte
use Rattle.std.specs.Prelude.{◌≡◌, ◌≢◌, ℕ, ◌+◌, ◌-◌, ◌*◌, Bool, false, not, ◌&&◌, ◌==◌, nat_le, if◌then◌else◌, List, [], ◌∷◌, ◌++◌, Option, Some, None}
use Rattle.std.specs.Char.{is_ascii_digit}
use Rattle.rambo_resp.specs.Rests.{Rest, goes_on, fault_of}
use Rattle.rambo_resp.specs.Streams.{place_of}
use Rattle.rambo_resp.specs.declared.awaited.Awaited.{Awaited}
use Rattle.rambo_resp.specs.declared.awaited.Awaited.TheVariants.{Star, Count, CountMinus, CountMinusOne, CountDigits, CountFeed, NoCountFeed, Dollar, Length, LengthDigits, LengthFeed, Bytes, ItemFeed}
use Rattle.rambo_resp.specs.declared.fault.Fault.{Fault}
use Rattle.rambo_resp.specs.declared.fault.Fault.TheVariants.{OutOfMemory}

-- a number with one more digit
abbrev pub longer : ℕ → ℕ → ℕ
longer n byte = 10 * n + (byte - 48)

-- the same, where it is a number of at most this
abbrev pub grown : ℕ → ℕ → ℕ → Option ℕ
grown n byte most = if goes_on n byte && nat_le (longer n byte) most then Some (longer n byte) else None

abbrev pub as_count : Option ℕ → Option Awaited
as_count None = None
as_count (Some n) = Some (CountDigits n)

abbrev pub as_length : ℕ → Option ℕ → Option Awaited
as_length left None = None
as_length left (Some n) = Some (LengthDigits left n)

-- whether no item follows
abbrev pub is_last : ℕ → Bool
is_last left = nat_le left 1

-- what the byte after this one belongs to, where this one is allowed; Star where a spelling is whole with it
abbrev pub after : Awaited → ℕ → Option Awaited
after Star b = if b == 42 then Some Count else None
after Count b = if b == 45 then Some CountMinus else (if is_ascii_digit b then Some (CountDigits (b - 48)) else None)
after CountMinus b = if b == 49 then Some CountMinusOne else None
after CountMinusOne b = if b == 13 then Some NoCountFeed else None
after (CountDigits n) b = if b == 13 then Some (CountFeed n) else as_count (grown n b 128)
after (CountFeed n) b = if b == 10 then Some (if n == 0 then Star else Dollar n) else None
after NoCountFeed b = if b == 10 then Some Star else None
after (Dollar left) b = if b == 36 then Some (Length left) else None
after (Length left) b = if is_ascii_digit b then Some (LengthDigits left (b - 48)) else None
after (LengthDigits left n) b = if b == 13 then Some (LengthFeed left n) else as_length left (grown n b 4096)
after (LengthFeed left n) b = if b == 10 then Some (Bytes left n) else None
after (Bytes left more) b = if more == 0 then (if b == 13 then Some (ItemFeed left) else None) else Some (Bytes left (more - 1))
after (ItemFeed left) b = if b == 10 then Some (if is_last left then Star else Dollar (left - 1)) else None

-- what has come when this byte has, and the next one belongs to that
abbrev pub rest_as : Awaited → List (List ℕ) → List ℕ → ℕ → Awaited → Rest
rest_as (CountFeed n) items item b a = record { awaited = a; items = []; item = item }
rest_as (LengthFeed left n) items item b a = record { awaited = a; items = items; item = [] }
rest_as (Bytes left more) items item b a = record { awaited = a; items = items; item = if more == 0 then item else item ++ b ∷ [] }
rest_as (ItemFeed left) items item b a = record { awaited = a; items = if is_last left then [] else items ++ item ∷ []; item = [] }
rest_as _ items item b a = record { awaited = a; items = items; item = item }

abbrev pub rest_after : Rest → ℕ → Awaited → Rest
rest_after r b a = rest_as r.awaited r.items r.item b a

-- the command that the last byte of an item makes whole
abbrev pub whole_as : Awaited → List (List ℕ) → List ℕ → List (List (List ℕ))
whole_as (ItemFeed left) items item = if is_last left then (items ++ item ∷ []) ∷ [] else []
whole_as _ items item = []

abbrev pub whole : Rest → List (List (List ℕ))
whole r = whole_as r.awaited r.items r.item

-- the whole commands, the place of the next byte, and the command that has begun
pub record ProgressState : Type 0 where
  pub waiting : List (List (List ℕ))
  pub place : ℕ
  pub rest : Rest

-- how far a stream was read: it goes on, or it broke after these commands
pub data Run : Type 0 where
  running : ProgressState → Run
  broken : List (List (List ℕ)) → Fault → Run

-- one byte, after which the next belongs to this, if it is allowed
abbrev pub stepped : Option Awaited → ProgressState → ℕ → Run
stepped None p b = broken p.waiting (fault_of p.rest.awaited b p.place)
stepped (Some a) p b = running (record { waiting = p.waiting ++ whole p.rest; place = place_of (p.place + 1); rest = rest_after p.rest b a })

abbrev pub step : ProgressState → ℕ → Run
step p b = stepped (after p.rest.awaited b) p b

abbrev pub onward : Run → ℕ → Run
onward (running p) b = step p b
onward (broken cs fault) b = broken cs fault

unfoldable pub run : Run → List ℕ → Run
run r [] = r
run r (b ∷ bs) = run (onward r b) bs

-- a progress to which this item has come
abbrev pub with_item : ProgressState → ℕ → List ℕ → ProgressState
with_item p left item = record p { waiting = p.waiting ++ whole_as (ItemFeed left) p.rest.items item; rest = rest_as (ItemFeed left) p.rest.items item 0 p.rest.awaited }

-- a progress when this item was read at once, by a spelling of this many bytes
abbrev pub item_read : ProgressState → ℕ → List ℕ → ℕ → ProgressState
item_read p left item n = record {
  waiting = p.waiting ++ whole_as (ItemFeed left) p.rest.items item;
  place = place_of (p.place + n);
  rest = rest_as (ItemFeed left) p.rest.items item 10 (if is_last left then Star else Dollar (left - 1));
}

-- a progress when the line of an array of some items was read at once, a line of this many bytes
abbrev pub line_read : ProgressState → ℕ → ℕ → ProgressState
line_read p items n = record { waiting = p.waiting; place = place_of (p.place + n); rest = record { awaited = Dollar items; items = []; item = p.rest.item } }

-- whether the next byte is one of an item
abbrev pub are_bytes : Awaited → Bool
are_bytes (Bytes left more) = not (more == 0)
are_bytes _ = false

-- nothing has come
abbrev pub fresh : Rest
fresh = record { awaited = Star; items = []; item = [] }

-- the same commands, and maybe more after them
abbrev pub Extends : List (List (List ℕ)) → List (List (List ℕ)) → Type 0
Extends old new = (more : List (List (List ℕ))) × (new ≡ old ++ more)

-- bytes were read until they broke after the whole commands, or memory ran out
abbrev pub Stops : ProgressState → List ℕ → ProgressState → Fault → Type 0
Stops old bytes new fault = fault ≢ OutOfMemory → run (running old) bytes ≡ broken new.waiting fault
