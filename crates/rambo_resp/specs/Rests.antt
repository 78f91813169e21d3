-- What follows the last whole command: the beginning of another one, and which byte may not follow it
use Rattle.std.specs.Prelude.{◌≡◌, ℕ, ◌+◌, ◌≤◌, Bool, not, ◌&&◌, ◌==◌, if◌then◌else◌, List, [], ◌∷◌, ◌++◌, length, Option, decimal}
use Rattle.std.specs.Char.{is_ascii_digit}
use Rattle.std.specs.List.{flat_map, AllByRecursion}
use Rattle.rambo_resp.specs.Spellings.{number_line, item_spelling, IsShort, Spells}
use Rattle.rambo_resp.specs.declared.awaited.Awaited.{Awaited}
use Rattle.rambo_resp.specs.declared.awaited.Awaited.TheVariants.{Star, Count, CountMinus, CountMinusOne, CountDigits, CountFeed, NoCountFeed, Dollar, Length, LengthDigits, LengthFeed, Bytes, ItemFeed}
use Rattle.rambo_resp.specs.declared.fault.Fault.{Fault}
use Rattle.rambo_resp.specs.declared.fault.Fault.TheVariants.{NotArray, BadLength, TooManyItems, ItemTooLong, MissingCrlf}

-- a command that has begun: its whole items, the bytes of the next one, and what the next byte belongs to
pub record Rest : Type 0 where
  pub awaited : Awaited
  pub items : List (List ℕ)
  pub item : List ℕ

-- the items that have come, of an array of which this many are still to come
abbrev pub array_front : List (List ℕ) → ℕ → List ℕ
array_front items left = number_line 42 (length items + left) ++ flat_map item_spelling items

abbrev pub spelled_as : Awaited → List (List ℕ) → List ℕ → List ℕ
spelled_as Star items item = []
spelled_as Count items item = 42 ∷ []
spelled_as CountMinus items item = 42 ∷ 45 ∷ []
spelled_as CountMinusOne items item = 42 ∷ 45 ∷ 49 ∷ []
spelled_as (CountDigits n) items item = 42 ∷ decimal n
spelled_as (CountFeed n) items item = (42 ∷ decimal n) ++ 13 ∷ []
spelled_as NoCountFeed items item = 42 ∷ 45 ∷ 49 ∷ 13 ∷ []
spelled_as (Dollar left) items item = array_front items left
spelled_as (Length left) items item = array_front items left ++ 36 ∷ []
spelled_as (LengthDigits left n) items item = array_front items left ++ 36 ∷ decimal n
spelled_as (LengthFeed left n) items item = array_front items left ++ ((36 ∷ decimal n) ++ 13 ∷ [])
spelled_as (Bytes left more) items item = array_front items left ++ (number_line 36 (length item + more) ++ item)
spelled_as (ItemFeed left) items item = array_front items left ++ (number_line 36 (length item) ++ (item ++ 13 ∷ []))

-- the bytes of a command that has begun
abbrev pub spelled : Rest → List ℕ
spelled r = spelled_as r.awaited r.items r.item

-- nothing of the items has come
abbrev pub IsBare : List (List ℕ) → List ℕ → Type 0
IsBare items item = (items ≡ []) × (item ≡ [])

-- some items are still to come, and with them there are at most 128
abbrev pub IsWithin : List (List ℕ) → ℕ → Type 0
IsWithin items left = (1 ≤ left) × (length items + left ≤ 128) × AllByRecursion IsShort items

abbrev pub may_stand : Awaited → List (List ℕ) → List ℕ → Type 0
may_stand Star items item = IsBare items item
may_stand Count items item = IsBare items item
may_stand CountMinus items item = IsBare items item
may_stand CountMinusOne items item = IsBare items item
may_stand (CountDigits n) items item = (n ≤ 128) × IsBare items item
may_stand (CountFeed n) items item = (n ≤ 128) × IsBare items item
may_stand NoCountFeed items item = IsBare items item
may_stand (Dollar left) items item = IsWithin items left × (item ≡ [])
may_stand (Length left) items item = IsWithin items left × (item ≡ [])
may_stand (LengthDigits left n) items item = IsWithin items left × (item ≡ []) × (n ≤ 4096)
may_stand (LengthFeed left n) items item = IsWithin items left × (item ≡ []) × (n ≤ 4096)
may_stand (Bytes left more) items item = IsWithin items left × (length item + more ≤ 4096)
may_stand (ItemFeed left) items item = IsWithin items left × IsShort item

-- its numbers are within their limits
abbrev pub IsRest : Rest → Type 0
IsRest r = may_stand r.awaited r.items r.item

-- a digit that follows a number, unless that is 0: where it may not, it makes the number too great
abbrev pub goes_on : ℕ → ℕ → Bool
goes_on n byte = is_ascii_digit byte && not (n == 0)

-- the fault of a byte that may not follow, by what it should belong to
abbrev pub fault_of : Awaited → ℕ → ℕ → Fault
fault_of Star byte place = NotArray place
fault_of Count byte place = BadLength place
fault_of CountMinus byte place = BadLength place
fault_of CountMinusOne byte place = BadLength place
fault_of (CountDigits n) byte place = if goes_on n byte then TooManyItems place else BadLength place
fault_of (CountFeed n) byte place = MissingCrlf place
fault_of NoCountFeed byte place = MissingCrlf place
fault_of (Dollar left) byte place = NotArray place
fault_of (Length left) byte place = BadLength place
fault_of (LengthDigits left n) byte place = if goes_on n byte then ItemTooLong place else BadLength place
fault_of (LengthFeed left n) byte place = MissingCrlf place
fault_of (Bytes left more) byte place = MissingCrlf place
fault_of (ItemFeed left) byte place = MissingCrlf place

-- a proper prefix of a spelling
pub record IsOpen (bytes : List ℕ) : Type 0 where
  pub text : List ℕ
  pub tells : Option (List (List ℕ))
  pub spelling : Spells text tells
  pub more : List ℕ
  pub begins : text ≡ bytes ++ more
  pub proper : 1 ≤ length more

-- how these bytes go wrong: a prefix of them is open, with one more byte it isn't, and the fault is by what that byte
-- should belong to
pub record GoesWrong (bytes : List ℕ) (place : ℕ → ℕ) (fault : Fault) : Type 0 where
  pub front : Rest
  pub byte : ℕ
  pub more : List ℕ
  pub split : bytes ≡ spelled front ++ byte ∷ more
  pub stands : IsRest front
  pub open_front : IsOpen (spelled front)
  pub closed : IsOpen (spelled front ++ byte ∷ []) → ⊥
  pub told : fault ≡ fault_of front.awaited byte (place (length (spelled front)))
