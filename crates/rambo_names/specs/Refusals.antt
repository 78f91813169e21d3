-- Refusals: their numbers, and which one is answered
use Rattle.std.specs.Prelude.{◌≡◌, codes, ℕ, Bool, if◌then◌else◌, List, [], ◌∷◌, Option, None, Some}
use Rattle.rambo_names.specs.declared.refusal.Refusal.{Refusal}
use Rattle.rambo_names.specs.declared.refusal.Refusal.TheVariants.{NoSuchName, NameUsed, NotActive, Stopped, NotKnown, NoSuchLetter, NoSuchCall, NotYet, Busy, NothingToCollect, CollectOpen, NoCollect, NotMember, ReconOpen, NoRecon, TooManyActive, UnknownMember, EmptyMembers, KeyTooLong, ValueTooLong, NumbersSpent, OutOfMemory, HistoryFull, NoPassLeft, LetterGone}

abbrev pub number_of : Refusal → ℕ
number_of NoSuchName = 1
number_of NameUsed = 2
number_of NotActive = 3
number_of Stopped = 4
number_of NotKnown = 5
number_of NoSuchLetter = 6
number_of NoSuchCall = 7
number_of NotYet = 8
number_of Busy = 9
number_of NothingToCollect = 10
number_of CollectOpen = 11
number_of NoCollect = 12
number_of NotMember = 13
number_of ReconOpen = 14
number_of NoRecon = 15
number_of TooManyActive = 16
number_of UnknownMember = 17
number_of EmptyMembers = 18
number_of KeyTooLong = 19
number_of ValueTooLong = 20
number_of NumbersSpent = 21
number_of OutOfMemory = 22
number_of HistoryFull = 23
number_of NoPassLeft = 24
number_of LetterGone = 25

-- the word that is printed for a refusal
abbrev pub word_of : Refusal → List ℕ
word_of NoSuchName = codes "NoSuchName"
word_of NameUsed = codes "NameUsed"
word_of NotActive = codes "NotActive"
word_of Stopped = codes "Stopped"
word_of NotKnown = codes "NotKnown"
word_of NoSuchLetter = codes "NoSuchLetter"
word_of NoSuchCall = codes "NoSuchCall"
word_of NotYet = codes "NotYet"
word_of Busy = codes "Busy"
word_of NothingToCollect = codes "NothingToCollect"
word_of CollectOpen = codes "CollectOpen"
word_of NoCollect = codes "NoCollect"
word_of NotMember = codes "NotMember"
word_of ReconOpen = codes "ReconOpen"
word_of NoRecon = codes "NoRecon"
word_of TooManyActive = codes "TooManyActive"
word_of UnknownMember = codes "UnknownMember"
word_of EmptyMembers = codes "EmptyMembers"
word_of KeyTooLong = codes "KeyTooLong"
word_of ValueTooLong = codes "ValueTooLong"
word_of NumbersSpent = codes "NumbersSpent"
word_of OutOfMemory = codes "OutOfMemory"
word_of HistoryFull = codes "HistoryFull"
word_of NoPassLeft = codes "NoPassLeft"
word_of LetterGone = codes "LetterGone"

-- a cause of refusal, and whether it holds
pub record Cause : Type 0 where
  pub refusal : Refusal
  pub holds : Bool

abbrev pub cause : Refusal → Bool → Cause
cause r b = record { refusal = r; holds = b }

-- the first cause that holds, of a list in ascending order of number
abbrev pub least : List Cause → Option Refusal
least [] = None
least (c ∷ cs) = if c.holds then Some c.refusal else least cs

-- that refusal; or `OutOfMemory`, where there is none
abbrev pub IsRefusal : Option Refusal → Refusal → Type 0
IsRefusal (Some f) r = r ≡ f
IsRefusal None r = r ≡ OutOfMemory
