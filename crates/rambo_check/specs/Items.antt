-- Which items there are, and how they are spelt
use Rattle.std.specs.Prelude.{◌≡◌, ◌≢◌, ℕ, ◌<◌, ◌^◌, List, [], ◌∷◌, Option, All}
use Rattle.rambo_names.specs.Names.{IsName}
use Rattle.rambo_history.specs.declared.operation.Answer.{Answer}
use Rattle.rambo_history.specs.declared.operation.Answer.TheVariants as answer
use Rattle.rambo_history.specs.declared.event.Event.{Event}
use Rattle.rambo_history.specs.declared.event.Event.TheVariants as event
use Rattle.rambo_text.specs.declared.version.Version.{Version}
use Rattle.rambo_text.specs.declared.version.Version.TheVariants.{Two}
use Rattle.rambo_text.specs.Signs.{IsCall, IsOp, AreBytes}
use Rattle.rambo_text.specs.Words.{AreMore}
use Rattle.rambo_check.specs.Lines.{Item, Happened, Collected, Settled, Refused, Ordered, OrderedAll, Mapped, item_words}

abbrev pub IsAnswer : Answer → Type 0
IsAnswer answer.Ok = Unit {0}
IsAnswer answer.Nil = Unit {0}
IsAnswer (answer.Value value) = AreBytes value

abbrev pub IsEvent : Event → Type 0
IsEvent (event.Call c o) = IsCall c × IsOp o
IsEvent (event.Answer c a) = IsCall c × IsAnswer a

-- names, numbers and bytes are in their ranges, and a map has a configuration
abbrev pub IsItem : Item → Type 0
IsItem (Happened e) = IsEvent e
IsItem (Collected name place) = IsName name × (place < 2 ^ 64)
IsItem (Settled name place conf) = IsName name × (place < 2 ^ 64)
IsItem (Refused step number) = (step < 2 ^ 64) × (number < 2 ^ 64)
IsItem (Ordered s) = AreBytes s.key × All IsCall s.calls
IsItem (OrderedAll calls) = All IsCall calls
IsItem (Mapped name floor confs) = IsName name × (floor < 2 ^ 64) × (confs ≢ [])

-- texts of this version have such lines: those of version 2 alone have an order of all keys' calls
abbrev pub IsLineIn : Version → Item → Type 0
IsLineIn version (Happened e) = Unit {0}
IsLineIn version (Collected name place) = Unit {0}
IsLineIn version (Settled name place conf) = Unit {0}
IsLineIn version (Refused step number) = Unit {0}
IsLineIn version (Ordered s) = Unit {0}
IsLineIn version (OrderedAll calls) = version ≡ Two
IsLineIn version (Mapped name floor confs) = Unit {0}

-- the item's words are this one and those after it
abbrev pub IsSpelling : List ℕ → Option (List ℕ) → Item → Type 0
IsSpelling first more i = IsItem i × (words : List (List ℕ)) × AreMore more words × (item_words i ≡ first ∷ words)

-- a line that is only read for its form
abbrev pub IsPassed : Item → Type 0
IsPassed (Happened e) = ⊥
IsPassed (Collected name place) = Unit {0}
IsPassed (Settled name place conf) = Unit {0}
IsPassed (Refused step number) = Unit {0}
IsPassed (Ordered s) = ⊥
IsPassed (OrderedAll calls) = ⊥
IsPassed (Mapped name floor confs) = Unit {0}
