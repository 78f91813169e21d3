-- What an outcome text says, line by line
use Rattle.std.specs.Prelude.{ℕ, ◌+◌, List, [], ◌∷◌, ◌++◌, fold, Option, None, Some, IsSome}
use Rattle.std.specs.Map.{lookup}
use Rattle.std.specs.List.{AllByRecursion}
use Rattle.std.specs.Str.{bytes_eq}
use Rattle.rambo_history.specs.declared.event.CallId.{CallId}
use Rattle.rambo_history.specs.declared.event.Event.{Event}
use Rattle.rambo_history.specs.Faults.{fault_of}
use Rattle.rambo_history.specs.Proper.{EverySplit}
use Rattle.rambo_check.specs.Lines.{Item, Happened, Collected, Settled, Refused, Ordered, OrderedAll, Mapped}
use Rattle.rambo_text.specs.declared.version.Version.{Version}
use Rattle.rambo_text.specs.Versions.{head_lines}
use Rattle.rambo_check.specs.Items.{IsItem, IsLineIn}

-- how many lines are read, the one that tells the version too; the calls and answers in their order; each key that has
-- an order, with it; and the order of the calls of all keys, if there is one. Of each of these the number of its line
pub record EvidenceState : Type 0 where
  pub lines : ℕ
  pub events : List Event
  pub event_lines : List ℕ
  pub orders : List (List ℕ × List CallId)
  pub order_lines : List (List ℕ × ℕ)
  pub order : Option (List CallId)
  pub order_line : Option ℕ

-- before a line behind the head of a text of this version is read
abbrev pub no_evidence : Version → EvidenceState
no_evidence version =
    record { lines = head_lines version; events = []; event_lines = []; orders = []; order_lines = []; order = None; order_line = None }

-- with one line more
abbrev pub passed : EvidenceState → EvidenceState
passed s = record s { lines = s.lines + 1 }

-- and with what it tells
abbrev pub with_item : EvidenceState → Item → EvidenceState
with_item s (Happened e) = record (passed s) { events = s.events ++ e ∷ []; event_lines = s.event_lines ++ (s.lines + 1) ∷ [] }
with_item s (Collected name place) = passed s
with_item s (Settled name place conf) = passed s
with_item s (Refused step number) = passed s
with_item s (Ordered o) = record (passed s) { orders = s.orders ++ (o.key, o.calls) ∷ []; order_lines = s.order_lines ++ (o.key, s.lines + 1) ∷ [] }
with_item s (OrderedAll calls) = record (passed s) { order = Some calls; order_line = Some (s.lines + 1) }
with_item s (Mapped name floor confs) = passed s

abbrev pub evidence_of : Version → List Item → EvidenceState
evidence_of version items = fold with_item (no_evidence version) items

-- an event that can't be appended to the history, a second order of a key, or a second one of all keys
abbrev pub IsBadItem : EvidenceState → Item → Type 0
IsBadItem s (Happened e) = IsSome (fault_of s.events e)
IsBadItem s (Collected name place) = ⊥
IsBadItem s (Settled name place conf) = ⊥
IsBadItem s (Refused step number) = ⊥
IsBadItem s (Ordered o) = IsSome (lookup (bytes_eq o.key) s.orders)
IsBadItem s (OrderedAll calls) = IsSome s.order
IsBadItem s (Mapped name floor confs) = ⊥

-- each item is in range and of this version, and none is bad after those before it
pub record AreGood (version : Version) (items : List Item) : Type 0 where
  pub in_range : AllByRecursion IsItem items
  pub of_version : AllByRecursion (IsLineIn version) items
  pub none_bad : EverySplit (λ front i back. ¬ (IsBadItem (evidence_of version front) i)) items
