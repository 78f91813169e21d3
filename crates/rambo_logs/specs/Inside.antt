-- What is seen of the logs as they are stored, and what holds of them
use Rattle.std.specs.Prelude.{ℕ, ◌+◌, ◌-◌, ◌<◌, ◌≤◌, List, [], map, length, Option, None, Some, All, Vec, slice_index_or}
use Rattle.std.specs.declared.alloc.Global.{Global}
use Rattle.std.specs.Vec.{vec_len, vec_capacity}
use Rattle.rambo_logs.specs.declared.entry.Entry.{Entry}
use Rattle.rambo_logs.specs.declared.pending.Pending.{Pending}
use Rattle.rambo_logs.specs.declared.pending.Pending.TheVariants.{Nothing, Put, TakeOn}
use Rattle.rambo_logs.specs.declared.logs.Logs.TheInside.{Inside}
use Rattle.rambo_logs.specs.NodeLogs.{LogsState, Room, Brought}
use Rattle.rambo_logs.specs.Stored.{hint_place, copies_of, entries_of, IsEntry, AreStored}

abbrev pub room_in : List (List ℕ) → Pending → Option Room
room_in keys Nothing = None
room_in keys (Put name number) = Some (record { name = name; key = slice_index_or keys number [] })
room_in keys (TakeOn to) = None

abbrev pub brought_in : Inside → Pending → Option Brought
brought_in l Nothing = None
brought_in l (Put name number) = None
brought_in l (TakeOn to) = Some (record { to = to; copies = copies_of l.puts.items l.lacked.items })

abbrev pub seen : Inside → LogsState
seen l = record {
  logs = map (copies_of l.puts.items) (entries_of l.logs.items);
  room = room_in l.keys l.pending;
  brought = brought_in l l.pending;
}

-- there is room for a copy of the key of this number in the log of a name
pub record HasRoom (l : Inside) (name number : ℕ) : Type 0 where
  pub put : vec_len l.puts < vec_capacity l.puts
  pub known : number < length l.keys
  pub row : hint_place number 64 ≤ length l.hints.items
  pub log : (d : Vec Entry Global) → vec_len (slice_index_or l.logs.items (name - 1) d) < vec_capacity (slice_index_or l.logs.items (name - 1) d)

-- the entries that were brought refer to copies, and there is room for them
pub record HasBrought (l : Inside) (to : ℕ) : Type 0 where
  pub entries : All (IsEntry l.puts.items l.keys l.hints.items) l.lacked.items
  pub log : (d : Vec Entry Global) → vec_len (slice_index_or l.logs.items (to - 1) d) + length l.lacked.items ≤ vec_capacity (slice_index_or l.logs.items (to - 1) d)

abbrev pub IsReady : Inside → Pending → Type 0
IsReady l Nothing = Unit {0}
IsReady l (Put name number) = HasRoom l name number
IsReady l (TakeOn to) = HasBrought l to

pub record AreKept (l : Inside) : Type 0 where
  pub stored : AreStored l.puts.items l.keys l.hints.items (entries_of l.logs.items)
  pub ready : IsReady l l.pending
