-- The letters that wait for one name, and for how many more there is room
use Rattle.std.specs.Prelude.{◌≡◌, ℕ, ◌-◌, ◌≤◌, List, [], map, length, Option, None, Some, slice_index_or}
use Rattle.rambo_mail.specs.declared.entry.Entry.{Entry}

pub record QueueState : Type 0 where
  pub entries : List Entry
  pub room : ℕ

abbrev pub no_queue : QueueState
no_queue = record { entries = []; room = 0 }

abbrev pub lists_of : List QueueState → List (List Entry)
lists_of qs = map (λ (q : QueueState). q.entries) qs

-- there is room for a letter to a name, which may have to wait twice
abbrev pub HasRoom : List QueueState → Option ℕ → Type 0
HasRoom qs None = Unit {0}
HasRoom qs (Some to) = 2 ≤ (slice_index_or qs (to - 1) no_queue).room

-- what holds of the mail: each of the 64 names has its list, and there is the room that is noted
pub record IsMail (qs : List QueueState) (ready : Option ℕ) : Type 0 where
  pub queues : length qs ≡ 64
  pub room : HasRoom qs ready
