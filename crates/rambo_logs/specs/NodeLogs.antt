-- The logs of all nodes, and what a node lacks of a part of another's log
use Rattle.std.specs.Prelude.{ℕ, ◌-◌, List, [], ◌++◌, filter, take, drop, Option, None, Some, slice_index_or, slice_set}
use Rattle.std.specs.FinMap.{get}
use Rattle.rambo_tag.specs.declared.keyed_version.KeyedVersion.{KeyedVersion}
use Rattle.rambo_tag.specs.Tags.{is_newer}
use Rattle.rambo_tag.specs.Copies.{Copies}

-- room for one copy of a key in the log of a name
pub record Room : Type 0 where
  pub name : ℕ
  pub key : List ℕ

-- copies that were brought to a name, in whose log there is room for them
pub record Brought : Type 0 where
  pub to : ℕ
  pub copies : List KeyedVersion

-- the logs of the names 1 to 64, the oldest copies first, and what there is room for
pub record LogsState : Type 0 where
  pub logs : List (List KeyedVersion)
  pub room : Option Room
  pub brought : Option Brought

-- the log of a name
abbrev pub log_at : List (List KeyedVersion) → ℕ → List KeyedVersion
log_at logs name = slice_index_or logs (name - 1) []

-- the logs with more copies at the end of the log of a name
abbrev pub extended : List (List KeyedVersion) → ℕ → List KeyedVersion → List (List KeyedVersion)
extended logs name more = slice_set logs (name - 1) (log_at logs name ++ more)

-- what a list has from one place up to another, as far as it goes
abbrev pub part : {X : Type 0} → List X → ℕ → ℕ → List X
part log start end = drop start (take end log)

-- the copies that are newer than what is held
abbrev pub lacked : Copies → List KeyedVersion → List KeyedVersion
lacked held copies = filter (λ c. is_newer (get held c.key) c.version) copies

-- logs with room for nothing
abbrev pub settled : List (List KeyedVersion) → LogsState
settled logs = record { logs = logs; room = None; brought = None }

-- with room for one copy
abbrev pub with_room : List (List KeyedVersion) → ℕ → List ℕ → LogsState
with_room logs name key = record { logs = logs; room = Some (record { name = name; key = key }); brought = None }

-- with copies that were brought
abbrev pub with_brought : List (List KeyedVersion) → ℕ → List KeyedVersion → LogsState
with_brought logs to copies = record { logs = logs; room = None; brought = Some (record { to = to; copies = copies }) }
