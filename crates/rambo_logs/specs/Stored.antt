-- How the logs are stored: each copy once, entries with its place, and of each key and node a hint
use Rattle.std.specs.Prelude.{◌≡◌, ℕ, zero, suc, ◌+◌, ◌*◌, ◌<◌, ◌≤◌, Bool, if◌then◌else◌, List, [], ◌∷◌, map, length, Option, None, Some, All, Vec, slice_index, slice_index_or, slice_set}
use Rattle.std.specs.declared.alloc.Global.{Global}
use Rattle.std.specs.FinMap.{get}
use Rattle.rambo_tag.specs.declared.keyed_version.KeyedVersion.{KeyedVersion}
use Rattle.rambo_tag.specs.declared.version.Version.{Version}
use Rattle.rambo_tag.specs.Tags.{no_tag, is_newer}
use Rattle.rambo_tag.specs.Logs.{greatest_of}
use Rattle.rambo_logs.specs.declared.entry.Entry.{Entry}

-- what is found past the end of what was put
abbrev pub no_copy : KeyedVersion
no_copy = record { key = []; version = record { tag = no_tag; value = None } }

abbrev pub copy_at : List KeyedVersion → ℕ → KeyedVersion
copy_at puts place = slice_index_or puts place no_copy

-- the copies that entries refer to
abbrev pub copy_of : List KeyedVersion → Entry → KeyedVersion
copy_of puts e = copy_at puts e.place

abbrev pub copies_of : List KeyedVersion → List Entry → List KeyedVersion
copies_of puts es = map (copy_of puts) es

-- the copy that a hint refers to: 0 refers to none, and any other number to the copy at the place before it
abbrev pub hinted : List KeyedVersion → ℕ → Option Version
hinted puts zero = None
hinted puts (suc place) = Some (copy_at puts place).version

-- where the hint of a key's number and a node is
abbrev pub hint_place : ℕ → ℕ → ℕ
hint_place number node = number * 64 + node

abbrev pub hint_at : List ℕ → ℕ → ℕ → ℕ
hint_at hints number node = slice_index hints (hint_place number node)

-- whether a copy is newer than what the node's hint refers to
abbrev pub is_lacked : List KeyedVersion → List ℕ → ℕ → Entry → Bool
is_lacked puts hints node e = is_newer (hinted puts (hint_at hints e.number node)) (copy_of puts e).version

-- the hints after the node logged a copy
abbrev pub raised : List KeyedVersion → ℕ → List ℕ → Entry → List ℕ
raised puts node hints e = if is_lacked puts hints node e then slice_set hints (hint_place e.number node) (e.place + 1) else hints

-- and after it logged several
abbrev pub all_raised : List KeyedVersion → ℕ → List ℕ → List Entry → List ℕ
all_raised puts node hints [] = hints
all_raised puts node hints (e ∷ es) = all_raised puts node (raised puts node hints e) es

-- each hint refers to a copy that was put, or to none
abbrev pub AreHints : List KeyedVersion → List ℕ → Type 0
AreHints puts hints = All (λ h. h ≤ length puts) hints

-- an entry refers to a copy that was put, and to a key that has a row of hints
pub record IsWithin (puts : List KeyedVersion) (hints : List ℕ) (e : Entry) : Type 0 where
  pub place : e.place < length puts
  pub row : hint_place e.number 64 ≤ length hints

-- and the key of that number is the copy's
pub record IsEntry (puts : List KeyedVersion) (keys : List (List ℕ)) (hints : List ℕ) (e : Entry) : Type 0 where
  pub within : IsWithin puts hints e
  pub number : e.number < length keys
  pub key : slice_index_or keys e.number [] ≡ (copy_of puts e).key

-- no key has two numbers
abbrev pub AreDistinct : List (List ℕ) → Type 0
AreDistinct keys = (i j : ℕ) → i < length keys → j < length keys → slice_index_or keys i [] ≡ slice_index_or keys j [] → i ≡ j

-- a node's log: its hint of each key refers to the greatest copy of that key
pub record IsLog (puts : List KeyedVersion) (keys : List (List ℕ)) (hints : List ℕ) (node : ℕ) (es : List Entry) : Type 0 where
  pub entries : All (IsEntry puts keys hints) es
  pub hinted : (number : ℕ) → number < length keys → hinted puts (hint_at hints number node) ≡ get (greatest_of (copies_of puts es)) (slice_index_or keys number [])

-- what holds of the logs at any time
pub record AreStored (puts : List KeyedVersion) (keys : List (List ℕ)) (hints : List ℕ) (logs : List (List Entry)) : Type 0 where
  pub nodes : length logs ≡ 64
  pub distinct : AreDistinct keys
  pub rows : length hints ≤ hint_place (length keys) 0
  pub told : AreHints puts hints
  pub each : (node : ℕ) → node < 64 → IsLog puts keys hints node (slice_index_or logs node [])

abbrev pub entries_of : List (Vec Entry Global) → List (List Entry)
entries_of logs = map (λ v. v.items) logs
