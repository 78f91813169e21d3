-- What is brought to a node of a part of a log
use Rattle.std.proofs.Common.{◌≡◌, ℕ, ◌+◌, ◌-◌, ◌<◌, ◌≤◌, List, [], length, filter, map, take, get_or, set, Vec, sym, ap, subst, ◌∙◌, arith}
use Rattle.std.specs.Prelude.{All, slice_index_or}
use Rattle.std.specs.declared.alloc.Global.{Global}
use Rattle.std.specs.Vec.{vec_len, vec_capacity}
use Rattle.std.proofs.lemmas.List.{get_or-set_same, set-get_or, nil_from_length, length-map}
use Rattle.std.proofs.lemmas.List.Elements.{All-take, All-drop, All-filter}
use Rattle.rambo_tag.specs.declared.keyed_version.KeyedVersion.{KeyedVersion}
use Rattle.rambo_tag.specs.Logs.{greatest_of}
use Rattle.rambo_logs.specs.declared.entry.Entry.{Entry}
use Rattle.rambo_logs.specs.NodeLogs.{log_at, part, lacked}
use Rattle.rambo_logs.specs.Stored.{copy_of, copies_of, is_lacked, entries_of, IsEntry, AreStored}
use Rattle.rambo_logs.proofs.Lacking.{copies_of-lacked, copies_of-part}
use Rattle.rambo_logs.proofs.Storing.{log_at-seen, entries_of-at, entries_of-set, length-entries_of}

-- the logs with one log written back, as after more room was made for it
pub entries_of-same : (logs : List (Vec Entry Global)) (node : ℕ) (log next : Vec Entry Global) → node < length logs → log ≡ get_or logs node log → next.items ≡ log.items
    → entries_of (set logs node next) ≡ entries_of logs
entries_of-same logs node log next within read same =
    entries_of-set logs node next
    ∙ ap (set (entries_of logs) node) (same ∙ ap (λ (v : Vec Entry Global). v.items) read ∙ sym (entries_of-at logs node log within))
    ∙ set-get_or (entries_of logs) node []

pub stored_same : (puts : List KeyedVersion) (keys : List (List ℕ)) (hints : List ℕ) (logs : List (Vec Entry Global)) (node : ℕ) (log next : Vec Entry Global) → node < 64
    → log ≡ get_or logs node log → next.items ≡ log.items → AreStored puts keys hints (entries_of logs) → AreStored puts keys hints (entries_of (set logs node next))
stored_same puts keys hints logs node log next below read same s =
    let nodes = sym (length-entries_of logs) ∙ s.nodes in
    subst (AreStored puts keys hints) (sym (entries_of-same logs node log next (omega (arith, below, nodes)) read same)) s

-- the log that was written back
pub room_there : (logs : List (Vec Entry Global)) (node : ℕ) (next : Vec Entry Global) (n : ℕ) → node < length logs → vec_len next + n ≤ vec_capacity next
    → (d : Vec Entry Global) → vec_len (slice_index_or (set logs node next) node d) + n ≤ vec_capacity (slice_index_or (set logs node next) node d)
room_there logs node next n within room d =
    subst (λ (v : Vec Entry Global). vec_len v + n ≤ vec_capacity v) (sym (get_or-set_same logs node next d within)) room

-- the entries of a part tell of copies
pub entries_there : (puts : List KeyedVersion) (keys : List (List ℕ)) (hints : List ℕ) (logs : List (Vec Entry Global)) (node start end : ℕ) (log : Vec Entry Global) (es : List Entry)
    → AreStored puts keys hints (entries_of logs) → node < 64 → log ≡ get_or logs node log → es ≡ part log.items start end → All (IsEntry puts keys hints) es
entries_there puts keys hints logs node start end log es s below read is =
    let nodes = sym (length-entries_of logs) ∙ s.nodes in
    let P : Entry → Type 0 = IsEntry puts keys hints in
    let own : slice_index_or (entries_of logs) node [] ≡ log.items = entries_of-at logs node log (omega (arith, below, nodes)) ∙ ap (λ (v : Vec Entry Global). v.items) (sym read) in
    let all : All P log.items = subst (All P) own (s.each node below).entries in
    subst (All P) (sym is) (All-drop P start (take end log.items) (All-take P end log.items all))

-- what a log is seen as
pub log_there : (puts : List KeyedVersion) (logs : List (Vec Entry Global)) (name : ℕ) (log : Vec Entry Global) → name - 1 < length logs → log ≡ get_or logs (name - 1) log
    → copies_of puts log.items ≡ log_at (map (copies_of puts) (entries_of logs)) name
log_there puts logs name log within read =
    ap (copies_of puts) (ap (λ (v : Vec Entry Global). v.items) read ∙ sym (entries_of-at logs (name - 1) log within)) ∙ sym (log_at-seen puts (entries_of logs) name)

pub lacked_there : (puts : List KeyedVersion) (keys : List (List ℕ)) (hints : List ℕ) (logs : List (Vec Entry Global)) (to from start end : ℕ) (log : Vec Entry Global) (es more : List Entry)
    → AreStored puts keys hints (entries_of logs) → to - 1 < 64 → from - 1 < 64 → log ≡ get_or logs (from - 1) log → es ≡ part log.items start end → more ≡ filter (is_lacked puts hints (to - 1)) es
    → copies_of puts more ≡ lacked (greatest_of (log_at (map (copies_of puts) (entries_of logs)) to)) (part (log_at (map (copies_of puts) (entries_of logs)) from) start end)
lacked_there puts keys hints logs to from start end log es more s at there read is picked =
    let nodes = sym (length-entries_of logs) ∙ s.nodes in
    let told : copies_of puts es ≡ part (log_at (map (copies_of puts) (entries_of logs)) from) start end =
    ap (copies_of puts) is ∙ copies_of-part puts log.items start end ∙ ap (λ l. part l start end) (log_there puts logs from log (omega (arith, there, nodes)) read) in
    ap (copies_of puts) picked
    ∙ copies_of-lacked puts keys hints (to - 1) (slice_index_or (entries_of logs) (to - 1) []) (s.each (to - 1) at) es (entries_there puts keys hints logs (from - 1) start end log es s there read is)
    ∙ ap (λ l. lacked (greatest_of l) (copies_of puts es)) (sym (log_at-seen puts (entries_of logs) to))
    ∙ ap (lacked (greatest_of (log_at (map (copies_of puts) (entries_of logs)) to))) told

-- no entry tells of no copy
pub none_there : (puts : List KeyedVersion) (es : List Entry) → copies_of puts es ≡ [] → es ≡ []
none_there puts es none = nil_from_length es (sym (length-map es (copy_of puts)) ∙ ap length none)

-- what was brought, from the calls that found it
module _ (puts : List KeyedVersion) (keys : List (List ℕ)) (hints : List ℕ) (logs : List (Vec Entry Global)) (to from start end : ℕ) (log : Vec Entry Global) (es more : List Entry)
    (s : AreStored puts keys hints (entries_of logs)) (node source : ℕ) (node_is : node ≡ to - 1) (source_is : source ≡ from - 1) (at : node < 64) (there : source < 64)
    (read : log ≡ get_or logs source log) (is : es ≡ part log.items start end) where
  pub part_entries : All (IsEntry puts keys hints) es
  part_entries = entries_there puts keys hints logs source start end log es s there read is

  pub more_entries : more ≡ filter (is_lacked puts hints node) es → All (IsEntry puts keys hints) more
  more_entries picked = subst (All (IsEntry puts keys hints)) (sym picked) (All-filter (is_lacked puts hints node) (IsEntry puts keys hints) es part_entries)

  pub more_seen : more ≡ filter (is_lacked puts hints node) es
      → copies_of puts more ≡ lacked (greatest_of (log_at (map (copies_of puts) (entries_of logs)) to)) (part (log_at (map (copies_of puts) (entries_of logs)) from) start end)
  more_seen picked =
      lacked_there puts keys hints logs to from start end log es more s (subst (λ n. n < 64) node_is at) (subst (λ n. n < 64) source_is there)
      (read ∙ ap (λ n. get_or logs n log) source_is) is (picked ∙ ap (λ n. filter (is_lacked puts hints n) es) node_is)

  -- where nothing is lacked of the logs as they are seen, no entry is picked
  pub none_picked : lacked (greatest_of (log_at (map (copies_of puts) (entries_of logs)) to)) (part (log_at (map (copies_of puts) (entries_of logs)) from) start end) ≡ []
      → filter (is_lacked puts hints node) es ≡ []
  none_picked none =
      none_there puts (filter (is_lacked puts hints node) es)
      (lacked_there puts keys hints logs to from start end log es (filter (is_lacked puts hints node) es) s (subst (λ n. n < 64) node_is at) (subst (λ n. n < 64) source_is there)
      (read ∙ ap (λ n. get_or logs n log) source_is) is (ap (λ n. filter (is_lacked puts hints n) es) node_is) ∙ none)
