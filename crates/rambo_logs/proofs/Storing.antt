-- What holds of the stored logs, as keys, hints and copies are put and logged
use Rattle.std.proofs.Common.{◌≡◌, ◌≢◌, ℕ, ◌-◌, ◌<◌, ◌≤◌, cond, List, [], ◌∷◌, ◌++◌, length, map, replicate, Some, None, Vec, get_or, set, refl, sym, ap, subst, ◌∙◌, append-nil, append_assoc, inl, inr, zero, suc, arith}
use Rattle.std.specs.Prelude.{All, slice_index_or}
use Rattle.std.specs.declared.alloc.Global.{Global}
use Rattle.std.specs.FinMap.{get, get-empty}
use Rattle.std.proofs.lemmas.Bool.{cases_eq}
use Rattle.std.proofs.lemmas.List.{length-set, length-append, get_or_append_left, get_or-set_same, get_or-set_other, get_or_past, get_or_default, get_or-replicate, length-replicate, get_or-map, get_or_push, length_push, length-map, map-append, map-set, set-set, set-get_or}
use Rattle.std.proofs.lemmas.List.Elements.{All-nil, All-cons, All-head, All-tail, All-push, All-weaker, All-map}
use Rattle.rambo_tag.specs.declared.keyed_version.KeyedVersion.{KeyedVersion}
use Rattle.rambo_tag.specs.Tags.{greater}
use Rattle.rambo_tag.specs.Copies.{with_newer}
use Rattle.rambo_tag.specs.Logs.{greatest_of}
use Rattle.rambo_tag.proofs.Keys.{key_cmp, same_key-false}
use Rattle.rambo_tag.proofs.Joins.{get-with_newer_same, get-with_newer_other}
use Rattle.rambo_tag.proofs.Logged.{greatest_of-nil, greatest_of-push, get-greatest_of-first}
use Rattle.rambo_logs.specs.declared.entry.Entry.{Entry}
use Rattle.rambo_logs.specs.NodeLogs.{log_at, extended}
use Rattle.rambo_logs.specs.Stored.{no_copy, copy_of, copies_of, hinted, hint_place, hint_at, raised, all_raised, AreHints, IsEntry, AreDistinct, IsLog, AreStored, entries_of}
use Rattle.rambo_logs.proofs.Hinting.{within_or_past, hint_place-number, hint_place-node, hint_place-below, hint_within, copy_at-put, copies_of-put, hinted-put, AreHints-put, get_or-zeros, AreHints-zeros, length-raised, raised-other, hinted-raised, AreHints-raised, IsWithin-raised}

-- of a key that no copy has there is none
none_of_key : (key : List ℕ) (cs : List KeyedVersion) → All (λ c. key ≢ c.key) cs → get (greatest_of cs) key ≡ None
none_of_key key [] h = ap (λ m. get m key) greatest_of-nil ∙ get-empty key_cmp key
none_of_key key (c ∷ cs) h =
    let P : KeyedVersion → Type 0 = λ x. key ≢ x.key in
    get-greatest_of-first c cs key
    ∙ (λ i. greater (cond (same_key-false key c.key (All-head P c cs h) i) (Some c.version) None) (none_of_key key cs (All-tail P c cs h) i))

module _ (puts : List KeyedVersion) (c : KeyedVersion) (keys : List (List ℕ)) (hints : List ℕ) where
  -- one more copy was put
  pub IsEntry-put : (e : Entry) → IsEntry puts keys hints e → IsEntry (puts ++ c ∷ []) keys hints e
  IsEntry-put e h =
      let more = length_push puts c in
      record {
        within = record { place = let below = h.within.place in omega (arith, below, more); row = h.within.row };
        number = h.number;
        key = h.key ∙ ap (λ x. x.key) (sym (copy_at-put puts c e.place h.within.place));
      }

  IsLog-put : (node : ℕ) (es : List Entry) → AreHints puts hints → IsLog puts keys hints node es → IsLog (puts ++ c ∷ []) keys hints node es
  IsLog-put node es told log = record {
    entries = All-weaker (IsEntry puts keys hints) (IsEntry (puts ++ c ∷ []) keys hints) IsEntry-put es log.entries;
    hinted = λ number known.
        hinted-put puts c (hint_at hints number node) (hint_within puts hints (hint_place number node) told)
        ∙ log.hinted number known
        ∙ ap (λ cs. get (greatest_of cs) (slice_index_or keys number []))
        (sym (copies_of-put puts c es (All-weaker (IsEntry puts keys hints) (λ e. e.place < length puts) (λ e h. h.within.place) es log.entries)));
  }

  pub AreStored-put : (logs : List (List Entry)) → AreStored puts keys hints logs → AreStored (puts ++ c ∷ []) keys hints logs
  AreStored-put logs s = record {
    nodes = s.nodes;
    distinct = s.distinct;
    rows = s.rows;
    told = AreHints-put puts c hints s.told;
    each = λ node below. IsLog-put node (slice_index_or logs node []) s.told (s.each node below);
  }

-- more keys have numbers
module _ (puts : List KeyedVersion) (keys more : List (List ℕ)) (hints : List ℕ) where
  pub IsEntry-keys : (e : Entry) → IsEntry puts keys hints e → IsEntry puts (keys ++ more) hints e
  IsEntry-keys e h =
      let known = h.number in
      let longer = length-append keys more in
      record {
        within = h.within;
        number = omega (arith, known, longer);
        key = get_or_append_left keys more [] e.number known ∙ h.key;
      }

  -- a new key is that of no entry
  new_key : AreDistinct (keys ++ more) → (number : ℕ) → length keys ≤ number → number < length (keys ++ more) → (e : Entry) → IsEntry puts keys hints e
      → slice_index_or (keys ++ more) number [] ≢ (copy_of puts e).key
  new_key distinct number new known e h same =
      let its = (IsEntry-keys e h).key in
      let old = h.number in
      let one : number ≡ e.number = distinct number e.number known (IsEntry-keys e h).number (same ∙ sym its) in
      omega (arith, one, old, new)

  IsLog-keys : (node : ℕ) (es : List Entry) → AreDistinct (keys ++ more) → length hints ≤ hint_place (length keys) 0 → IsLog puts keys hints node es → IsLog puts (keys ++ more) hints node es
  IsLog-keys node es distinct rows log = record {
    entries = All-weaker (IsEntry puts keys hints) (IsEntry puts (keys ++ more) hints) IsEntry-keys es log.entries;
    hinted = λ number known.
        within_or_past number (length keys)
        (λ old. log.hinted number old ∙ ap (get (greatest_of (copies_of puts es))) (sym (get_or_append_left keys more [] number old)))
        (λ new.
        let past : length hints ≤ hint_place number node = omega (arith, rows, new) in
        ap (hinted puts) (get_or_past hints (hint_place number node) 0 past)
        ∙ sym (none_of_key (slice_index_or (keys ++ more) number []) (copies_of puts es)
        (All-map (λ x. slice_index_or (keys ++ more) number [] ≢ x.key) (copy_of puts) es (All-weaker (IsEntry puts keys hints) (λ e. slice_index_or (keys ++ more) number [] ≢ (copy_of puts e).key) (new_key distinct number new known) es log.entries))));
  }

  pub AreStored-keys : (logs : List (List Entry)) → AreDistinct (keys ++ more) → AreStored puts keys hints logs → AreStored puts (keys ++ more) hints logs
  AreStored-keys logs distinct s =
      let longer = length-append keys more in
      let rows = s.rows in
      record {
        nodes = s.nodes;
        distinct = distinct;
        rows = omega (arith, rows, longer);
        told = s.told;
        each = λ node below. IsLog-keys node (slice_index_or logs node []) distinct rows (s.each node below);
      }

-- more hints, which are 0
module _ (puts : List KeyedVersion) (keys : List (List ℕ)) (hints : List ℕ) (n : ℕ) where
  pub IsEntry-zeros : (e : Entry) → IsEntry puts keys hints e → IsEntry puts keys (hints ++ replicate n 0) e
  IsEntry-zeros e h =
      let longer = length-append hints (replicate n 0) in
      let row = h.within.row in
      record { within = record { place = h.within.place; row = omega (arith, row, longer) }; number = h.number; key = h.key }

  pub AreStored-zeros : (logs : List (List Entry)) → length (hints ++ replicate n 0) ≤ hint_place (length keys) 0 → AreStored puts keys hints logs → AreStored puts keys (hints ++ replicate n 0) logs
  AreStored-zeros logs rows s = record {
    nodes = s.nodes;
    distinct = s.distinct;
    rows = rows;
    told = AreHints-zeros puts hints n s.told;
    each = λ node below. record {
      entries = All-weaker (IsEntry puts keys hints) (IsEntry puts keys (hints ++ replicate n 0)) IsEntry-zeros (slice_index_or logs node []) (s.each node below).entries;
      hinted = λ number known. ap (hinted puts) (get_or-zeros hints n (hint_place number node)) ∙ (s.each node below).hinted number known;
    };
  }

-- one copy is logged by a node
module _ (puts : List KeyedVersion) (keys : List (List ℕ)) (hints : List ℕ) (node : ℕ) (e : Entry) (below : node < 64) (entry : IsEntry puts keys hints e) where
  pub IsEntry-raised : (x : Entry) → IsEntry puts keys hints x → IsEntry puts keys (raised puts node hints e) x
  IsEntry-raised x h = record { within = IsWithin-raised puts node hints e x h.within; number = h.number; key = h.key }

  -- its own log
  IsLog-own : (es : List Entry) → AreDistinct keys → IsLog puts keys hints node es → IsLog puts keys (raised puts node hints e) node (es ++ e ∷ [])
  IsLog-own es distinct log =
      let c = copy_of puts e in
      let held = greatest_of (copies_of puts es) in
      let now : greatest_of (copies_of puts (es ++ e ∷ [])) ≡ with_newer held c.key c.version =
      ap greatest_of (map-append (copy_of puts) es (e ∷ [])) ∙ greatest_of-push (copies_of puts es) c in
      record {
        entries = All-push (IsEntry puts keys (raised puts node hints e)) es e (All-weaker (IsEntry puts keys hints) (IsEntry puts keys (raised puts node hints e)) IsEntry-raised es log.entries) (IsEntry-raised e entry);
        hinted = λ number known.
            elim (cases_eq number e.number) [
              | inl same ↦
                  ap (λ n. hinted puts (hint_at (raised puts node hints e) n node)) same
                  ∙ hinted-raised puts node hints e (hint_place-below e.number node (length hints) below entry.within.row)
                  ∙ ap (λ o. greater o (Some c.version)) (log.hinted e.number entry.number ∙ ap (get held) entry.key)
                  ∙ sym (get-with_newer_same held c.key c.version)
                  ∙ sym (ap (get (greatest_of (copies_of puts (es ++ e ∷ [])))) (ap (λ n. slice_index_or keys n []) same ∙ entry.key) ∙ ap (λ m. get m c.key) now)
              | inr other ↦
                  ap (hinted puts) (raised-other puts node hints e (hint_place number node) (λ one. other (hint_place-number number e.number node one)))
                  ∙ log.hinted number known
                  ∙ sym (get-with_newer_other held c.key c.version (slice_index_or keys number []) (λ one. other (distinct number e.number known entry.number (one ∙ sym entry.key))))
                  ∙ sym (ap (λ m. get m (slice_index_or keys number [])) now)
            ];
      }

  -- that of another
  IsLog-other : (other : ℕ) (es : List Entry) → other < 64 → other ≢ node → IsLog puts keys hints other es → IsLog puts keys (raised puts node hints e) other es
  IsLog-other other es within apart log = record {
    entries = All-weaker (IsEntry puts keys hints) (IsEntry puts keys (raised puts node hints e)) IsEntry-raised es log.entries;
    hinted = λ number known.
        ap (hinted puts) (raised-other puts node hints e (hint_place number other) (λ one. apart (hint_place-node number e.number other node within below one)))
        ∙ log.hinted number known;
  }

  pub AreStored-log : (logs : List (List Entry)) → AreStored puts keys hints logs
      → AreStored puts keys (raised puts node hints e) (set logs node (slice_index_or logs node [] ++ e ∷ []))
  AreStored-log logs s =
      let es = slice_index_or logs node [] in
      let same = length-raised puts node hints e in
      let nodes = s.nodes in
      let rows = s.rows in
      let within : node < length logs = omega (arith, below, nodes) in
      record {
        nodes = length-set logs node (es ++ e ∷ []) ∙ nodes;
        distinct = s.distinct;
        rows = omega (arith, rows, same);
        told = AreHints-raised puts node hints e s.told entry.within.place;
        each = λ other at.
            elim (cases_eq other node) [
              | inl one ↦
                  subst (λ n. IsLog puts keys (raised puts node hints e) n (slice_index_or (set logs node (es ++ e ∷ [])) n [])) (sym one)
                  (subst (IsLog puts keys (raised puts node hints e) node) (sym (get_or-set_same logs node (es ++ e ∷ []) [] within)) (IsLog-own es s.distinct (s.each node below)))
              | inr apart ↦
                  subst (IsLog puts keys (raised puts node hints e) other) (sym (get_or-set_other logs node other (es ++ e ∷ []) [] apart))
                  (IsLog-other other (slice_index_or logs other []) at apart (s.each other at))
            ];
      }

-- several are
pub AreStored-logs : (puts : List KeyedVersion) (keys : List (List ℕ)) (node : ℕ) → node < 64 → (es : List Entry) (hints : List ℕ) (logs : List (List Entry))
    → All (IsEntry puts keys hints) es → AreStored puts keys hints logs
    → AreStored puts keys (all_raised puts node hints es) (set logs node (slice_index_or logs node [] ++ es))
AreStored-logs puts keys node below [] hints logs h s =
    subst (AreStored puts keys hints) (sym (ap (set logs node) (append-nil (slice_index_or logs node [])) ∙ set-get_or logs node [])) s
AreStored-logs puts keys node below (e ∷ es) hints logs h s =
    let old = slice_index_or logs node [] in
    let entry = All-head (IsEntry puts keys hints) e es h in
    let nodes = s.nodes in
    let within : node < length logs = omega (arith, below, nodes) in
    let next = set logs node (old ++ e ∷ []) in
    let rest = All-weaker (IsEntry puts keys hints) (IsEntry puts keys (raised puts node hints e)) (IsEntry-raised puts keys hints node e below entry) es (All-tail (IsEntry puts keys hints) e es h) in
    subst (AreStored puts keys (all_raised puts node (raised puts node hints e) es))
    (ap (λ x. set next node (x ++ es)) (get_or-set_same logs node (old ++ e ∷ []) [] within)
    ∙ set-set logs node (old ++ e ∷ []) ((old ++ e ∷ []) ++ es)
    ∙ ap (set logs node) (append_assoc old (e ∷ []) es))
    (AreStored-logs puts keys node below es (raised puts node hints e) next rest (AreStored-log puts keys hints node e below entry logs s))

-- the logs that are seen
pub log_at-seen : (puts : List KeyedVersion) (logs : List (List Entry)) (name : ℕ) → log_at (map (copies_of puts) logs) name ≡ copies_of puts (slice_index_or logs (name - 1) [])
log_at-seen puts logs name = get_or-mapped logs (name - 1)
  where
    get_or-mapped : (xs : List (List Entry)) (i : ℕ) → slice_index_or (map (copies_of puts) xs) i [] ≡ copies_of puts (slice_index_or xs i [])
    get_or-mapped [] i = refl
    get_or-mapped (x ∷ xs) zero = refl
    get_or-mapped (x ∷ xs) (suc i) = get_or-mapped xs i

pub extended-seen : (puts : List KeyedVersion) (logs : List (List Entry)) (name : ℕ) (es : List Entry)
    → map (copies_of puts) (set logs (name - 1) (slice_index_or logs (name - 1) [] ++ es)) ≡ extended (map (copies_of puts) logs) name (copies_of puts es)
extended-seen puts logs name es =
    map-set (copies_of puts) logs (name - 1) (slice_index_or logs (name - 1) [] ++ es)
    ∙ ap (set (map (copies_of puts) logs) (name - 1))
    (map-append (copy_of puts) (slice_index_or logs (name - 1) []) es ∙ ap (λ xs. xs ++ copies_of puts es) (sym (log_at-seen puts logs name)))

-- one more copy was put, and is seen in no log
pub seen-put : (puts : List KeyedVersion) (c : KeyedVersion) (keys : List (List ℕ)) (hints : List ℕ) (logs : List (List Entry)) → AreStored puts keys hints logs
    → map (copies_of (puts ++ c ∷ [])) logs ≡ map (copies_of puts) logs
seen-put puts c keys hints logs s =
    same logs (λ k d h. let nodes = s.nodes in let at : k < 64 = omega (arith, h, nodes) in
    All-weaker (IsEntry puts keys hints) (λ e. e.place < length puts) (λ e h. h.within.place) (slice_index_or logs k d)
    (subst (All (IsEntry puts keys hints)) (get_or_default logs k [] d h) (s.each k at).entries))
  where
    same : (ls : List (List Entry)) → All (All (λ e. e.place < length puts)) ls → map (copies_of (puts ++ c ∷ [])) ls ≡ map (copies_of puts) ls
    same [] h = refl
    same (l ∷ ls) h =
        let P : List Entry → Type 0 = All (λ e. e.place < length puts) in
        λ i. copies_of-put puts c l (All-head P l ls h) i ∷ same ls (All-tail P l ls h) i

-- the entries of logs, with one log changed
pub entries_of-at : (logs : List (Vec Entry Global)) (i : ℕ) (d : Vec Entry Global) → i < length logs → slice_index_or (entries_of logs) i [] ≡ (slice_index_or logs i d).items
entries_of-at logs i d h = get_or-map (λ v. v.items) logs i d [] h

pub entries_of-set : (logs : List (Vec Entry Global)) (i : ℕ) (v : Vec Entry Global) → entries_of (set logs i v) ≡ set (entries_of logs) i v.items
entries_of-set logs i v = map-set (λ v. v.items) logs i v

pub length-entries_of : (logs : List (Vec Entry Global)) → length (entries_of logs) ≡ length logs
length-entries_of logs = length-map logs (λ v. v.items)

-- the log of a node was given more entries
module _ (puts : List KeyedVersion) (logs : List (Vec Entry Global)) (log next : Vec Entry Global) (es : List Entry) where
  entries_of-logged : (node : ℕ) → node < length logs → log ≡ get_or logs node log → next.items ≡ log.items ++ es
      → entries_of (set logs node next) ≡ set (entries_of logs) node (slice_index_or (entries_of logs) node [] ++ es)
  entries_of-logged node within read grows =
      entries_of-set logs node next
      ∙ ap (set (entries_of logs) node) (grows ∙ ap (λ l. l ++ es) (ap (λ (v : Vec Entry Global). v.items) read ∙ sym (entries_of-at logs node log within)))

  pub stored_logged : (keys : List (List ℕ)) (hints after : List ℕ) (node : ℕ) → AreStored puts keys hints (entries_of logs) → node < 64 → All (IsEntry puts keys hints) es
      → log ≡ get_or logs node log → next.items ≡ log.items ++ es → after ≡ all_raised puts node hints es
      → AreStored puts keys after (entries_of (set logs node next))
  stored_logged keys hints after node s below entries read grows raises =
      let nodes = sym (length-entries_of logs) ∙ s.nodes in
      let within : node < length logs = omega (arith, below, nodes) in
      subst (AreStored puts keys after) (sym (entries_of-logged node within read grows))
      (subst (λ h. AreStored puts keys h (set (entries_of logs) node (slice_index_or (entries_of logs) node [] ++ es))) (sym raises)
      (AreStored-logs puts keys node below es hints (entries_of logs) entries s))

  pub seen_logged : (name : ℕ) → name - 1 < length logs → log ≡ get_or logs (name - 1) log → next.items ≡ log.items ++ es
      → map (copies_of puts) (entries_of (set logs (name - 1) next)) ≡ extended (map (copies_of puts) (entries_of logs)) name (copies_of puts es)
  seen_logged name within read grows =
      ap (map (copies_of puts)) (entries_of-logged (name - 1) within read grows) ∙ extended-seen puts (entries_of logs) name es

-- a copy was put, and logged
module _ (puts : List KeyedVersion) (c : KeyedVersion) (keys : List (List ℕ)) (hints : List ℕ) (logs : List (Vec Entry Global)) (log next : Vec Entry Global) (e : Entry)
    (s : AreStored puts keys hints (entries_of logs)) (place : e.place ≡ length puts) where
  its_copy : copy_of (puts ++ c ∷ []) e ≡ c
  its_copy = get_or_push puts c no_copy e.place (sym place)

  its_entry : e.number < length keys → slice_index_or keys e.number [] ≡ c.key → hint_place e.number 64 ≤ length hints → IsEntry (puts ++ c ∷ []) keys hints e
  its_entry known key row =
      let more = length_push puts c in
      record { within = record { place = omega (arith, place, more); row = row }; number = known; key = key ∙ ap (λ x. x.key) (sym its_copy) }

  pub stored_put : (all : List KeyedVersion) (after : List ℕ) (node : ℕ) → node < 64 → all ≡ puts ++ c ∷ []
      → e.number < length keys → slice_index_or keys e.number [] ≡ c.key → hint_place e.number 64 ≤ length hints
      → log ≡ get_or logs node log → next.items ≡ log.items ++ e ∷ [] → after ≡ raised all node hints e
      → AreStored all keys after (entries_of (set logs node next))
  stored_put all after node below put known key row read grows raises =
      subst (λ p. AreStored p keys after (entries_of (set logs node next))) (sym put)
      (stored_logged (puts ++ c ∷ []) logs log next (e ∷ []) keys hints after node (AreStored-put puts c keys hints (entries_of logs) s) below
      (All-cons (IsEntry (puts ++ c ∷ []) keys hints) e [] (its_entry known key row) (All-nil (IsEntry (puts ++ c ∷ []) keys hints)))
      read grows (raises ∙ ap (λ p. raised p node hints e) put))

  pub seen_put : (all : List KeyedVersion) (name : ℕ) → name - 1 < 64 → all ≡ puts ++ c ∷ [] → log ≡ get_or logs (name - 1) log → next.items ≡ log.items ++ e ∷ []
      → map (copies_of all) (entries_of (set logs (name - 1) next)) ≡ extended (map (copies_of puts) (entries_of logs)) name (c ∷ [])
  seen_put all name below put read grows =
      let nodes = sym (length-entries_of logs) ∙ s.nodes in
      ap (λ p. map (copies_of p) (entries_of (set logs (name - 1) next))) put
      ∙ seen_logged (puts ++ c ∷ []) logs log next (e ∷ []) name (omega (arith, below, nodes)) read grows
      ∙ (λ i. extended (seen-put puts c keys hints (entries_of logs) s i) name (its_copy i ∷ []))

-- how long a log is
pub length_seen : (puts : List KeyedVersion) (logs : List (Vec Entry Global)) (name : ℕ) (v : Vec Entry Global) → name - 1 < length logs → v ≡ get_or logs (name - 1) v
    → length v.items ≡ length (log_at (map (copies_of puts) (entries_of logs)) name)
length_seen puts logs name v within read =
    ap (λ (w : Vec Entry Global). length w.items) read
    ∙ ap length (sym (entries_of-at logs (name - 1) v within))
    ∙ sym (length-map (slice_index_or (entries_of logs) (name - 1) []) (copy_of puts))
    ∙ ap length (sym (log_at-seen puts (entries_of logs) name))

-- empty logs
stored_first_of : (logs : List (List Entry)) → logs ≡ replicate 64 [] → AreStored [] [] [] logs
stored_first_of logs is =
    let none : (node : ℕ) → node < 64 → slice_index_or logs node [] ≡ [] = λ node below. ap (λ (l : List (List Entry)). slice_index_or l node []) is ∙ get_or-replicate 64 node [] [] below in
    record {
      nodes = ap length is ∙ length-replicate {A = List Entry} 64 [];
      distinct = λ i j h k same. absurd (omega (arith, h));
      rows = omega arith;
      told = λ k d h. absurd (omega (arith, h));
      each = λ node below. subst (IsLog [] [] [] node) (sym (none node below)) (record {
        entries = All-nil (IsEntry [] [] []);
        hinted = λ number known. absurd (omega (arith, known));
      });
    }

pub stored_first : (puts : List KeyedVersion) (keys : List (List ℕ)) (hints : List ℕ) (logs : List (List Entry)) → puts ≡ [] → keys ≡ [] → hints ≡ [] → logs ≡ replicate 64 [] → AreStored puts keys hints logs
stored_first puts keys hints logs a b c is =
    subst (λ p. AreStored p keys hints logs) (sym a) (subst (λ k. AreStored [] k hints logs) (sym b) (subst (λ h. AreStored [] [] h logs) (sym c) (stored_first_of logs is)))

seen_none : (puts : List KeyedVersion) (n : ℕ) → map (copies_of puts) (replicate n []) ≡ replicate n []
seen_none puts zero = refl
seen_none puts (suc n) = ap (λ ls. [] ∷ ls) (seen_none puts n)

pub seen_first : (puts : List KeyedVersion) (logs : List (List Entry)) → logs ≡ replicate 64 [] → map (copies_of puts) logs ≡ replicate 64 []
seen_first puts logs is = ap (map (copies_of puts)) is ∙ seen_none puts 64
