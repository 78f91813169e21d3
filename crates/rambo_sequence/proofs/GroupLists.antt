-- Groups of calls, and the sequences that they give
use Rattle.std.proofs.Common.{◌≡◌, Bool, true, false, cond, ◌||◌, List, [], ◌∷◌, ◌++◌, map, filter, Option, Some, None, is_some, option_map, bytes_eq, Vec, Global, refl, sym, ap, ◌∙◌, subst, append-nil}
use Rattle.std.specs.List.{IsDistinct, AllByRecursion, list_any}
use Rattle.std.specs.List.Sorted.{IsSorted}
use Rattle.std.specs.Map.{lookup}
use Rattle.std.specs.Map.{keys_of as group_keys}
use Rattle.std.proofs.lemmas.Map.Keys.{IsDistinct-head, IsDistinct-tail}
use Rattle.std.proofs.lemmas.Map.Made.{is_some-lookup}
use Rattle.rambo_tag.proofs.Keys.{key_cmp, bytes_eq-itself, bytes_eq-true}
use Rattle.rambo_history.specs.declared.event.Event.{Event}
use Rattle.rambo_history.specs.Calls.{key_of}
use Rattle.rambo_sequence.specs.declared.mark.Mark.{Mark}
use Rattle.rambo_sequence.specs.declared.ranking.RankedCall.{RankedCall}
use Rattle.rambo_sequence.specs.Groups.{Group, group_sequence, calls_at, with_call, some_calls, HasGroups}
use Rattle.rambo_sequence.specs.Marks.{with_some}
use Rattle.rambo_sequence.specs.RankedCalls.{ranked, ranked_calls, sorted_calls}
use Rattle.rambo_sequence.specs.Sequences.{keys_of, sequence_of, sequences_of}
use Rattle.rambo_sequence.proofs.KeyLists.{Key, has_key, same_rises, Rises-from_sorted, Rises-keys_of, has_key-keys_of, bytes_eq-flip}
use Rattle.rambo_sequence.proofs.RankedLists.{sequence_of-ranked}

-- one more mark
pub ranked_calls-push : (h : List Event) (ms : List Mark) (m : Mark) (q : Key)
    → ranked_calls h (ms ++ m ∷ []) q ≡ ranked_calls h ms q ++ cond (bytes_eq (key_of m.op) q) (ranked h m ∷ []) []
ranked_calls-push h [] m q = elim (bytes_eq (key_of m.op) q) as (λ t. map (ranked h) (cond t (m ∷ []) []) ≡ cond t (ranked h m ∷ []) []) [ true ↦ refl | false ↦ refl ]
ranked_calls-push h (n ∷ ms) m q =
    elim (bytes_eq (key_of n.op) q) as (λ t. map (ranked h) (cond t (n ∷ filter (λ m. bytes_eq (key_of m.op) q) (ms ++ m ∷ [])) (filter (λ m. bytes_eq (key_of m.op) q) (ms ++ m ∷ [])))
    ≡ map (ranked h) (cond t (n ∷ filter (λ m. bytes_eq (key_of m.op) q) ms) (filter (λ m. bytes_eq (key_of m.op) q) ms)) ++ cond (bytes_eq (key_of m.op) q) (ranked h m ∷ []) []) [
      | true ↦ ap (λ l. ranked h n ∷ l) (ranked_calls-push h ms m q)
      | false ↦ ranked_calls-push h ms m q
    ]

some_calls-push : (t : Bool) (calls : List RankedCall) (c : RankedCall)
    → some_calls (calls ++ cond t (c ∷ []) []) ≡ cond t (with_call (some_calls calls) c) (some_calls calls)
some_calls-push true [] c = refl
some_calls-push true (d ∷ calls) c = refl
some_calls-push false [] c = refl
some_calls-push false (d ∷ calls) c = ap (λ l. Some (d ∷ l)) (append-nil calls)

pub HasGroups-push : (h : List Event) (ms : List Mark) (m : Mark) (old new : List Group) → HasGroups h ms old
    → ((q : Key) → calls_at new q ≡ cond (bytes_eq (key_of m.op) q) (with_call (calls_at old q) (ranked h m)) (calls_at old q)) → HasGroups h (ms ++ m ∷ []) new
HasGroups-push h ms m old new has added q =
    added q
    ∙ ap (λ o. cond (bytes_eq (key_of m.op) q) (with_call o (ranked h m)) o) (has q)
    ∙ sym (some_calls-push (bytes_eq (key_of m.op) q) (ranked_calls h ms q) (ranked h m))
    ∙ ap some_calls (sym (ranked_calls-push h ms m q))

-- of what is told by a place: a key and a call are those of its mark, and where none is told it has no mark
pub HasGroups-told : (h : List Event) (ms : List Mark) (o : Option Mark) (key : Key) (call : RankedCall) (old new : List Group) → HasGroups h ms old
    → Some key ≡ option_map (λ (m : Mark). key_of m.op) o → Some call ≡ option_map (ranked h) o
    → ((q : Key) → calls_at new q ≡ cond (bytes_eq key q) (with_call (calls_at old q) call) (calls_at old q)) → HasGroups h (ms ++ with_some o []) new
HasGroups-told h ms None key call old new has k r added = absurd (cc)
HasGroups-told h ms (Some m) key call old new has k r added =
    let is_key : key ≡ key_of m.op = cc in
    let is_call : call ≡ ranked h m = cc in
    HasGroups-push h ms m old new has (λ q. added q ∙ λ i. cond (bytes_eq (is_key i) q) (with_call (calls_at old q) (is_call i)) (calls_at old q))

pub ranked_calls-told : (h : List Event) (ms : List Mark) (o : Option Mark) (key : Key) (call : RankedCall) (q : Key)
    → Some key ≡ option_map (λ (m : Mark). key_of m.op) o → Some call ≡ option_map (ranked h) o
    → ranked_calls h (ms ++ with_some o []) q ≡ ranked_calls h ms q ++ cond (bytes_eq key q) (call ∷ []) []
ranked_calls-told h ms None key call q k r = absurd (cc)
ranked_calls-told h ms (Some m) key call q k r =
    let is_key : key ≡ key_of m.op = cc in
    let is_call : call ≡ ranked h m = cc in
    ranked_calls-push h ms m q ∙ λ i. ranked_calls h ms q ++ cond (bytes_eq (sym is_key i) q) (sym is_call i ∷ []) []

pub ranked_calls-untold : (h : List Event) (ms : List Mark) (o : Option Mark) (q : Key) → None ≡ option_map (λ (m : Mark). key_of m.op) o
    → ranked_calls h (ms ++ with_some o []) q ≡ ranked_calls h ms q
ranked_calls-untold h ms None q k = ap (λ ms. ranked_calls h ms q) (append-nil ms)
ranked_calls-untold h ms (Some m) q k = absurd (cc)

pub HasGroups-untold : (h : List Event) (ms : List Mark) (o : Option Mark) (groups : List Group) → HasGroups h ms groups
    → None ≡ option_map (λ (m : Mark). key_of m.op) o → HasGroups h (ms ++ with_some o []) groups
HasGroups-untold h ms None groups has k = subst (λ ms. HasGroups h ms groups) (sym (append-nil ms)) has
HasGroups-untold h ms (Some m) groups has k = absurd (cc)

-- the keys of the groups are those that are marked
is_some-items : (o : Option (Vec RankedCall Global)) → is_some (option_map (λ calls. calls.items) o) ≡ is_some o
is_some-items None = refl
is_some-items (Some calls) = refl

is_some-calls_at : (groups : List Group) (q : Key) → is_some (calls_at groups q) ≡ has_key (group_keys groups) q
is_some-calls_at groups q = is_some-items (lookup (bytes_eq q) groups) ∙ is_some-lookup (bytes_eq q) groups

is_some-some_calls : (h : List Event) (marks : List Mark) (q : Key) → is_some (some_calls (ranked_calls h marks q)) ≡ list_any (λ m. bytes_eq q (key_of m.op)) marks
is_some-some_calls h [] q = refl
is_some-some_calls h (m ∷ ms) q =
    elim (bytes_eq (key_of m.op) q) as (λ t. is_some (some_calls (map (ranked h) (cond t (m ∷ filter (λ m. bytes_eq (key_of m.op) q) ms) (filter (λ m. bytes_eq (key_of m.op) q) ms))))
    ≡ t || list_any (λ m. bytes_eq q (key_of m.op)) ms) [
      | true ↦ refl
      | false ↦ is_some-some_calls h ms q
    ]
    ∙ ap (λ t. t || list_any (λ m. bytes_eq q (key_of m.op)) ms) (bytes_eq-flip (key_of m.op) q)

same_keys : (h : List Event) (marks : List Mark) (groups : List Group) → HasGroups h marks groups → (q : Key) → has_key (group_keys groups) q ≡ has_key (keys_of marks) q
same_keys h marks groups has q =
    sym (is_some-calls_at groups q) ∙ ap is_some (has q) ∙ is_some-some_calls h marks q ∙ sym (has_key-keys_of marks q)

-- the sequences of the groups
same_calls : (xs ys : List RankedCall) → Some xs ≡ some_calls ys → xs ≡ ys
same_calls xs [] e = absurd (cc)
same_calls xs (c ∷ ys) e = cc

none_equal : (k : Key) (ks : List Key) → AllByRecursion (λ y. bytes_eq k y ≡ false) ks → has_key ks k ≡ false
none_equal k [] a = refl
none_equal k (j ∷ js) a = ap (λ t. t || has_key js k) a.0 ∙ none_equal k js a.1

other_key : (q k : Key) (ks : List Key) → AllByRecursion (λ y. bytes_eq k y ≡ false) ks → has_key ks q ≡ true → bytes_eq q k ≡ false
other_key q k ks a there =
    elim (bytes_eq q k) as (λ t. bytes_eq q k ≡ t → t ≡ false) [
      | true ↦ λ e. sym there ∙ ap (has_key ks) (bytes_eq-true q k e) ∙ none_equal k ks a
      | false ↦ λ e. refl
    ] refl

groups-sequences : (h : List Event) (marks : List Mark) (groups : List Group) → IsDistinct bytes_eq (group_keys groups)
    → ((q : Key) → has_key (group_keys groups) q ≡ true → calls_at groups q ≡ some_calls (ranked_calls h marks q))
    → map group_sequence groups ≡ map (λ (key : Key). record { key = key; calls = sequence_of h marks key }) (group_keys groups)
groups-sequences h marks [] distinct has = refl
groups-sequences h marks (g ∷ gs) distinct has =
    let apart = IsDistinct-head bytes_eq g.0 (group_keys gs) distinct in
    let here : Some g.1.items ≡ some_calls (ranked_calls h marks g.0) =
    sym (ap (λ t. option_map (λ calls. calls.items) (cond t (Some g.1) (lookup (bytes_eq g.0) gs))) (bytes_eq-itself g.0))
    ∙ has g.0 (ap (λ t. t || has_key (group_keys gs) g.0) (bytes_eq-itself g.0)) in
    let calls : map (λ (c : RankedCall). c.id) (sorted_calls g.1.items) ≡ sequence_of h marks g.0 =
    ap (λ l. map (λ (c : RankedCall). c.id) (sorted_calls l)) (same_calls g.1.items (ranked_calls h marks g.0) here) ∙ sequence_of-ranked h marks g.0 in
    let rest = groups-sequences h marks gs (IsDistinct-tail bytes_eq g.0 (group_keys gs) distinct) (λ q there.
    let other : bytes_eq q g.0 ≡ false = other_key q g.0 (group_keys gs) apart there in
    sym (ap (λ t. option_map (λ calls. calls.items) (cond t (Some g.1) (lookup (bytes_eq q) gs))) other)
    ∙ has q (ap (λ t. t || has_key (group_keys gs) q) other ∙ there)) in
    λ i. record { key = g.0; calls = calls i } ∷ rest i

-- groups in the order of their keys give the sequences
pub sequences_of-groups : (h : List Event) (marks : List Mark) (groups : List Group) → HasGroups h marks groups → IsSorted key_cmp (group_keys groups) → IsDistinct bytes_eq (group_keys groups)
    → map group_sequence groups ≡ sequences_of h marks
unfolding sequences_of
sequences_of-groups h marks groups has sorted distinct =
    groups-sequences h marks groups distinct (λ q there. has q)
    ∙ ap (map (λ (key : Key). record { key = key; calls = sequence_of h marks key }))
    (same_rises (group_keys groups) (keys_of marks) (Rises-from_sorted (group_keys groups) sorted distinct) (Rises-keys_of marks) (same_keys h marks groups has))
