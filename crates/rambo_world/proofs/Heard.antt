-- A letter that its addressee hears, by the list of nodes and the logs
use Rattle.std.proofs.Common.{◌≡◌, ℕ, zero, suc, ◌-◌, ◌≤◌, ◌<◌, List, [], ◌∷◌, ◌++◌, length, get_or, max, None, Some, Result, Ok, Err, slice_get, IfOk, OnOk, OnErr, slice_set, refl, sym, ap, ◌∙◌, subst, arith}
use Rattle.std.proofs.lemmas.List.{length-set, set-get_or}
use Rattle.std.proofs.lemmas.Option.{slice_get_within, get_or_from_slice_get}
use Rattle.std.proofs.lemmas.Result.{IfOk-weaker, on_err_weaker}
use Rattle.std.proofs.Math.Nat.{max-eq_left}
use Rattle.std.specs.Prelude.{slice_index_or, IsErrAnd}
use Rattle.rambo_names.specs.declared.refusal.Refusal.{Refusal}
use Rattle.rambo_joiner.specs.Statuses.{is_active}
use Rattle.rambo_names.specs.Quorums.{QuorumSystem}
use Rattle.rambo_names.specs.Refusals.{least}
use Rattle.rambo_tag.specs.declared.keyed_version.KeyedVersion.{KeyedVersion}
use Rattle.rambo_tag.specs.Copies.{Copies, joined}
use Rattle.rambo_tag.specs.Logs.{greatest_of}
use Rattle.rambo_tag.proofs.Logged.{greatest_of-nil}
use Rattle.rambo_gossip.specs.Kinds.{Kind}
use Rattle.rambo_gossip.specs.Kinds as kind
use Rattle.rambo_gossip.specs.Letters.{LetterState, kind_with, letter_with}
use Rattle.rambo_gossip.specs.Short as short
use Rattle.rambo_logs.specs.NodeLogs.{part, lacked}
use Rattle.rambo_node.specs.Changes.{refusal_of, made_by}
use Rattle.rambo_node.specs.Hearing.{heard_kind, heard_letter}
use Rattle.rambo_node.specs.Nodes.{NodeState, RoomyNode}
use Rattle.rambo_node.specs.Prepared.{IsReadyKind}
use Rattle.rambo_run.specs.Steps.{causes_at}
use Rattle.rambo_world.specs.Kept.{KeptNode, kept_of, outline, outline_by, kept_at, state_at, moved, SameBarRoom, AllGrow}
use Rattle.rambo_world.specs.Direct.{told_refusal}
use Rattle.rambo_world.specs.Hearing.{hear_refusal, lacked_of, told_by, HasHeard, HasMet, IsUnheard, IsHeard}
use Rattle.rambo_world.specs.Pairs.{with_both, AreBoth}
use Rattle.rambo_world.specs.Logging.{copies_in}
use Rattle.rambo_letters.specs.Kept.{SentState}
use Rattle.rambo_letters.proofs.Lists.{some_is}
use Rattle.rambo_node.specs.Letters.{gossip_for}
use Rattle.rambo_node.specs.Acts as act
use Rattle.rambo_world.proofs.Delivering.{heard_alike}
use Rattle.rambo_world.proofs.Sendings.{told_of}
use Rattle.rambo_world.proofs.Logging.{made_name, heard_recorded}
use Rattle.rambo_world.proofs.Growth.{same_grow}
use Rattle.rambo_world.proofs.Zipping.{with_log, kept_of-at, node_here, put_node, node_unchanged, log_grows, brought_is, enough_brought}

-- there is room for a letter with copies where there is for it without
pub ready_bare : {Q : Type 0} (v : RoomyNode Q) (k : Kind Q) (c other : Copies) (number : ℕ) → IsReadyKind v (kind_with k c) other number → IsReadyKind v k other number
ready_bare v kind.Join c other number ready = ready
ready_bare v (kind.Gossip g) c other number ready = record { counted = ready.counted; keys = ready.keys; phases = ready.phases }

other_kind : {Q : Type 0} (x : NodeState Q) (j : ℕ) (k : Kind Q) (other c : Copies) → joined x.registers other ≡ joined x.registers (short.copies_in (kind_with k c)) → heard_kind x j (kind_with k other) ≡ heard_kind x j (kind_with k c)
other_kind x j kind.Join other c e = refl
other_kind x j (kind.Gossip g) other c e = heard_alike x j (kind.Gossip g) other c e

-- copies that make the same of a node's as those of a letter make the same of the node
pub other_heard : {Q : Type 0} (x : NodeState Q) (l : LetterState Q) (other c : Copies) → joined x.registers other ≡ joined x.registers (short.copies_in (letter_with l c).kind)
    → heard_letter x (letter_with l other) ≡ (made_by x (act.Hear (letter_with l c))).node
unfolding made_by
other_heard x l other c e = other_kind x l.sender l.kind other c e

-- a part that ends before it begins has nothing
pub part_past : {X : Type 0} (xs : List X) (start end : ℕ) → end ≤ start → part xs start end ≡ []
part_past xs zero zero past = refl
part_past xs zero (suc end) past = absurd (omega (arith, past))
part_past xs (suc start) zero past = refl
part_past [] (suc start) (suc end) past = refl
part_past (x ∷ xs) (suc start) (suc end) past = part_past xs start end (omega (arith, past))

pub lacks_nothing : {Q : Type 0} (ls : List (List KeyedVersion)) (l : LetterState Q) (start end : ℕ) → end ≤ start → lacked_of ls l start end ≡ []
lacks_nothing ls l start end past = ap (lacked (greatest_of (slice_index_or ls (l.addressee - 1) []))) (part_past (slice_index_or ls (l.sender - 1) []) start end past)

-- one of three ways out
pub either_way : {A B E P U G : Type 0} (r : Result (Result A B) E) → IfOk r (λ s. OnOk s P) → IfOk r (λ s. OnErr s U) → OnErr r U → (P → G) → (U → G) → G
either_way (Ok (Ok x)) heard stays err one two = one heard
either_way (Ok (Err x)) heard stays err one two = two stays
either_way (Err x) heard stays err one two = two err

-- a letter brings the copies that it is given, where one that wants to join is given none
given : {Q : Type 0} (k : Kind Q) (more : List KeyedVersion) → (k ≡ kind.Join → more ≡ []) → copies_in (kind_with k (greatest_of more)) ≡ greatest_of more
given kind.Join more none = sym (ap greatest_of (none refl) ∙ greatest_of-nil)
given (kind.Gossip g) more none = refl

module _ {Q : Type 0} (xs : List (RoomyNode Q)) (ls : List (List KeyedVersion)) (now : List (KeptNode Q)) (view : kept_of xs ls ≡ now) (count : length xs ≡ 64) (counted : length ls ≡ 64)
    (l : LetterState Q) (place : ℕ) (at : place ≡ l.addressee - 1) (named : 1 ≤ l.addressee) (x y : RoomyNode Q) (below : place < length xs) (is : x ≡ get_or xs place x) where
  addressee : state_at now l.addressee ≡ Some x.state
  addressee = ap (λ ks. state_at ks l.addressee) (sym view) ∙ node_here xs ls place l.addressee x y at named below is

  -- it is judged by that node
  pub judged_here : (s : QuorumSystem Q) → refusal_of s x.state (act.Hear l) ≡ hear_refusal s now l
  judged_here s = ap (λ o. least (causes_at s o (act.Hear l))) (sym addressee)

  module _ (ms : List (List KeyedVersion)) (start end : ℕ) (join : l.kind ≡ kind.Join → end ≤ start) where
    pub heard_nodes : HasHeard x y ls ms l start end → IsHeard now (kept_of (slice_set xs place y) ms) l start end
    heard_nodes h =
        let same = count ∙ sym counted in
        subst (λ ks. IsHeard ks (kept_of (slice_set xs place y) ms) l start end) view (record {
          nodes = put_node xs ls place l.addressee x y at named below is ms (λ z. (made_by z (act.Hear (letter_with l (greatest_of (lacked_of ls l start end))))).node) h.node
              ∙ ap (λ c. moved (kept_of xs ls) l.addressee (λ z. (made_by z (act.Hear (letter_with l c))).node)) (sym (brought_is xs ls same l start end));
          enough = enough_brought xs ls same l start end h.enough;
        })

    pub heard_grow : HasHeard x y ls ms l start end → AllGrow now (kept_of (slice_set xs place y) ms)
    heard_grow h =
        let more = lacked_of ls l start end in
        let own : List KeyedVersion = slice_index_or ls (l.addressee - 1) [] in
        let letter = letter_with l (greatest_of more) in
        let within : l.addressee - 1 < length ls = omega (arith, below, at, count, counted) in
        let told = given l.kind more (λ e. lacks_nothing ls l start end (join e)) in
        subst (λ ks. AllGrow ks (kept_of (slice_set xs place y) ms)) view
        (subst (λ ms. AllGrow (kept_of xs ls) (kept_of (slice_set xs place y) ms)) (sym h.logs)
        (log_grows xs ls place l.addressee x y at named below is (own ++ more) within (record {
          name = ap (λ z. z.name) h.node ∙ made_name x.state (act.Hear letter);
          extends = (more, refl);
          recorded = λ before. ap (λ z. z.registers) h.node ∙ heard_recorded x.state own more letter before (ap (joined x.state.registers) (sym told));
        })))

  pub unheard_same : (ms : List (List KeyedVersion)) → IsUnheard x y ls ms → SameBarRoom now (kept_of (slice_set xs place y) ms)
  unheard_same ms u =
      subst (λ ks. SameBarRoom ks (kept_of (slice_set xs place y) ms)) view
      (node_unchanged xs ls place l.addressee x y at named below is ms u.node u.logs)

-- an item that stands in its own place
pub stands_there : {X : Type 0} (xs : List X) (i : ℕ) (x : X) → slice_get xs i ≡ Some x → slice_set xs i x ≡ xs
stands_there xs i x found = ap (slice_set xs i) (sym (get_or_from_slice_get xs i x x found)) ∙ set-get_or xs i x

-- a joining node tells of nothing
pub tells_none : {Q : Type 0} (x : NodeState Q) (to logged start : ℕ) → (outline_by x to logged).letter.kind ≡ kind.Join → max start (outline_by x to logged).told ≤ start
tells_none x to logged start joins = let none = ap (max start) (told_of (is_active x.status) logged (gossip_for x to) joins) ∙ max-eq_left (omega arith) in omega (arith, none)

-- two nodes of a list, of which one meets the other
module _ {Q : Type 0} (s : QuorumSystem Q) (xs : List (RoomyNode Q)) (from to i j : ℕ) (own : i ≡ from - 1) (other : j ≡ to - 1) (x₀ y₀ z : RoomyNode Q) (both : AreBoth xs i j x₀ y₀)
    (before after : List (List KeyedVersion)) (start logged : ℕ) (m : SentState Q) (is : m ≡ outline_by x₀.state to logged) (count : logged ≡ length (slice_index_or before (from - 1) []))
    (named : (x : RoomyNode Q) → slice_get xs (from - 1) ≡ Some x → x.state.name ≡ from) (r : Result (Result ℕ Refusal) Refusal) (has : HasMet s y₀ z before after m start r) where
  pub has_met : (x y : RoomyNode Q) → slice_get xs (from - 1) ≡ Some x → slice_get xs (to - 1) ≡ Some y
      → (v : RoomyNode Q) × (with_both xs i j x₀ z ≡ slice_set xs (to - 1) v) × HasMet s y v before after (told_by x.state to before) start r
  has_met x y at_x at_y =
      let sender = some_is x₀ x (sym both.at_first ∙ ap (slice_get xs) own ∙ at_x) in
      let addressee = some_is y₀ y (sym both.at_second ∙ ap (slice_get xs) other ∙ at_y) in
      let letter : m ≡ told_by x.state to before = is ∙ λ k. outline_by (sender k).state to ((count ∙ ap (λ n. length (slice_index_or before (n - 1) [])) (sym (named x at_x))) k) in (
        z,
        ap (λ l. slice_set l j z) (stands_there xs i x₀ both.at_first) ∙ ap (λ n. slice_set xs n z) other,
        subst (λ y. HasMet s y z before after (told_by x.state to before) start r) addressee (subst (λ m. HasMet s y₀ z before after m start r) letter has),
      )

-- where there was no room
pub met_not : {Q : Type 0} (E : Refusal → Type 0) (s : QuorumSystem Q) (old new : RoomyNode Q) (before after : List (List KeyedVersion)) (m : SentState Q) (start : ℕ) (r : Result (Result ℕ Refusal) Refusal)
    → IsErrAnd r E → refusal_of s old.state (act.Hear m.letter) ≡ None → IsUnheard old new before after → HasMet s old new before after m start r
met_not E s old new before after m start (Ok t) is accepted same = elim is [ ]
met_not E s old new before after m start (Err e) is accepted same = record { refusal = tt; told = tt; heard = tt; stays = tt; accepted = accepted; err = same }

-- what is told, with what is said of the letter
heard_in : {H : Type 0} {P : ℕ → Type 0} (n : ℕ) (r : Result (Result ℕ Refusal) Refusal) → IfOk r (λ t. IfOk t (λ told. told ≡ n)) → IfOk r (λ t. OnOk t H) → ((told : ℕ) → told ≡ n → H → P told) → IfOk r (λ t. IfOk t P)
heard_in n (Ok (Ok told)) e h both = both told e h
heard_in n (Ok (Err f)) e h both = tt
heard_in n (Err f) e h both = tt

-- the node of one name meets that of another
module _ {Q : Type 0} (s : QuorumSystem Q) (xs : List (RoomyNode Q)) (ls : List (List KeyedVersion)) (now : List (KeptNode Q)) (view : kept_of xs ls ≡ now) (count : length xs ≡ 64) (counted : length ls ≡ 64)
    (from to : ℕ) (low : 1 ≤ to) (named : (k : KeptNode Q) → kept_at now from ≡ Some k → k.node.state.name ≡ from)
    (x y z : RoomyNode Q) (at_x : slice_get xs (from - 1) ≡ Some x) (at_y : slice_get xs (to - 1) ≡ Some y) (ms : List (List KeyedVersion)) (start : ℕ) (r : Result (Result ℕ Refusal) Refusal)
    (has : HasMet s y z ls ms (told_by x.state to ls) start r) where
  abbrev m : SentState Q
  m = told_by x.state to ls

  abbrev after : List (KeptNode Q)
  after = kept_of (slice_set xs (to - 1) z) ms

  own : (kept_at now from ≡ Some (with_log x (slice_index_or ls (from - 1) []))) × (x.state.name ≡ from)
  own =
      let here = ap (λ ks. kept_at ks from) (sym view) ∙ kept_of-at xs ls (from - 1) x at_x in
      (here, named (with_log x (slice_index_or ls (from - 1) [])) here)

  letter_is : (k : KeptNode Q) → kept_at now from ≡ Some k → m ≡ outline k to
  letter_is k found =
      ap (λ n. outline_by x.state to (length (slice_index_or ls (n - 1) []))) own.1
      ∙ ap (λ k. outline k to) (some_is (with_log x (slice_index_or ls (from - 1) [])) k (sym own.0 ∙ found))

  within : to - 1 < length xs
  within = slice_get_within xs (to - 1) y at_y

  at_place : y ≡ get_or xs (to - 1) y
  at_place = sym (get_or_from_slice_get xs (to - 1) y y at_y)

  judged : refusal_of s y.state (act.Hear m.letter) ≡ hear_refusal s now m.letter
  judged = judged_here xs ls now view count counted m.letter (to - 1) refl low y z within at_place s

  past : m.letter.kind ≡ kind.Join → max start m.told ≤ start
  past joins = tells_none x.state to (length (slice_index_or ls (x.state.name - 1) [])) start joins

  pub met_refusal : IfOk r (λ t. (k : KeptNode Q) → kept_at now from ≡ Some k → told_refusal t ≡ hear_refusal s now (outline k to).letter)
  met_refusal = IfOk-weaker r _ _ (λ t e k found. e ∙ judged ∙ ap (λ m. hear_refusal s now m.letter) (letter_is k found)) has.refusal

  pub met_told : IfOk r (λ t. IfOk t (λ told. (k : KeptNode Q) → kept_at now from ≡ Some k → told ≡ (outline k to).told))
  met_told = IfOk-weaker r _ _ (λ t e. IfOk-weaker t _ _ (λ told e k found. e ∙ ap (λ m. m.told) (letter_is k found)) e) has.told

  pub met_heard : IfOk r (λ t. IfOk t (λ told. (k : KeptNode Q) → kept_at now from ≡ Some k → IsHeard now after (outline k to).letter start (max start told)))
  met_heard = heard_in m.told r has.told has.heard (λ told e h k found.
      subst (λ n. IsHeard now after (outline k to).letter start (max start n)) (sym e)
      (subst (λ l. IsHeard now after l.letter start (max start m.told)) (letter_is k found) (heard_nodes xs ls now view count counted m.letter (to - 1) refl low y z within at_place ms start (max start m.told) past h)))

  same : IsUnheard y z ls ms → SameBarRoom now after
  same u = unheard_same xs ls now view count counted m.letter (to - 1) refl low y z within at_place ms u

  pub met_stays : IfOk r (λ t. OnErr t (SameBarRoom now after))
  met_stays = IfOk-weaker r _ _ (λ t u. on_err_weaker t same u) has.stays

  pub met_accepted : OnErr r ((k : KeptNode Q) → kept_at now from ≡ Some k → hear_refusal s now (outline k to).letter ≡ None)
  met_accepted = on_err_weaker r (λ e k found. ap (λ m. hear_refusal s now m.letter) (sym (letter_is k found)) ∙ sym judged ∙ e) has.accepted

  pub met_err : OnErr r (SameBarRoom now after)
  met_err = on_err_weaker r same has.err

  pub met_grow : AllGrow now after
  met_grow = either_way r has.heard has.stays has.err (heard_grow xs ls now view count counted m.letter (to - 1) refl low y z within at_place ms start (max start m.told) past) (λ u. same_grow now after (same u))

  pub met_count : length ms ≡ 64
  met_count = either_way r has.heard has.stays has.err (λ h. ap length h.logs ∙ length-set ls (to - 1) _ ∙ counted) (λ u. ap length u.logs ∙ counted)
