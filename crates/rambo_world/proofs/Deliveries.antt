-- What a letter that is delivered does to the world
use Rattle.std.proofs.Common.{◌≡◌, ℕ, zero, suc, ◌+◌, ◌-◌, ◌*◌, ◌≤◌, ◌<◌, max, List, take, drop, length, Option, None, Some, slice_get, slice_set, refl, sym, ap, ◌∙◌, inl, inr, subst, arith}
use Rattle.std.proofs.lemmas.Bool.{cases_eq, false≢true}
use Rattle.std.proofs.lemmas.List.{length-set, get_or-set_same}
use Rattle.std.proofs.lemmas.Option.{slice_get_within, slice_get_read, slice_get-map}
use Rattle.std.proofs.Math.Nat.{max-le, max-eq_left}
use Rattle.std.specs.Option.{option_map, is_some}
use Rattle.rambo_names.specs.Names.{IsName}
use Rattle.rambo_names.specs.Quorums.{QuorumSystem}
use Rattle.rambo_tag.specs.declared.keyed_version.KeyedVersion.{KeyedVersion}
use Rattle.rambo_tag.specs.Copies.{Copies, joined}
use Rattle.rambo_tag.specs.Logs.{greatest_of}
use Rattle.rambo_history.specs.declared.event.Event.{Event}
use Rattle.rambo_gossip.specs.Letters.{LetterState, letter_with}
use Rattle.rambo_node.specs.declared.effect.Effect.TheVariants as effect
use Rattle.rambo_node.specs.Changes.{made_by}
use Rattle.rambo_node.specs.Hearing.{heard_letter}
use Rattle.rambo_node.specs.Nodes.{NodeState}
use Rattle.rambo_node.specs.Acts as act
use Rattle.rambo_sequence.specs.declared.mark.Mark.{Mark}
use Rattle.rambo_node.specs.declared.step.StepOf.TheVariants as step
use Rattle.rambo_run.specs.Worlds.{WorldState, letter_at}
use Rattle.rambo_node.specs.Acts.{delivery}
use Rattle.rambo_run.specs.Steps.{causes_at, causes_of, turn, turn_at}
use Rattle.rambo_letters.specs.Kept.{SentState, sent_at}
use Rattle.rambo_logs.specs.Merged.{merged_at, merged_raised}
use Rattle.rambo_world.specs.Kept.{KeptNode, state_of, states_of, moved_in, kept_at, state_at, log_at, whole_letter, whole_letters, moved, AllGrow, IsSent, HasMerged, IsKept}
use Rattle.rambo_letters.proofs.Lists.{some_is}
use Rattle.rambo_world.proofs.Merging.{merge_told, merged_told}
use Rattle.rambo_world.proofs.Delivering.{letter_at-sent, causes_with, heard_alike, heard_registers, raised_same, raised_other, own_place, place_below}
use Rattle.rambo_world.proofs.Stepping.{told_stays}
use Rattle.rambo_world.proofs.Turns.{step_turn}
use Rattle.rambo_world.specs.Deliveries.{world_of}

module _ {Q : Type 0} (ks : List (KeptNode Q)) (ss : List (SentState Q)) (h : List Event) (ms : List Mark) (number : ℕ) where
  pub sent_letter : (m : SentState Q) → sent_at ss number ≡ Some m → letter_at (whole_letters ks ss) number ≡ Some (whole_letter ks m)
  sent_letter m found = letter_at-sent ks ss number ∙ ap (option_map (whole_letter ks)) found

  no_letter : sent_at ss number ≡ None → letter_at (whole_letters ks ss) number ≡ None
  no_letter found = letter_at-sent ks ss number ∙ ap (option_map (whole_letter ks)) found

  pub sent_causes : (s : QuorumSystem Q) (m : SentState Q) → sent_at ss number ≡ Some m
      → causes_of s (world_of ks ss h ms) (delivery (letter_at (whole_letters ks ss) number)) ≡ causes_at s (state_at ks m.letter.addressee) (act.Hear m.letter)
  sent_causes s m found =
      ap (λ l. causes_of s (world_of ks ss h ms) (delivery l)) (sent_letter m found)
      ∙ causes_with s (state_at ks m.letter.addressee) m.letter (greatest_of (take m.told (log_at ks m.letter.sender)))

  pub no_causes : (s : QuorumSystem Q) → sent_at ss number ≡ None → causes_of s (world_of ks ss h ms) (delivery (letter_at (whole_letters ks ss) number)) ≡ causes_of s (world_of ks ss h ms) None
  no_causes s found = ap (λ l. causes_of s (world_of ks ss h ms) (delivery l)) (no_letter found)

-- the letter of a number stands one place before it
pub sent_before : {Q : Type 0} (ss : List (SentState Q)) (number : ℕ) (s : SentState Q) → sent_at ss number ≡ Some s → slice_get ss (number - 1) ≡ Some s
sent_before ss zero s found = absurd (false≢true (ap is_some found))
sent_before ss (suc i) s found = let same : suc i - 1 ≡ i = omega arith in ap (slice_get ss) same ∙ found

-- a node that was moved, as it is kept
pub moved_state : {Q : Type 0} (ks new : List (KeptNode Q)) (n : ℕ) (f : NodeState Q → NodeState Q) (x : NodeState Q) (y : KeptNode Q)
    → states_of new ≡ moved ks n f → state_at ks n ≡ Some x → kept_at new n ≡ Some y → y.node.state ≡ f x
moved_state ks new zero f x y e there found = absurd (false≢true (ap is_some there))
moved_state ks new (suc i) f x y e there found =
    let place : suc i - 1 ≡ i = omega arith in
    let set : states_of new ≡ slice_set (states_of ks) i (f x) = e ∙ ap (λ o. moved_in (suc i) o f (states_of ks)) there ∙ ap (λ j. slice_set (states_of ks) j (f x)) place in
    let below = slice_get_within (states_of ks) i x there in
    let here : slice_get (states_of new) i ≡ Some (f x) = ap (λ l. slice_get l i) set
    ∙ slice_get_read (slice_set (states_of ks) i (f x)) (length (states_of ks)) i (f x) (sym (length-set (states_of ks) i (f x))) below (sym (get_or-set_same (states_of ks) i (f x) (f x) below)) in
    some_is y.node.state (f x) (sym (slice_get-map state_of new i ∙ ap (option_map state_of) (ap (slice_get new) (sym place) ∙ found)) ∙ here)

-- a delivery is the hearing of a letter
delivered : {Q : Type 0} (x : NodeState Q) (l : LetterState Q) → (made_by x (act.Hear l)).node ≡ heard_letter x l
unfolding made_by
delivered x l = refl

delivered_in : {Q : Type 0} (n : ℕ) (o : Option (NodeState Q)) (l : LetterState Q) (xs : List (NodeState Q)) → moved_in n o (λ y. (made_by y (act.Hear l)).node) xs ≡ moved_in n o (λ y. heard_letter y l) xs
delivered_in n None l xs = refl
delivered_in n (Some x) l xs = ap (slice_set xs (n - 1)) (delivered x l)

pub delivered_moved : {Q : Type 0} (ks : List (KeptNode Q)) (n : ℕ) (l m : LetterState Q) → l ≡ m → moved ks n (λ y. (made_by y (act.Hear l)).node) ≡ moved ks n (λ y. heard_letter y m)
delivered_moved ks n l m same = delivered_in n (state_at ks n) l (states_of ks) ∙ ap (λ l. moved ks n (λ y. heard_letter y l)) same

-- a letter that comes to a node that is there
heard_turn : {Q : Type 0} (w : WorldState Q) (l : LetterState Q) (x : NodeState Q) → turn_at w l.addressee (Some x) (act.Hear l)
    ≡ record { world = record w { nodes = slice_set w.nodes (l.addressee - 1) (heard_letter x l) }; effect = effect.Done }
unfolding made_by
heard_turn w l x = refl

module _ {Q : Type 0} (ks new : List (KeptNode Q)) (ss : List (SentState Q)) (counts : List ℕ) (kept : IsKept ks ss counts) (grow : AllGrow ks new)
    (s : SentState Q) (sent : IsSent ks s) (x : KeptNode Q) (pack : Copies) (to : IsName s.letter.addressee) (from : IsName s.letter.sender)
    (there : kept_at ks s.letter.addressee ≡ Some x)
    (packed : joined x.node.state.registers pack ≡ joined x.node.state.registers (greatest_of (drop (merged_at counts s.letter.addressee s.letter.sender) (take (max (merged_at counts s.letter.addressee s.letter.sender) s.told) (log_at ks s.letter.sender))))) where
  abbrev m : ℕ
  m = merged_at counts s.letter.addressee s.letter.sender

  abbrev log : List KeyedVersion
  log = log_at ks s.letter.sender

  has : HasMerged ks counts s.letter.addressee s.letter.sender x
  has = kept.merged s.letter.addressee s.letter.sender x to from there

  -- the copies that are new do what all of them do
  pub alike : joined x.node.state.registers pack ≡ joined x.node.state.registers (greatest_of (take s.told log))
  alike = packed ∙ merge_told x.node.state.registers m s.told log has.holds

  holds_after : (y : KeptNode Q) → y.node.state ≡ heard_letter x.node.state (letter_with s.letter pack) → joined y.node.state.registers (greatest_of (take (max m s.told) log)) ≡ y.node.state.registers
  holds_after y e =
      elim (heard_registers x.node.state s.letter.sender s.letter.kind pack) [
        | inl h ↦ let same = ap (λ z. z.registers) e ∙ h.1 in
            ap (λ r. joined r (greatest_of (take (max m s.told) log))) same
            ∙ ap (λ n. joined x.node.state.registers (greatest_of (take n log))) (ap (max m) (sent.join h.0) ∙ max-eq_left (omega arith))
            ∙ has.holds ∙ sym same
        | inr h ↦ let same = ap (λ z. z.registers) e ∙ h ∙ alike in
            ap (λ r. joined r (greatest_of (take (max m s.told) log))) same ∙ merged_told x.node.state.registers m s.told log has.holds ∙ sym same
      ]

  told_after : (max m s.told ≤ length (log_at new s.letter.sender)) × (take (max m s.told) (log_at new s.letter.sender) ≡ take (max m s.told) log)
  told_after = told_stays ks new grow s.letter.sender (max m s.told) (max-le has.within sent.within)

  abbrev raised : List ℕ
  raised = merged_raised counts s.letter.addressee s.letter.sender s.told

  below : (s.letter.addressee - 1) * 64 + (s.letter.sender - 1) < length counts
  below = subst (λ n. (s.letter.addressee - 1) * 64 + (s.letter.sender - 1) < n) (sym kept.counts) (place_below s.letter.addressee s.letter.sender to from)

  merged_here : (y : KeptNode Q) → y.node.state ≡ heard_letter x.node.state (letter_with s.letter pack) → HasMerged new raised s.letter.addressee s.letter.sender y
  merged_here y e =
      let count = raised_same counts s.letter.addressee s.letter.sender s.told below in
      record {
        within = subst (λ n. n ≤ length (log_at new s.letter.sender)) (sym count) told_after.0;
        holds = ap (λ n. joined y.node.state.registers (greatest_of (take n (log_at new s.letter.sender)))) count
            ∙ ap (λ l. joined y.node.state.registers (greatest_of l)) told_after.1 ∙ holds_after y e;
      }

  -- and then they count as merged
  pub kept_raised : IsKept new ss counts → ((y : KeptNode Q) → kept_at new s.letter.addressee ≡ Some y → y.node.state ≡ heard_letter x.node.state (letter_with s.letter pack)) → IsKept new ss raised
  kept_raised after heard = record {
    nodes = after.nodes;
    counts = length-set counts _ _ ∙ after.counts;
    names = after.names;
    recorded = after.recorded;
    sent = after.sent;
    merged = λ t f y named_t named_f found.
        elim (cases_eq ((t - 1) * 64 + (f - 1)) ((s.letter.addressee - 1) * 64 + (s.letter.sender - 1))) [
          | inl same ↦ let own = own_place s.letter.addressee s.letter.sender t f to from named_t named_f same in
              subst (λ t. HasMerged new raised t f y) (sym own.0) (subst (λ f. HasMerged new raised s.letter.addressee f y) (sym own.1)
              (merged_here y (heard y (ap (kept_at new) (sym own.0) ∙ found))))
          | inr other ↦ let has = after.merged t f y named_t named_f found in
              let count = raised_other counts s.letter.addressee s.letter.sender s.told t f other in
              record {
                within = subst (λ n. n ≤ length (log_at new f)) (sym count) has.within;
                holds = ap (λ n. joined y.node.state.registers (greatest_of (take n (log_at new f)))) count ∙ has.holds;
              }
        ];
  }

  pub deliver_world : (h : List Event) (ms : List Mark) (number : ℕ) → sent_at ss number ≡ Some s → state_at ks s.letter.addressee ≡ Some x.node.state
      → states_of new ≡ moved ks s.letter.addressee (λ y. heard_letter y (letter_with s.letter pack)) → whole_letters new ss ≡ whole_letters ks ss
      → turn (world_of ks ss h ms) (step.Deliver number) ≡ record { world = world_of new ss h ms; effect = effect.Done }
  deliver_world h ms number found state e letters =
      let w = world_of ks ss h ms in
      let whole = whole_letter ks s in
      let same : heard_letter x.node.state whole ≡ heard_letter x.node.state (letter_with s.letter pack) =
      sym (heard_alike x.node.state s.letter.sender s.letter.kind pack (greatest_of (take s.told log)) alike) in
      let node : slice_set (states_of ks) (s.letter.addressee - 1) (heard_letter x.node.state whole) ≡ states_of new =
      ap (slice_set (states_of ks) (s.letter.addressee - 1)) same ∙ sym (e ∙ ap (λ o. moved_in s.letter.addressee o (λ y. heard_letter y (letter_with s.letter pack)) (states_of ks)) state) in
      step_turn w (step.Deliver number) s.letter.addressee (act.Hear whole) (ap delivery (sent_letter ks ss h ms number s found))
      ∙ ap (λ o. turn_at w s.letter.addressee o (act.Hear whole)) state
      ∙ heard_turn w whole x.node.state
      ∙ λ i. record { world = record { nodes = node i; letters = sym letters i; history = h; marks = ms }; effect = effect.Done }
