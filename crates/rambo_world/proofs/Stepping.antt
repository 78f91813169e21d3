-- The letters and the counts after a step of the nodes
use Rattle.std.proofs.Common.{◌≡◌, ℕ, suc, ◌-◌, ◌≤◌, List, [], ◌∷◌, take, length, None, Some, slice_get, refl, sym, ap, ◌∙◌, inl, inr, subst, arith}
use Rattle.std.proofs.lemmas.Bool.{false≢true}
use Rattle.std.specs.Option.{is_some}
use Rattle.std.proofs.lemmas.Option.{slice_get_past, slice_get_cases}
use Rattle.std.proofs.lemmas.List.{length-append, take-append-le}
use Rattle.rambo_tag.specs.declared.keyed_version.KeyedVersion.{KeyedVersion}
use Rattle.rambo_tag.specs.Copies.{Copies, joined}
use Rattle.rambo_tag.specs.Logs.{greatest_of}
use Rattle.rambo_tag.proofs.Logged.{greatest_of-append, joined-absorbed}
use Rattle.rambo_history.proofs.Asked.{some_and}
use Rattle.rambo_gossip.specs.Letters.{letter_with}
use Rattle.rambo_letters.specs.Kept.{SentState}
use Rattle.rambo_logs.specs.Merged.{merged_at}
use Rattle.rambo_world.specs.Kept.{KeptNode, Extends, log_in, log_at, whole_letter, whole_letters, IsRecorded, Grows, AllGrow, IsSent, HasMerged, IsKept}
use Rattle.rambo_letters.proofs.Lists.{some_is}
use Rattle.rambo_world.proofs.Growth.{Extends-refl}

-- a node gains copies alone, so it keeps what it has merged
pub keeps_merged : {Q : Type 0} (x y : KeptNode Q) (c : Copies) → IsRecorded x → Grows x y → joined x.node.state.registers c ≡ x.node.state.registers → joined y.node.state.registers c ≡ y.node.state.registers
keeps_merged x y c recorded grows holds =
    let more = grows.extends.0 in
    let gain : y.node.state.registers ≡ joined x.node.state.registers (greatest_of more) =
    grows.recorded recorded ∙ ap greatest_of grows.extends.1 ∙ greatest_of-append x.log more ∙ ap (λ r. joined r (greatest_of more)) (sym recorded) in
    ap (λ r. joined r c) gain ∙ joined-absorbed x.node.state.registers c (greatest_of more) holds ∙ sym gain

module _ {Q : Type 0} (old new : List (KeptNode Q)) (grow : AllGrow old new) where
  -- the node of a place, after and before
  pub after : (place : ℕ) (x : KeptNode Q) → slice_get old place ≡ Some x → (y : KeptNode Q) × (slice_get new place ≡ Some y) × Grows x y
  after place x found = some_and (Grows x) (slice_get new place) (grow.grow place x found)

  none_after : (place : ℕ) → length old ≤ place → slice_get new place ≡ None
  none_after place past = slice_get_past new place (subst (λ n. n ≤ place) (sym grow.count) past)

  pub before : (place : ℕ) (y : KeptNode Q) → slice_get new place ≡ Some y → (x : KeptNode Q) × (slice_get old place ≡ Some x) × Grows x y
  before place y found =
      elim ((slice_get_cases old place).1) [
        | inl h ↦ let there = after place h.0 h.2 in (h.0, h.2, subst (Grows h.0) (some_is there.0 y (sym there.1 ∙ found)) there.2)
        | inr h ↦ absurd (false≢true (ap is_some (sym (none_after place h.0) ∙ found)))
      ]

  log_extends : (place : ℕ) → Extends (log_in (slice_get old place)) (log_in (slice_get new place))
  log_extends place =
      elim ((slice_get_cases old place).1) [
        | inl h ↦ let there = after place h.0 h.2 in
            subst (λ o. Extends (log_in o) (log_in (slice_get new place))) (sym h.2) (subst (λ o. Extends h.0.log (log_in o)) (sym there.1) there.2.extends)
        | inr h ↦ subst (λ o. Extends (log_in o) (log_in (slice_get new place))) (sym h.1) (subst (λ o. Extends [] (log_in o)) (sym (none_after place h.0)) (Extends-refl []))
      ]

  more_logged : (cs ds : List KeyedVersion) (n : ℕ) → Extends cs ds → n ≤ length cs → (n ≤ length ds) × (take n ds ≡ take n cs)
  more_logged cs ds n extends within =
      let same = ap length extends.1 ∙ length-append cs extends.0 in
      (omega (arith, same, within), ap (take n) extends.1 ∙ take-append-le n cs extends.0 within)

  -- what a letter told of is still there
  pub told_stays : (name n : ℕ) → n ≤ length (log_at old name) → (n ≤ length (log_at new name)) × (take n (log_at new name) ≡ take n (log_at old name))
  told_stays name n within = more_logged (log_at old name) (log_at new name) n (log_extends (name - 1)) within

  letter_stays : (s : SentState Q) → IsSent old s → whole_letter new s ≡ whole_letter old s
  letter_stays s sent = ap (λ cs. letter_with s.letter (greatest_of cs)) (told_stays s.letter.sender s.told sent.within).1

  pub letters_stay : (ss : List (SentState Q)) → ((place : ℕ) (s : SentState Q) → slice_get ss place ≡ Some s → IsSent old s) → whole_letters new ss ≡ whole_letters old ss
  letters_stay [] sent = refl
  letters_stay (s ∷ ss) sent = λ i. letter_stays s (sent 0 s refl) i ∷ letters_stay ss (λ place t found. sent (suc place) t found) i

  pub sent_stays : (s : SentState Q) → IsSent old s → IsSent new s
  sent_stays s sent = record { within = (told_stays s.letter.sender s.told sent.within).0; join = sent.join }

  pub merged_stays : (ms : List ℕ) (to from : ℕ) (x y : KeptNode Q) → IsRecorded x → Grows x y → HasMerged old ms to from x → HasMerged new ms to from y
  merged_stays ms to from x y recorded grows merged =
      let told = told_stays from (merged_at ms to from) merged.within in
      record {
        within = told.0;
        holds = ap (λ cs. joined y.node.state.registers (greatest_of cs)) told.1 ∙ keeps_merged x y (greatest_of (take (merged_at ms to from) (log_at old from))) recorded grows merged.holds;
      }

  pub kept_stays : (ss : List (SentState Q)) (ms : List ℕ) → IsKept old ss ms → IsKept new ss ms
  kept_stays ss ms kept = record {
    nodes = grow.count ∙ kept.nodes;
    counts = kept.counts;
    names = λ place y found. let b = before place y found in b.2.name ∙ kept.names place b.0 b.1;
    recorded = λ place y found. let b = before place y found in b.2.recorded (kept.recorded place b.0 b.1);
    sent = λ place s found. sent_stays s (kept.sent place s found);
    merged = λ to from y at_to at_from found. let b = before (to - 1) y found in
        merged_stays ms to from b.0 y (kept.recorded (to - 1) b.0 b.1) b.2 (kept.merged to from b.0 at_to at_from b.1);
  }
