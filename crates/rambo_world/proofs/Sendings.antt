-- What a letter that is sent does to the world
use Rattle.std.proofs.Common.{◌≡◌, ℕ, zero, suc, ◌+◌, ◌-◌, ◌≤◌, Bool, true, false, if◌then◌else◌, List, [], ◌∷◌, ◌++◌, take, length, Some, slice_set, refl, sym, ap, ◌∙◌, subst, arith}
use Rattle.std.specs.FinMap as copies
use Rattle.std.proofs.lemmas.Bool.{false≢true}
use Rattle.std.proofs.lemmas.List.{map-append, length-map, length-append, take_all, set-get_or}
use Rattle.std.proofs.lemmas.Option.{get_or_from_slice_get}
use Rattle.std.specs.Option.{is_some}
use Rattle.rambo_tag.specs.Logs.{greatest_of}
use Rattle.rambo_joiner.specs.Statuses.{is_active}
use Rattle.rambo_gossip.specs.Gossips.{GossipState}
use Rattle.rambo_gossip.specs.Kinds.{Kind}
use Rattle.rambo_gossip.specs.Kinds as kind
use Rattle.rambo_gossip.specs.Letters.{kind_with}
use Rattle.rambo_history.specs.declared.event.Event.{Event}
use Rattle.rambo_node.specs.Letters.{letter_for, gossip_for}
use Rattle.rambo_node.specs.Changes.{made_by}
use Rattle.rambo_node.specs.Nodes.{NodeState}
use Rattle.rambo_node.specs.declared.effect.Effect.TheVariants as effect
use Rattle.rambo_node.specs.Acts as act
use Rattle.rambo_sequence.specs.declared.mark.Mark.{Mark}
use Rattle.rambo_node.specs.declared.step.StepOf.TheVariants as step
use Rattle.rambo_run.specs.Steps.{turn, turn_at}
use Rattle.rambo_letters.specs.Kept.{SentState}
use Rattle.rambo_letters.proofs.Lists.{sent_push}
use Rattle.rambo_world.specs.Kept.{KeptNode, states_of, whole_letter, whole_letters, log_in, log_at, kept_at, state_at, outline, IsRecorded, IsSent, IsKept}
use Rattle.rambo_world.proofs.Turns.{step_turn}
use Rattle.rambo_world.specs.Deliveries.{world_of}

-- the name of a node
pub name_of : {Q : Type 0} (ks : List (KeptNode Q)) (n : ℕ) (k : KeptNode Q) → k.node.state.name ≡ n - 1 + 1 → 1 ≤ n → k.node.state.name ≡ n
name_of ks n k e named = let same : n - 1 + 1 ≡ n = omega (arith, named) in e ∙ same

-- a letter as it is kept, by whether its sender gossips
whole_kind : {Q : Type 0} (active : Bool) (k : KeptNode Q) (g : GossipState Q) → g.copies ≡ greatest_of k.log
    → kind_with (kind_with (if active then kind.Gossip g else kind.Join) copies.empty) (greatest_of (take (if active then length k.log else 0) k.log)) ≡ (if active then kind.Gossip g else kind.Join)
whole_kind true k g e = λ i. kind.Gossip (record g { copies = (ap greatest_of (take_all (length k.log) k.log (omega arith)) ∙ sym e) i })
whole_kind false k g e = refl

pub whole_outline : {Q : Type 0} (ks : List (KeptNode Q)) (k : KeptNode Q) (n to : ℕ) → kept_at ks n ≡ Some k → k.node.state.name ≡ n → IsRecorded k → whole_letter ks (outline k to) ≡ letter_for k.node.state to
whole_outline ks k n to found name recorded =
    let log : log_at ks k.node.state.name ≡ k.log = ap (log_at ks) name ∙ ap log_in found in
    λ i. record {
      sender = k.node.state.name;
      addressee = to;
      kind = ((λ j. kind_with (kind_with (if is_active k.node.state.status then kind.Gossip (gossip_for k.node.state to) else kind.Join) copies.empty)
          (greatest_of (take (if is_active k.node.state.status then length k.log else 0) (log j))))
          ∙ whole_kind (is_active k.node.state.status) k (gossip_for k.node.state to) recorded) i;
    }

abbrev is_join : {Q : Type 0} → Kind Q → Bool
is_join kind.Join = true
is_join (kind.Gossip g) = false

pub told_of : {Q : Type 0} (active : Bool) (n : ℕ) (g : GossipState Q) → kind_with (if active then kind.Gossip g else kind.Join) copies.empty ≡ kind.Join → (if active then n else 0) ≡ 0
told_of true n g e = absurd (false≢true (ap is_join e))
told_of false n g e = refl

told_within : (active : Bool) (n : ℕ) → (if active then n else 0) ≤ n
told_within true n = omega arith
told_within false n = omega arith

pub outline_sent : {Q : Type 0} (ks : List (KeptNode Q)) (k : KeptNode Q) (n to : ℕ) → kept_at ks n ≡ Some k → k.node.state.name ≡ n → IsSent ks (outline k to)
outline_sent ks k n to found name =
    let log : log_at ks k.node.state.name ≡ k.log = ap (log_at ks) name ∙ ap log_in found in
    record {
      within = subst (λ cs. (if is_active k.node.state.status then length k.log else 0) ≤ length cs) (sym log) (told_within (is_active k.node.state.status) (length k.log));
      join = told_of (is_active k.node.state.status) (length k.log) (gossip_for k.node.state to);
    }

pub kept_sent : {Q : Type 0} (ks : List (KeptNode Q)) (ss : List (SentState Q)) (s : SentState Q) (ms : List ℕ) → IsKept ks ss ms → IsSent ks s → IsKept ks (ss ++ s ∷ []) ms
kept_sent ks ss s ms kept sent = record {
  nodes = kept.nodes;
  counts = kept.counts;
  names = kept.names;
  recorded = kept.recorded;
  sent = sent_push (IsSent ks) ss s kept.sent sent;
  merged = kept.merged;
}

-- who sends a letter stays as it is
sent_turn : {Q : Type 0} (ks : List (KeptNode Q)) (ss : List (SentState Q)) (h : List Event) (ms : List Mark) (n to : ℕ) (x : NodeState Q) → slice_set (states_of ks) (n - 1) x ≡ states_of ks
    → turn_at (world_of ks ss h ms) n (Some x) (act.Send to)
    ≡ record { world = record { nodes = states_of ks; letters = whole_letters ks ss ++ letter_for x to ∷ []; history = h; marks = ms }; effect = effect.Sent (length (whole_letters ks ss) + 1) }
unfolding made_by
sent_turn ks ss h ms n to x same = λ i. record { world = record { nodes = same i; letters = whole_letters ks ss ++ letter_for x to ∷ []; history = h; marks = ms }; effect = effect.Sent (length (whole_letters ks ss) + 1) }

-- the node of a name, put in its own place
stays : {Q : Type 0} (ks : List (KeptNode Q)) (n : ℕ) (x : NodeState Q) → state_at ks n ≡ Some x → slice_set (states_of ks) (n - 1) x ≡ states_of ks
stays ks zero x e = absurd (false≢true (ap is_some e))
stays ks (suc i) x e =
    let place : suc i - 1 ≡ i = omega arith in
    ap (λ j. slice_set (states_of ks) j x) place
    ∙ ap (slice_set (states_of ks) i) (sym (get_or_from_slice_get (states_of ks) i x x e)) ∙ set-get_or (states_of ks) i x

pub send_world : {Q : Type 0} (ks : List (KeptNode Q)) (ss after : List (SentState Q)) (h : List Event) (ms : List Mark) (n to count : ℕ) (k : KeptNode Q) (s : SentState Q)
    → kept_at ks n ≡ Some k → state_at ks n ≡ Some k.node.state → k.node.state.name ≡ n → IsRecorded k → s ≡ outline k to → after ≡ ss ++ s ∷ [] → count ≡ length after
    → turn (world_of ks ss h ms) (step.Send n to) ≡ record { world = world_of ks after h ms; effect = effect.Sent count }
send_world ks ss after h ms n to count k s found there name recorded same pushed counted =
    let letters : whole_letters ks ss ++ letter_for k.node.state to ∷ [] ≡ whole_letters ks after =
    sym (ap (whole_letters ks) pushed ∙ map-append (whole_letter ks) ss (s ∷ []) ∙ ap (λ l. whole_letters ks ss ++ l ∷ []) (ap (whole_letter ks) same ∙ whole_outline ks k n to found name recorded)) in
    let number : length (whole_letters ks ss) + 1 ≡ count = ap (λ m. m + 1) (length-map ss (whole_letter ks)) ∙ sym (counted ∙ ap length pushed ∙ length-append ss (s ∷ [])) in
    step_turn (world_of ks ss h ms) (step.Send n to) n (act.Send to) refl ∙ ap (λ o. turn_at (world_of ks ss h ms) n o (act.Send to)) there ∙ sent_turn ks ss h ms n to k.node.state (stays ks n k.node.state there)
    ∙ λ i. record { world = record { nodes = states_of ks; letters = letters i; history = h; marks = ms }; effect = effect.Sent (number i) }
