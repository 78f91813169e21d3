-- A letter that its addressee heard: the world then, and what counts as merged
use Rattle.std.proofs.Common.{◌≡◌, ℕ, ◌-◌, ◌≤◌, max, List, drop, take, None, Some, refl, sym, ap, ◌∙◌, arith}
use Rattle.std.proofs.Math.Nat.{max-eq_left}
use Rattle.rambo_names.specs.Names.{IsName}
use Rattle.rambo_names.specs.Quorums.{QuorumSystem}
use Rattle.rambo_names.specs.Refusals.{least}
use Rattle.rambo_history.specs.declared.event.Event.{Event}
use Rattle.rambo_tag.specs.Copies.{Copies, joined}
use Rattle.rambo_tag.specs.Logs.{greatest_of}
use Rattle.rambo_gossip.specs.Kinds as kind
use Rattle.rambo_gossip.specs.Letters.{letter_with}
use Rattle.rambo_node.specs.declared.effect.Effect.TheVariants as effect
use Rattle.rambo_node.specs.Hearing.{heard_letter}
use Rattle.rambo_node.specs.Acts as act
use Rattle.rambo_sequence.specs.declared.mark.Mark.{Mark}
use Rattle.rambo_node.specs.declared.step.StepOf.TheVariants as step
use Rattle.rambo_run.specs.Steps.{refusal, turn}
use Rattle.rambo_letters.specs.Kept.{SentState, sent_at}
use Rattle.rambo_logs.specs.Merged.{merged_at, merged_raised}
use Rattle.rambo_logs.specs.NodeLogs.{part}
use Rattle.rambo_world.specs.Kept.{KeptNode, states_of, kept_at, state_at, log_in, log_at, brought, moved, AllGrow, IsSent, IsKept}
use Rattle.rambo_world.specs.Deliveries.{world_of}
use Rattle.rambo_world.specs.Hearing.{hear_refusal, IsHeard}
use Rattle.rambo_world.proofs.Deliveries.{sent_causes, delivered_moved, moved_state, kept_raised, deliver_world}
use Rattle.rambo_world.proofs.Stepping.{kept_stays, letters_stay}
use Rattle.rambo_world.proofs.Turns.{there, kept_there, deliver_refusal}

-- the letter of a number is judged by its addressee
pub judged_sent : {Q : Type 0} (s : QuorumSystem Q) (ks : List (KeptNode Q)) (ss : List (SentState Q)) (h : List Event) (ms : List Mark) (number : ℕ) (m : SentState Q) → sent_at ss number ≡ Some m
    → hear_refusal s ks m.letter ≡ refusal s (world_of ks ss h ms) (step.Deliver number)
judged_sent s ks ss h ms number m found = ap least (sym (sent_causes ks ss h ms number s m found)) ∙ sym (deliver_refusal s (world_of ks ss h ms) number)

-- who wants to join tells of nothing that wasn't merged
pub joins_with_none : {Q : Type 0} (ks : List (KeptNode Q)) (m : SentState Q) → IsSent ks m → (before : ℕ) → m.letter.kind ≡ kind.Join → max before m.told ≤ before
joins_with_none ks m sent before joins = let none = ap (max before) (sent.join joins) ∙ max-eq_left (omega arith) in omega (arith, none)

module _ {Q : Type 0} (s : QuorumSystem Q) (ks new : List (KeptNode Q)) (ss : List (SentState Q)) (counts : List ℕ) (kept : IsKept ks ss counts) (grow : AllGrow ks new)
    (m : SentState Q) (sent : IsSent ks m) (before : ℕ) (to : IsName m.letter.addressee) (from : IsName m.letter.sender) (count : before ≡ merged_at counts m.letter.addressee m.letter.sender)
    (accepted : hear_refusal s ks m.letter ≡ None) (heard : IsHeard ks new m.letter before (max before m.told)) where
  own : (k : KeptNode Q) × (kept_at ks m.letter.addressee ≡ Some k) × (state_at ks m.letter.addressee ≡ Some k.node.state)
  own =
      let x = there s (state_at ks m.letter.addressee) (act.Hear m.letter) accepted in
      let k = kept_there ks m.letter.addressee x.0 x.1 in
      (k.0, k.1, x.1 ∙ ap Some (sym k.2))

  abbrev pack : Copies
  pack = brought ks m.letter before (max before m.told)

  packed : joined own.0.node.state.registers pack
      ≡ joined own.0.node.state.registers (greatest_of (drop (merged_at counts m.letter.addressee m.letter.sender) (take (max (merged_at counts m.letter.addressee m.letter.sender) m.told) (log_at ks m.letter.sender))))
  packed =
      let mine : own.0.node.state.registers ≡ greatest_of (log_at ks m.letter.addressee) = kept.recorded (m.letter.addressee - 1) own.0 own.1 ∙ ap greatest_of (sym (ap log_in own.1)) in
      ap (λ r. joined r pack) mine ∙ heard.enough ∙ ap (λ r. joined r (greatest_of (part (log_at ks m.letter.sender) before (max before m.told)))) (sym mine)
      ∙ ap (λ n. joined own.0.node.state.registers (greatest_of (drop n (take (max n m.told) (log_at ks m.letter.sender))))) count

  nodes : states_of new ≡ moved ks m.letter.addressee (λ y. heard_letter y (letter_with m.letter pack))
  nodes = heard.nodes ∙ delivered_moved ks m.letter.addressee (letter_with m.letter pack) (letter_with m.letter pack) refl

  pub kept_after : IsKept new ss (merged_raised counts m.letter.addressee m.letter.sender m.told)
  kept_after =
      kept_raised ks new ss counts kept grow m sent own.0 pack to from own.1 packed (kept_stays ks new grow ss counts kept)
      (λ y there. moved_state ks new m.letter.addressee (λ x. heard_letter x (letter_with m.letter pack)) own.0.node.state y nodes own.2 there)

  pub came : (h : List Event) (ms : List Mark) (number : ℕ) → sent_at ss number ≡ Some m → turn (world_of ks ss h ms) (step.Deliver number) ≡ record { world = world_of new ss h ms; effect = effect.Done }
  came h ms number found = deliver_world ks new ss counts kept grow m sent own.0 pack to from own.1 packed h ms number found own.2 nodes (letters_stay ks new grow ss kept.sent)
