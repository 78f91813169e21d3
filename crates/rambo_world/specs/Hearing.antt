-- What a letter that comes makes of its addressee, as it is stored
use Rattle.std.specs.Prelude.{◌≡◌, ℕ, max, length, List, Option, None, Result, IfOk, OnOk, OnErr}
use Rattle.rambo_names.specs.declared.refusal.Refusal.{Refusal}
use Rattle.rambo_names.specs.Quorums.{QuorumSystem}
use Rattle.rambo_names.specs.Refusals.{least}
use Rattle.rambo_tag.specs.declared.keyed_version.KeyedVersion.{KeyedVersion}
use Rattle.rambo_tag.specs.Copies.{joined}
use Rattle.rambo_tag.specs.Logs.{greatest_of}
use Rattle.rambo_gossip.specs.Letters.{LetterState, letter_with}
use Rattle.rambo_logs.specs.NodeLogs.{extended, part, lacked}
use Rattle.rambo_logs.specs.NodeLogs as node_logs
use Rattle.rambo_node.specs.Changes.{refusal_of, made_by}
use Rattle.rambo_node.specs.Nodes.{NodeState, RoomyNode}
use Rattle.rambo_node.specs.Acts as act
use Rattle.rambo_letters.specs.Kept.{SentState}
use Rattle.rambo_run.specs.Steps.{causes_at}
use Rattle.rambo_world.specs.Direct.{told_refusal}
use Rattle.rambo_world.specs.Kept.{KeptNode, outline_by, states_of, state_at, log_at, moved, brought}

-- why the addressee of a letter refuses it, if it does
abbrev pub hear_refusal : {Q : Type 0} → QuorumSystem Q → List (KeptNode Q) → LetterState Q → Option Refusal
hear_refusal s ks l = least (causes_at s (state_at ks l.addressee) (act.Hear l))

-- of a part of the log of a letter's sender, the copies that its addressee's log lacks
abbrev pub lacked_of : {Q : Type 0} → List (List KeyedVersion) → LetterState Q → ℕ → ℕ → List KeyedVersion
lacked_of ls l start end = lacked (greatest_of (node_logs.log_at ls l.addressee)) (part (node_logs.log_at ls l.sender) start end)

-- the letter of a node to another, as it is stored with these logs
abbrev pub told_by : {Q : Type 0} → NodeState Q → ℕ → List (List KeyedVersion) → SentState Q
told_by x to ls = outline_by x to (length (node_logs.log_at ls x.name))

-- a node heard a letter, with those copies of a part of its sender's log that its own lacked. These come to the same as
-- all of the part, and are in its log then
pub record HasHeard {Q : Type 0} (old new : RoomyNode Q) (before after : List (List KeyedVersion)) (l : LetterState Q) (start end : ℕ) : Type 0 where
  pub node : new.state ≡ (made_by old.state (act.Hear (letter_with l (greatest_of (lacked_of before l start end))))).node
  pub logs : after ≡ extended before l.addressee (lacked_of before l start end)
  pub enough : joined (greatest_of (node_logs.log_at before l.addressee)) (greatest_of (lacked_of before l start end)) ≡ joined (greatest_of (node_logs.log_at before l.addressee)) (greatest_of (part (node_logs.log_at before l.sender) start end))

-- a node didn't hear a letter: neither it nor a log has changed
pub record IsUnheard {Q : Type 0} (old new : RoomyNode Q) (before after : List (List KeyedVersion)) : Type 0 where
  pub node : new.state ≡ old.state
  pub logs : after ≡ before

-- what became of a letter to a node that has such a letter kept for it. It was heard, and how many copies it has is
-- answered; or why it isn't heard is; or there was no room
pub record HasMet {Q : Type 0} (s : QuorumSystem Q) (old new : RoomyNode Q) (before after : List (List KeyedVersion)) (m : SentState Q) (start : ℕ) (r : Result (Result ℕ Refusal) Refusal) : Type 0 where
  pub refusal : IfOk r (λ t. told_refusal t ≡ refusal_of s old.state (act.Hear m.letter))
  pub told : IfOk r (λ t. IfOk t (λ told. told ≡ m.told))
  pub heard : IfOk r (λ t. OnOk t (HasHeard old new before after m.letter start (max start m.told)))
  pub stays : IfOk r (λ t. OnErr t (IsUnheard old new before after))
  pub accepted : OnErr r (refusal_of s old.state (act.Hear m.letter) ≡ None)
  pub err : OnErr r (IsUnheard old new before after)

-- the addressee of a letter heard it, with those copies of a part of its sender's log that it lacked, which come to the same
-- as all of the part
pub record IsHeard {Q : Type 0} (old new : List (KeptNode Q)) (l : LetterState Q) (start end : ℕ) : Type 0 where
  pub nodes : states_of new ≡ moved old l.addressee (λ x. (made_by x (act.Hear (letter_with l (brought old l start end)))).node)
  pub enough : joined (greatest_of (log_at old l.addressee)) (brought old l start end) ≡ joined (greatest_of (log_at old l.addressee)) (greatest_of (part (log_at old l.sender) start end))
