-- The replies to the commands of a connection, in their order
use Rattle.std.specs.Prelude.{◌≡◌, ◌⊎◌, ℕ, true, List, [], ◌∷◌, ◌++◌, fold, map, flat_map, Option, None, Some, option_to_list}
use Rattle.std.specs.List.{AllByRecursion}
use Rattle.rambo_names.specs.declared.refusal.Refusal.{Refusal}
use Rattle.rambo_resp.specs.declared.fault.Fault.{Fault}
use Rattle.rambo_resp.specs.declared.reply.Reply.{Reply}
use Rattle.rambo_resp.specs.Replies.{reply_spelling}
use Rattle.rambo_resp.specs.Streams.{Ending, Reads}
use Rattle.rambo_commands.specs.Administration.{Asks}
use Rattle.rambo_commands.specs.Replies.{refusal_reply, fault_reply}
use Rattle.rambo_commands.specs.declared.server_request.ServerRequest.{ServerRequest}
use Rattle.rambo_connection.specs.Connections.{ConnectionState, fresh, own_reply, no_memory}
use Rattle.rambo_connection.specs.Events.{Event, Fed, Begun, Settled, Answered, Paid, Faulted, Written, Happens}

-- events happen one after another
abbrev pub Happen : List Event → ConnectionState → ConnectionState → Type 0
Happen [] c d = d ≡ c
Happen (e ∷ es) c d = (next : ConnectionState) × Happens e c next × Happen es next d

-- a command that was replied to, and its reply
pub record Exchange : Type 0 where
  pub command : List (List ℕ)
  pub reply : Reply

abbrev pub command_of : Exchange → List (List ℕ)
command_of e = e.command

-- what was seen of a connection: the bytes that came, the commands that were replied to, the faults that were reported,
-- and the bytes that were written
pub record Story : Type 0 where
  pub stream : List ℕ
  pub exchanges : List Exchange
  pub faults : List Fault
  pub written : List ℕ

abbrev pub no_story : Story
no_story = record { stream = []; exchanges = []; faults = []; written = [] }

abbrev pub exchanged : List (List ℕ) → Reply → Story → Story
exchanged command r s = record s { exchanges = s.exchanges ++ record { command = command; reply = r } ∷ [] }

-- with one more event: the reply to a command is that of the connection itself, or the one that came while it was in
-- progress
abbrev pub told_on : Story → Event → Story
told_on s (Fed piece) = record s { stream = s.stream ++ piece }
told_on s (Begun command) = s
told_on s (Settled command r) = exchanged command r s
told_on s (Answered command r) = exchanged command r s
told_on s Paid = s
told_on s (Faulted fault) = record s { faults = s.faults ++ fault ∷ [] }
told_on s (Written bytes) = record s { written = s.written ++ bytes }

abbrev pub story_of : List Event → Story
story_of es = fold told_on no_story es

-- the replies to the commands, one after another, and then that to the fault of the stream
abbrev pub reply_text : Exchange → List ℕ
reply_text e = reply_spelling e.reply

abbrev pub fault_text : Fault → List ℕ
fault_text fault = reply_spelling (fault_reply fault)

abbrev pub text_of : Story → List ℕ
text_of s = flat_map reply_text s.exchanges ++ flat_map fault_text s.faults

abbrev pub owed_text : Option Refusal → List ℕ
owed_text None = []
owed_text (Some refusal) = reply_spelling (refusal_reply refusal)

-- these are the first commands of a stream
pub record AreFirst (stream : List ℕ) (commands : List (List (List ℕ))) : Type 0 where
  pub more : List (List (List ℕ))
  pub ending : Ending
  pub reads : Reads stream (commands ++ more) ending

-- the reply to a command is the connection's own where it has one, or there was no memory for that
abbrev pub HasOwnReply : Exchange → Type 0
HasOwnReply e = (asked : ServerRequest) (r : Reply) → Asks e.command asked → own_reply asked ≡ Some r → (e.reply ≡ r) ⊎ (e.reply ≡ no_memory)

pub record InOrder (s : Story) (c : ConnectionState) : Type 0 where
  -- what was written and what is to be written is the reply to each command that was replied to, and then that to the fault
  pub bytes : s.written ++ (c.out ++ owed_text c.owed) ≡ text_of s
  -- those commands, the one in progress and those that wait are the first of the stream, in its order
  pub commands : AreFirst s.stream ((map command_of s.exchanges ++ option_to_list c.under_way) ++ c.incoming.waiting)
  pub own : AllByRecursion HasOwnReply s.exchanges

-- that holds of every connection, whatever happens
abbrev pub RepliesInOrder : Type 0
RepliesInOrder = (node : ℕ) (es : List Event) (c : ConnectionState) → Happen es (fresh node) c → InOrder (story_of es) c

-- once a connection ends, no command is taken on or replied to, and no fault is reported, whatever happens
abbrev pub NothingBehindTheEnd : Type 0
NothingBehindTheEnd = (node : ℕ) (before later : List Event) (c d : ConnectionState) → Happen before (fresh node) c → c.ended ≡ true → Happen later c d
    → (d.under_way ≡ None) × (text_of (fold told_on (story_of before) later) ≡ text_of (story_of before))
