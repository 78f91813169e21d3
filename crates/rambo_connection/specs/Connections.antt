-- Connections
use Rattle.std.specs.Prelude.{◌≡◌, ◌⊎◌, ℕ, ◌<◌, Bool, true, false, not, ◌&&◌, nat_lt, List, [], ◌++◌, length, Option, None, Some}
use Rattle.rambo_names.specs.declared.refusal.Refusal.{Refusal}
use Rattle.rambo_names.specs.declared.refusal.Refusal.TheVariants.{OutOfMemory}
use Rattle.rambo_resp.specs.declared.fault.Fault.{Fault}
use Rattle.rambo_resp.specs.declared.reply.Reply.{Reply}
use Rattle.rambo_resp.specs.declared.reply.Reply.TheVariants as reply
use Rattle.rambo_resp.specs.Decoders.{DecoderState, without_oldest}
use Rattle.rambo_resp.specs.Replies.{reply_spelling}
use Rattle.rambo_resp.specs.Streams.{open_at}
use Rattle.rambo_commands.specs.Administration.{Asks}
use Rattle.rambo_commands.specs.Replies.{refusal_reply, fault_reply}
use Rattle.rambo_commands.specs.declared.request.Request.TheVariants.{Says, Does}
use Rattle.rambo_commands.specs.declared.server_request.ServerRequest.{ServerRequest}
use Rattle.rambo_commands.specs.declared.server_request.ServerRequest.TheVariants.{Common, Use, Join, Recon, Collect, Stop, Config, Info, Shutdown}
use Rattle.rambo_connection.specs.Incoming.{has_command}

-- the node that its commands are asked of; what came in; the command that the server is asked for; the bytes that are
-- to be written, and the refusal that is still to be put after them; and whether it is closed once they are written
pub record ConnectionState : Type 0 where
  pub node : ℕ
  pub incoming : DecoderState
  pub under_way : Option (List (List ℕ))
  pub out : List ℕ
  pub owed : Option Refusal
  pub ended : Bool

-- before anything came
abbrev pub fresh : ℕ → ConnectionState
fresh node = record { node = node; incoming = record { waiting = []; ending = open_at [] 0 }; under_way = None; out = []; owed = None; ended = false }

-- a reply is put after those before it
abbrev pub replied : Reply → ConnectionState → ConnectionState
replied r c = record c { out = c.out ++ reply_spelling r }

-- a refusal is to be put there as soon as there is room
abbrev pub owing : Refusal → ConnectionState → ConnectionState
owing refusal c = record c { owed = Some refusal }

-- a reply was put after the others, or it is a refusal, and owed
abbrev pub Tells : Reply → ConnectionState → ConnectionState → Type 0
Tells r c d = (d ≡ replied r c) ⊎ ((refusal : Refusal) × (r ≡ refusal_reply refusal) × (d ≡ owing refusal c))

-- the reply where there is no memory for another one
abbrev pub no_memory : Reply
no_memory = refusal_reply OutOfMemory

-- its next command was taken out
abbrev pub next_taken : ConnectionState → ConnectionState
next_taken c = record c { incoming = without_oldest c.incoming }

-- it may take on a command: it goes on, no command is in progress, and it has few replies to write
pub record IsFree (c : ConnectionState) : Type 0 where
  pub goes_on : c.ended ≡ false
  pub idle : c.under_way ≡ None
  pub owes_none : c.owed ≡ None
  pub room : length c.out < 65536

-- the reply of the connection itself, where the server isn't asked
abbrev pub own_reply : ServerRequest → Option Reply
own_reply (Common (Says r)) = Some r
own_reply (Common (Does o)) = None
own_reply (Use node) = Some reply.Ok
own_reply (Join node known) = None
own_reply (Recon wish) = None
own_reply Collect = None
own_reply (Stop node) = None
own_reply Config = None
own_reply Info = None
own_reply Shutdown = Some reply.Ok

-- what becomes of the connection with it: it uses another node, or it ends
abbrev pub settled : ServerRequest → ConnectionState → ConnectionState
settled (Use node) c = record c { node = node }
settled Shutdown c = record c { ended = true }
settled asked c = c

-- a command of a connection was replied to by itself, or there was no memory for that
abbrev pub Settles : List (List ℕ) → Reply → ConnectionState → ConnectionState → Type 0
Settles command r c d =
    ((asked : ServerRequest) × Asks command asked × (own_reply asked ≡ Some r) × (d ≡ settled asked (replied r c)))
    ⊎ ((r ≡ no_memory) × (d ≡ owing OutOfMemory c))

-- another node is used, or there was no memory for the reply to that
abbrev pub Using : ℕ → ConnectionState → ConnectionState → Type 0
Using node c d = (d ≡ record (replied reply.Ok c) { node = node }) ⊎ (d ≡ owing OutOfMemory c)

-- a command asks the server for this
abbrev pub AsksServer : List (List ℕ) → ServerRequest → Type 0
AsksServer command asked = Asks command asked × (own_reply asked ≡ None)

-- the fault of the stream is reported, and no more is read
abbrev pub faulted : Fault → ConnectionState → ConnectionState
faulted fault c = record (replied (fault_reply fault) c) { ended = true }

-- more may be read: it goes on, no command waits, and it has few replies to write
abbrev pub wants_input : ConnectionState → Bool
wants_input c = not c.ended && (nat_lt (length c.out) 65536 && not (has_command c.incoming))
