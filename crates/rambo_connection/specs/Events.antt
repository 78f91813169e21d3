-- What happens to a connection
use Rattle.std.specs.Prelude.{◌≡◌, ◌≢◌, ◌⊎◌, ℕ, ◌≤◌, true, false, List, ◌++◌, length, Option, None, Some, Ok, Err}
use Rattle.rambo_names.specs.declared.refusal.Refusal.{Refusal}
use Rattle.rambo_names.specs.declared.refusal.Refusal.TheVariants.{OutOfMemory}
use Rattle.rambo_resp.specs.declared.fault.Fault.{Fault}
use Rattle.rambo_resp.specs.declared.reply.Reply.{Reply}
use Rattle.rambo_resp.specs.declared.reply.Reply.TheVariants as reply
use Rattle.rambo_resp.specs.Decoders.{oldest}
use Rattle.rambo_commands.specs.Administration.{Asks}
use Rattle.rambo_commands.specs.Replies.{refusal_reply}
use Rattle.rambo_commands.specs.declared.server_request.ServerRequest.{ServerRequest}
use Rattle.rambo_commands.specs.declared.server_request.ServerRequest.TheVariants.{Shutdown}
use Rattle.rambo_connection.specs.declared.next.Next.{Next}
use Rattle.rambo_connection.specs.declared.next.Next.TheVariants as next
use Rattle.rambo_connection.specs.Incoming.{Feeds}
use Rattle.rambo_connection.specs.Connections.{ConnectionState, IsFree, Tells, Settles, AsksServer, replied, owing, no_memory, next_taken, faulted}

-- a piece comes; the server is asked for a command; a command is replied to by the connection itself; the reply to the
-- command in progress comes; a refusal that was owed is put; the fault of the stream is reported; bytes are written
pub data Event : Type 0 where
  Fed : List ℕ → Event
  Begun : List (List ℕ) → Event
  Settled : List (List ℕ) → Reply → Event
  Answered : List (List ℕ) → Reply → Event
  Paid : Event
  Faulted : Fault → Event
  Written : List ℕ → Event

-- an event leads from a connection to what becomes of it
abbrev pub Happens : Event → ConnectionState → ConnectionState → Type 0
Happens (Fed piece) c d = Feeds c.incoming piece d.incoming × (d ≡ record c { incoming = d.incoming })
Happens (Begun command) c d =
    IsFree c × (oldest c.incoming ≡ Ok (Some command)) × ((asked : ServerRequest) × AsksServer command asked)
    × (d ≡ record (next_taken c) { under_way = Some command })
Happens (Settled command r) c d = IsFree c × (oldest c.incoming ≡ Ok (Some command)) × Settles command r (next_taken c) d
Happens (Answered command r) c d = (c.under_way ≡ Some command) × Tells r (record c { under_way = None }) d
Happens Paid c d = (refusal : Refusal) × (c.owed ≡ Some refusal) × (d ≡ replied (refusal_reply refusal) (record c { owed = None }))
Happens (Faulted fault) c d = IsFree c × (oldest c.incoming ≡ Err fault) × (d ≡ faulted fault c)
Happens (Written bytes) c d = (c.out ≡ bytes ++ d.out) × (d ≡ record c { out = d.out })

-- nothing is to be done: a command is in progress, many replies are to be written, or no command waits
abbrev pub IsWaiting : ConnectionState → Type 0
IsWaiting c = (c.under_way ≢ None) ⊎ (65536 ≤ length c.out) ⊎ ((c.owed ≡ None) × (oldest c.incoming ≡ Ok None))

-- what the next thing to do is, and what became of the connection with it
abbrev pub Goes : Next → ConnectionState → ConnectionState → Type 0
Goes (next.Asks asked) c d = (command : List (List ℕ)) × AsksServer command asked × Happens (Begun command) c d
Goes next.Replied c d = (((command : List (List ℕ)) × (r : Reply) × Happens (Settled command r) c d) ⊎ Happens Paid c d) × (d.ended ≡ false)
Goes next.Waits c d = IsWaiting c × (c.ended ≡ false) × (d ≡ c)
Goes next.Ends c d = ((c.ended ≡ true) × (d ≡ c)) ⊎ ((fault : Fault) × Happens (Faulted fault) c d)
Goes next.EndsAll c d = (command : List (List ℕ)) × Asks command Shutdown × Happens (Settled command reply.Ok) c d × (d.ended ≡ true)

-- all ends, or there was no memory for the reply to that
abbrev pub EndingAll : Next → ConnectionState → ConnectionState → Type 0
EndingAll (next.Asks asked) c d = ⊥
EndingAll next.Replied c d = d ≡ owing OutOfMemory c
EndingAll next.Waits c d = ⊥
EndingAll next.Ends c d = ⊥
EndingAll next.EndsAll c d = d ≡ record (replied reply.Ok c) { ended = true }

-- what is done with a command that was taken out
abbrev pub TakesOn : List (List ℕ) → Next → ConnectionState → ConnectionState → Type 0
TakesOn command (next.Asks asked) c d = AsksServer command asked × (d ≡ record c { under_way = Some command })
TakesOn command next.Replied c d = ((r : Reply) × Settles command r c d) × (d.ended ≡ false)
TakesOn command next.Waits c d = ⊥
TakesOn command next.Ends c d = ⊥
TakesOn command next.EndsAll c d = Asks command Shutdown × Settles command reply.Ok c d × (d.ended ≡ true)

-- the reply to the command in progress came, or there was no memory for it; without such a command nothing happens
abbrev pub AnswersIf : Option (List (List ℕ)) → Reply → ConnectionState → ConnectionState → Type 0
AnswersIf None r c d = d ≡ c
AnswersIf (Some command) r c d = Happens (Answered command r) c d ⊎ Happens (Answered command no_memory) c d

abbrev pub Answers : Reply → ConnectionState → ConnectionState → Type 0
Answers r c d = AnswersIf c.under_way r c d

-- the command in progress is refused, which is reported whatever memory there is
abbrev pub RefusesIf : Option (List (List ℕ)) → Refusal → ConnectionState → ConnectionState → Type 0
RefusesIf None refusal c d = d ≡ c
RefusesIf (Some command) refusal c d = Happens (Answered command (refusal_reply refusal)) c d

abbrev pub Refuses : Refusal → ConnectionState → ConnectionState → Type 0
Refuses refusal c d = RefusesIf c.under_way refusal c d
