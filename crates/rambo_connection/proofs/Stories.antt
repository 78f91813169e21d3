-- What holds of a connection after each event
use Rattle.std.proofs.Common.{◌≡◌, ℕ, Bool, true, false, List, [], ◌∷◌, ◌++◌, fold, map, Option, Some, None, Ok, inl, inr, refl, sym, ap, ◌∙◌, subst, append_assoc, append-nil}
use Rattle.std.specs.Prelude.{flat_map, option_to_list}
use Rattle.std.specs.List.{AllByRecursion}
use Rattle.std.proofs.lemmas.List.{map-append}
use Rattle.std.proofs.lemmas.Grind.{flat_map-append}
use Rattle.rambo_names.specs.declared.refusal.Refusal.{Refusal}
use Rattle.rambo_names.specs.declared.refusal.Refusal.TheVariants.{OutOfMemory}
use Rattle.rambo_resp.specs.declared.fault.Fault.{Fault}
use Rattle.rambo_resp.specs.declared.reply.Reply.{Reply}
use Rattle.rambo_resp.specs.Decoders.{DecoderState, oldest, without_oldest}
use Rattle.rambo_resp.specs.Replies.{reply_spelling}
use Rattle.rambo_commands.specs.Administration.{Asks}
use Rattle.rambo_commands.specs.Replies.{refusal_reply}
use Rattle.rambo_commands.specs.declared.request.Request.TheVariants.{Says, Does}
use Rattle.rambo_commands.specs.declared.server_request.ServerRequest.{ServerRequest}
use Rattle.rambo_commands.specs.declared.server_request.ServerRequest.TheVariants.{Common, Use, Join, Recon, Collect, Stop, Config, Info, Shutdown}
use Rattle.rambo_commands.proofs.OneRequest.{asks_once}
use Rattle.rambo_connection.specs.Incoming.{Feeds}
use Rattle.rambo_connection.specs.Connections.{ConnectionState, fresh, replied, owing, Tells, no_memory, next_taken, IsFree, own_reply, settled, Settles, AsksServer, faulted}
use Rattle.rambo_connection.specs.Events.{Event, Fed, Begun, Settled, Answered, Paid, Faulted, Written, Happens}
use Rattle.rambo_connection.specs.Laws.{Happen, Exchange, command_of, Story, no_story, exchanged, told_on, story_of, reply_text, fault_text, text_of, owed_text, HasOwnReply, InOrder, RepliesInOrder, NothingBehindTheEnd}
use Rattle.rambo_connection.proofs.Standing.{StandsBehind, stands_fed, stands_next, stands_first, nothing_stands}

-- a command under way is one that the server is asked for, and nothing is owed meanwhile
record IsUnderWay (command : List (List ℕ)) (owed : Option Refusal) (ended : Bool) : Type 0 where
  pub asks : (asked : ServerRequest) × AsksServer command asked
  pub owes_none : owed ≡ None
  pub goes_on : ended ≡ false

abbrev Stays : Option (List (List ℕ)) → Option Refusal → Bool → Type 0
Stays None owed ended = Unit {0}
Stays (Some command) owed ended = IsUnderWay command owed ended

record Holds (s : Story) (d : DecoderState) (under_way : Option (List (List ℕ))) (out : List ℕ) (owed : Option Refusal) (ended : Bool) : Type 0 where
  pub bytes : s.written ++ (out ++ owed_text owed) ≡ text_of s
  pub stands : StandsBehind d s.stream (map command_of s.exchanges ++ option_to_list under_way)
  pub stays : Stays under_way owed ended
  pub no_fault : ended ≡ false → s.faults ≡ []
  pub own : AllByRecursion HasOwnReply s.exchanges

abbrev HoldsOf : Story → ConnectionState → Type 0
HoldsOf s c = Holds s c.incoming c.under_way c.out c.owed c.ended

-- ---- bytes

-- a reply more, before any fault was told
one_more : (w out t : List ℕ) (es : List Exchange) (fs : List Fault) (e : Exchange) → fs ≡ [] → reply_text e ≡ t → w ++ (out ++ []) ≡ flat_map reply_text es ++ flat_map fault_text fs
    → w ++ (out ++ t) ≡ flat_map reply_text (es ++ e ∷ []) ++ flat_map fault_text fs
one_more w out t es fs e none is h =
    let before : w ++ out ≡ flat_map reply_text es =
    ap (λ o. w ++ o) (sym (append-nil out)) ∙ h ∙ ap (λ f. flat_map reply_text es ++ flat_map fault_text f) none ∙ append-nil (flat_map reply_text es) in
    let after : flat_map reply_text (es ++ e ∷ []) ≡ flat_map reply_text es ++ t =
    flat_map-append reply_text es (e ∷ []) ∙ ap (λ l. flat_map reply_text es ++ l) (append-nil (reply_text e) ∙ is) in
    sym (append_assoc w out t) ∙ ap (λ l. l ++ t) before ∙ sym after ∙ sym (append-nil (flat_map reply_text (es ++ e ∷ []))) ∙ ap (λ f. flat_map reply_text (es ++ e ∷ []) ++ flat_map fault_text f) (sym none)

-- the fault
one_fault : (w out : List ℕ) (es : List Exchange) (fs : List Fault) (fault : Fault) → fs ≡ [] → w ++ (out ++ []) ≡ flat_map reply_text es ++ flat_map fault_text fs
    → w ++ ((out ++ fault_text fault) ++ []) ≡ flat_map reply_text es ++ flat_map fault_text (fs ++ fault ∷ [])
one_fault w out es fs fault none h =
    let before : w ++ out ≡ flat_map reply_text es =
    ap (λ o. w ++ o) (sym (append-nil out)) ∙ h ∙ ap (λ f. flat_map reply_text es ++ flat_map fault_text f) none ∙ append-nil (flat_map reply_text es) in
    ap (λ l. w ++ l) (append-nil (out ++ fault_text fault)) ∙ sym (append_assoc w out (fault_text fault)) ∙ ap (λ l. l ++ fault_text fault) before
    ∙ ap (λ l. flat_map reply_text es ++ l) (sym (append-nil (fault_text fault)))
    ∙ ap (λ f. flat_map reply_text es ++ flat_map fault_text (f ++ fault ∷ [])) (sym none)

-- ---- replies of its own

own-more : (es : List Exchange) (e : Exchange) → AllByRecursion HasOwnReply es → HasOwnReply e → AllByRecursion HasOwnReply (es ++ e ∷ [])
own-more [] e all one = (one, tt)
own-more (x ∷ es) e all one = (all.0, own-more es e all.1 one)

-- ---- events

-- a command was taken from the front, and was replied to
taken_next : (s : Story) (d : DecoderState) (command : List (List ℕ)) (r : Reply) → StandsBehind d s.stream (map command_of s.exchanges ++ []) → oldest d ≡ Ok (Some command)
    → StandsBehind (without_oldest d) s.stream (map command_of (exchanged command r s).exchanges ++ [])
taken_next s d command r stands is =
    subst (StandsBehind (without_oldest d) s.stream)
    (ap (λ l. l ++ command ∷ []) (append-nil (map command_of s.exchanges)) ∙ sym (map-append command_of s.exchanges (record { command = command; reply = r } ∷ [])) ∙ sym (append-nil (map command_of (exchanged command r s).exchanges)))
    (stands_next d s.stream (map command_of s.exchanges ++ []) command stands is)

now_replied : (s : Story) (d : DecoderState) (command : List (List ℕ)) (r : Reply) → StandsBehind d s.stream (map command_of s.exchanges ++ command ∷ [])
    → StandsBehind d s.stream (map command_of (exchanged command r s).exchanges ++ [])
now_replied s d command r stands =
    subst (StandsBehind d s.stream)
    (sym (map-append command_of s.exchanges (record { command = command; reply = r } ∷ [])) ∙ sym (append-nil (map command_of (exchanged command r s).exchanges)))
    stands

-- a reply was put behind the others, or a refusal is owed
module _ (s : Story) (command : List (List ℕ)) (r : Reply) (d : DecoderState) (out : List ℕ)
    (bytes : s.written ++ (out ++ []) ≡ text_of s) (none : s.faults ≡ []) (stands : StandsBehind d s.stream (map command_of (exchanged command r s).exchanges ++ []))
    (own : AllByRecursion HasOwnReply (exchanged command r s).exchanges) where
  put : (ended : Bool) → Holds (exchanged command r s) d None (out ++ reply_spelling r) None ended
  put ended = record {
    bytes = ap (λ l. s.written ++ l) (append-nil (out ++ reply_spelling r)) ∙ one_more s.written out (reply_spelling r) s.exchanges s.faults (record { command = command; reply = r }) none refl bytes;
    stands = stands;
    stays = tt;
    no_fault = λ _. none;
    own = own;
  }

  owed : (ended : Bool) (refusal : Refusal) → r ≡ refusal_reply refusal → Holds (exchanged command r s) d None out (Some refusal) ended
  owed ended refusal is = record {
    bytes = one_more s.written out (reply_spelling (refusal_reply refusal)) s.exchanges s.faults (record { command = command; reply = r }) none (ap reply_spelling is) bytes;
    stands = stands;
    stays = tt;
    no_fault = λ _. none;
    own = own;
  }

-- what becomes of a connection besides
settled_holds : (asked : ServerRequest) (s : Story) (c : ConnectionState) → ((ended : Bool) → Holds s c.incoming c.under_way c.out c.owed ended) → HoldsOf s (settled asked c)
settled_holds (Common (Says r)) s c h = h c.ended
settled_holds (Common (Does o)) s c h = h c.ended
settled_holds (Use node) s c h = h c.ended
settled_holds (Join node known) s c h = h c.ended
settled_holds (Recon wish) s c h = h c.ended
settled_holds Collect s c h = h c.ended
settled_holds (Stop node) s c h = h c.ended
settled_holds Config s c h = h c.ended
settled_holds Info s c h = h c.ended
settled_holds Shutdown s c h = h true

-- the reply of a command that the connection itself replied to
own_settled : (command : List (List ℕ)) (r : Reply) (asked : ServerRequest) → Asks command asked → own_reply asked ≡ Some r → HasOwnReply (record { command = command; reply = r })
own_settled command r asked asks is = λ other x asks_other is_other.
    let same : asked ≡ other = asks_once command asked other asks asks_other in
    let e : Some r ≡ Some x = sym is ∙ ap own_reply same ∙ is_other in
    inl (cc)

own_refused : (command : List (List ℕ)) (r : Reply) → r ≡ no_memory → HasOwnReply (record { command = command; reply = r })
own_refused command r is = λ other x asks_other is_other. inr is

own_answered : (command : List (List ℕ)) (r : Reply) → (asked : ServerRequest) × AsksServer command asked → HasOwnReply (record { command = command; reply = r })
own_answered command r a = λ other x asks_other is_other.
    let same : a.0 ≡ other = asks_once command a.0 other a.1.0 asks_other in
    let e : None ≡ Some x = sym a.1.1 ∙ ap own_reply same ∙ is_other in cc

-- ---- a connection that may take on a command
module _ (s : Story) (c : ConnectionState) (h : HoldsOf s c) (free : IsFree c) where
  free_bytes : s.written ++ (c.out ++ []) ≡ text_of s
  free_bytes = ap (λ o. s.written ++ (c.out ++ owed_text o)) (sym free.owes_none) ∙ h.bytes

  free_stands : StandsBehind c.incoming s.stream (map command_of s.exchanges ++ [])
  free_stands = subst (λ u. StandsBehind c.incoming s.stream (map command_of s.exchanges ++ option_to_list u)) free.idle h.stands

  free_faults : s.faults ≡ []
  free_faults = h.no_fault free.goes_on

  begun : (command : List (List ℕ)) → oldest c.incoming ≡ Ok (Some command) → (asked : ServerRequest) × AsksServer command asked → HoldsOf s (record (next_taken c) { under_way = Some command })
  begun command is asks = record {
    bytes = h.bytes;
    stands = subst (λ l. StandsBehind (without_oldest c.incoming) s.stream (l ++ command ∷ [])) (append-nil (map command_of s.exchanges))
        (stands_next c.incoming s.stream (map command_of s.exchanges ++ []) command free_stands is);
    stays = record { asks = asks; owes_none = free.owes_none; goes_on = free.goes_on };
    no_fault = h.no_fault;
    own = h.own;
  }

  module _ (command : List (List ℕ)) (r : Reply) (is : oldest c.incoming ≡ Ok (Some command)) where
    settled_now : (asked : ServerRequest) → Asks command asked → own_reply asked ≡ Some r → HoldsOf (exchanged command r s) (settled asked (replied r (next_taken c)))
    settled_now asked asks reply =
        settled_holds asked (exchanged command r s) (replied r (next_taken c)) (λ ended.
        subst (λ u. Holds (exchanged command r s) (without_oldest c.incoming) u.0 (c.out ++ reply_spelling r) u.1 ended) (ap (λ u. let p : Option (List (List ℕ)) × Option Refusal = (u, None) in p) (sym free.idle) ∙ ap (λ o. let p : Option (List (List ℕ)) × Option Refusal = (c.under_way, o) in p) (sym free.owes_none))
        (put s command r (without_oldest c.incoming) c.out free_bytes free_faults (taken_next s c.incoming command r free_stands is)
        (own-more s.exchanges (record { command = command; reply = r }) h.own (own_settled command r asked asks reply)) ended))

    refused_now : r ≡ no_memory → HoldsOf (exchanged command r s) (owing OutOfMemory (next_taken c))
    refused_now reply =
        subst (λ u. Holds (exchanged command r s) (without_oldest c.incoming) u c.out (Some OutOfMemory) c.ended) (sym free.idle)
        (owed s command r (without_oldest c.incoming) c.out free_bytes free_faults (taken_next s c.incoming command r free_stands is)
        (own-more s.exchanges (record { command = command; reply = r }) h.own (own_refused command r reply)) c.ended OutOfMemory reply)

    settles : (d : ConnectionState) → Settles command r (next_taken c) d → HoldsOf (exchanged command r s) d
    settles d (inl a) = subst (HoldsOf (exchanged command r s)) (sym a.3) (settled_now a.0 a.1 a.2)
    settles d (inr a) = subst (HoldsOf (exchanged command r s)) (sym a.1) (refused_now a.0)

  faulted_now : (fault : Fault) → HoldsOf (told_on s (Faulted fault)) (faulted fault c)
  faulted_now fault = record {
    bytes = ap (λ o. s.written ++ ((c.out ++ fault_text fault) ++ owed_text o)) free.owes_none ∙ one_fault s.written c.out s.exchanges s.faults fault free_faults free_bytes;
    stands = h.stands;
    stays = subst (λ u. Stays u c.owed true) (sym free.idle) tt;
    no_fault = λ e. cc;
    own = h.own;
  }

-- ---- the reply to the command under way
module _ (s : Story) (command : List (List ℕ)) (r : Reply) (d : DecoderState) (out : List ℕ) (owed_now : Option Refusal) (ended : Bool) (h : Holds s d (Some command) out owed_now ended) where
  way_bytes : s.written ++ (out ++ []) ≡ text_of s
  way_bytes = let u : IsUnderWay command owed_now ended = h.stays in ap (λ o. s.written ++ (out ++ owed_text o)) (sym u.owes_none) ∙ h.bytes

  way_faults : s.faults ≡ []
  way_faults = let u : IsUnderWay command owed_now ended = h.stays in h.no_fault u.goes_on

  way_own : AllByRecursion HasOwnReply (exchanged command r s).exchanges
  way_own = let u : IsUnderWay command owed_now ended = h.stays in own-more s.exchanges (record { command = command; reply = r }) h.own (own_answered command r u.asks)

  way_put : Holds (exchanged command r s) d None (out ++ reply_spelling r) owed_now ended
  way_put =
      let u : IsUnderWay command owed_now ended = h.stays in
      subst (λ o. Holds (exchanged command r s) d None (out ++ reply_spelling r) o ended) (sym u.owes_none)
      (put s command r d out way_bytes way_faults (now_replied s d command r h.stands) way_own ended)

  way_owed : (refusal : Refusal) → r ≡ refusal_reply refusal → Holds (exchanged command r s) d None out (Some refusal) ended
  way_owed refusal is = owed s command r d out way_bytes way_faults (now_replied s d command r h.stands) way_own ended refusal is

answered : (s : Story) (c d : ConnectionState) (command : List (List ℕ)) (r : Reply) → HoldsOf s c → c.under_way ≡ Some command → Tells r (record c { under_way = None }) d
    → HoldsOf (exchanged command r s) d
answered s c d command r h is (inl e) =
    subst (HoldsOf (exchanged command r s)) (sym e) (way_put s command r c.incoming c.out c.owed c.ended (subst (λ u. Holds s c.incoming u c.out c.owed c.ended) is h))
answered s c d command r h is (inr e) =
    subst (HoldsOf (exchanged command r s)) (sym e.2) (way_owed s command r c.incoming c.out c.owed c.ended (subst (λ u. Holds s c.incoming u c.out c.owed c.ended) is h) e.0 e.1)

-- ---- what was owed, and what is written
still : (under_way : Option (List (List ℕ))) (refusal : Refusal) (ended : Bool) → Stays under_way (Some refusal) ended → Stays under_way None ended
still None refusal ended h = tt
still (Some command) refusal ended h = let u : IsUnderWay command (Some refusal) ended = h in let e : Some refusal ≡ None = u.owes_none in cc

paid : (s : Story) (c : ConnectionState) (refusal : Refusal) → HoldsOf s c → c.owed ≡ Some refusal → HoldsOf s (replied (refusal_reply refusal) (record c { owed = None }))
paid s c refusal h is =
    let k : Holds s c.incoming c.under_way c.out (Some refusal) c.ended = subst (λ o. Holds s c.incoming c.under_way c.out o c.ended) is h in
    record {
      bytes = ap (λ l. s.written ++ l) (append-nil (c.out ++ reply_spelling (refusal_reply refusal))) ∙ k.bytes;
      stands = k.stands;
      stays = still c.under_way refusal c.ended k.stays;
      no_fault = k.no_fault;
      own = k.own;
    }

written : (s : Story) (c : ConnectionState) (bytes out : List ℕ) → HoldsOf s c → c.out ≡ bytes ++ out → HoldsOf (told_on s (Written bytes)) (record c { out = out })
written s c bytes out h is = record {
  bytes = append_assoc s.written bytes (out ++ owed_text c.owed) ∙ ap (λ l. s.written ++ l) (sym (append_assoc bytes out (owed_text c.owed)) ∙ ap (λ l. l ++ owed_text c.owed) (sym is)) ∙ h.bytes;
  stands = h.stands;
  stays = h.stays;
  no_fault = h.no_fault;
  own = h.own;
}

fed : (s : Story) (c : ConnectionState) (piece : List ℕ) (e : DecoderState) → HoldsOf s c → Feeds c.incoming piece e → HoldsOf (told_on s (Fed piece)) (record c { incoming = e })
fed s c piece e h f = record {
  bytes = h.bytes;
  stands = stands_fed c.incoming e s.stream piece (map command_of s.exchanges ++ option_to_list c.under_way) h.stands f;
  stays = h.stays;
  no_fault = h.no_fault;
  own = h.own;
}

one_event : (e : Event) (s : Story) (c d : ConnectionState) → HoldsOf s c → Happens e c d → HoldsOf (told_on s e) d
one_event (Fed piece) s c d h e = subst (HoldsOf (told_on s (Fed piece))) (sym e.1) (fed s c piece d.incoming h e.0)
one_event (Begun command) s c d h e = subst (HoldsOf s) (sym e.3) (begun s c h e.0 command e.1 e.2)
one_event (Settled command r) s c d h e = settles s c h e.0 command r e.1 d e.2
one_event (Answered command r) s c d h e = answered s c d command r h e.0 e.1
one_event Paid s c d h e = subst (HoldsOf s) (sym e.2) (paid s c e.0 h e.1)
one_event (Faulted fault) s c d h e = subst (HoldsOf (told_on s (Faulted fault))) (sym e.2) (faulted_now s c h e.0 fault)
one_event (Written bytes) s c d h e = subst (HoldsOf (told_on s (Written bytes))) (sym e.1) (written s c bytes d.out h e.0)

events : (es : List Event) (s : Story) (c d : ConnectionState) → HoldsOf s c → Happen es c d → HoldsOf (fold told_on s es) d
events [] s c d h e = subst (HoldsOf s) (sym e) h
events (x ∷ es) s c d h e = events es (told_on s x) e.0 d (one_event x s c e.0 h e.1) e.2

holds_at_first : (node : ℕ) → HoldsOf no_story (fresh node)
holds_at_first node = record {
  bytes = refl;
  stands = nothing_stands;
  stays = tt;
  no_fault = λ _. refl;
  own = tt;
}

in_order_of : (s : Story) (c : ConnectionState) → HoldsOf s c → InOrder s c
in_order_of s c h = record {
  bytes = h.bytes;
  commands = stands_first c.incoming s.stream (map command_of s.exchanges ++ option_to_list c.under_way) h.stands;
  own = h.own;
}

pub in_order : RepliesInOrder
in_order node es c e = in_order_of (story_of es) c (events es no_story (fresh node) c (holds_at_first node) e)

-- ---- the end
is_over : (under_way : Option (List (List ℕ))) (owed : Option Refusal) (ended : Bool) → Stays under_way owed ended → ended ≡ true → under_way ≡ None
is_over None owed ended h is = refl
is_over (Some command) owed ended h is = let u : IsUnderWay command owed ended = h in let e : ended ≡ false = u.goes_on in cc

-- a connection that has ended, and what was told
record IsOver (s t : Story) (c : ConnectionState) : Type 0 where
  pub ended : c.ended ≡ true
  pub idle : c.under_way ≡ None
  pub same : text_of t ≡ text_of s

not_free : (c : ConnectionState) → IsFree c → c.ended ≡ true → ⊥
not_free c free is = let e : c.ended ≡ false = free.goes_on in cc

over_still : (s t : Story) (e : Event) (c d : ConnectionState) → IsOver s t c → Happens e c d → IsOver s (told_on t e) d
over_still s t (Fed piece) c d o h = record { ended = ap (λ (x : ConnectionState). x.ended) h.1 ∙ o.ended; idle = ap (λ (x : ConnectionState). x.under_way) h.1 ∙ o.idle; same = o.same }
over_still s t (Begun command) c d o h = absurd (not_free c h.0 o.ended)
over_still s t (Settled command r) c d o h = absurd (not_free c h.0 o.ended)
over_still s t (Answered command r) c d o h = let e : Some command ≡ None = sym h.0 ∙ o.idle in cc
over_still s t Paid c d o h = record { ended = ap (λ (x : ConnectionState). x.ended) h.2 ∙ o.ended; idle = ap (λ (x : ConnectionState). x.under_way) h.2 ∙ o.idle; same = o.same }
over_still s t (Faulted fault) c d o h = absurd (not_free c h.0 o.ended)
over_still s t (Written bytes) c d o h = record { ended = ap (λ (x : ConnectionState). x.ended) h.1 ∙ o.ended; idle = ap (λ (x : ConnectionState). x.under_way) h.1 ∙ o.idle; same = o.same }

all_over : (es : List Event) (s t : Story) (c d : ConnectionState) → IsOver s t c → Happen es c d → IsOver s (fold told_on t es) d
all_over [] s t c d o h = subst (IsOver s t) (sym h) o
all_over (e ∷ es) s t c d o h = all_over es s (told_on t e) h.0 d (over_still s t e c h.0 o h.1) h.2

pub nothing_behind : NothingBehindTheEnd
nothing_behind node before later c d first is h =
    let k : HoldsOf (story_of before) c = events before no_story (fresh node) c (holds_at_first node) first in
    let o = all_over later (story_of before) (story_of before) c d (record { ended = is; idle = is_over c.under_way c.owed c.ended k.stays is; same = refl }) h in (o.idle, o.same)
