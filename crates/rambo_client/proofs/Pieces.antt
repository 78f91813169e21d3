-- A client that is served piece by piece
use Rattle.std.proofs.Common.{◌≡◌, ℕ, ◌≤◌, true, false, List, [], ◌∷◌, ◌++◌, length, drop, take, Option, None, Some, Ok, Err, refl, sym, ap, ◌∙◌, subst, append_assoc, append-nil, arith}
use Rattle.std.proofs.Math.Seq.{drop-append_seam}
use Rattle.std.proofs.lemmas.List.{take-append-le, take-take}
use Rattle.std.proofs.KnownBytes.{Appends-trans, Consumes-trans, Consumes-kept, Consumes-nil, Appends-nil}
use Rattle.std.specs.Io.KnownBytes.{Appends, Consumes, IsAtEnd, Keeps}
use Rattle.rambo_atomic.specs.Streams.{Begins}
use Rattle.rambo_names.specs.Weights.{Weights, members_of}
use Rattle.rambo_resp.specs.Decoders.{DecoderState, HasTaken, oldest_of, without_oldest}
use Rattle.rambo_resp.specs.Streams.{Ending, open_at, faulty, Reads}
use Rattle.rambo_resp.specs.declared.fault.Fault.{Fault}
use Rattle.rambo_resp.specs.Replies.{reply_spelling}
use Rattle.rambo_resp.proofs.Unique.{commands_stay, each_is_read}
use Rattle.rambo_commands.specs.declared.request.Request.{Request}
use Rattle.rambo_client.specs.Maps.{Map, no_values}
use Rattle.rambo_commands.specs.Requests.{request_of}
use Rattle.rambo_commands.specs.Replies.{fault_reply}
use Rattle.rambo_client.specs.Replies.{reply_to, after_all, replies, requests, text_of, last_reply}
use Rattle.rambo_client.specs.Calls.{lowest}
use Rattle.rambo_client.specs.Courses.{Course, HasDone, HasBegun, no_steps}
use Rattle.rambo_client.specs.Talks.{IsTalk, Answers, BreaksOff, IsOver, Served, Stopped, ServesAt, StopsAt, fault_in, is_faulty}
use Rattle.rambo_client.proofs.Gains.{after_all-append, replies-append, requests-append, begins-more, begins-whole, begins-kept, none_done}

-- what was written and read so far
pub record Going (name : ℕ) (founders : Weights) (d : DecoderState) (took : Course → Type 0) (left left_now taken taken_now : Option (List ℕ)) : Type 0 where
  pub stream : List ℕ
  pub commands : List (List (List ℕ))
  pub talk : IsTalk name founders d took stream commands
  pub goes_on : is_faulty d.ending ≡ false
  pub read : Consumes left left_now stream
  pub written : Appends taken taken_now (replies no_values (requests commands))

-- some commands of a decoder were carried out
pub record Carried (name : ℕ) (founders : Weights) (first now : DecoderState) (h0 h : Course → Type 0) (out0 out : List ℕ) : Type 0 where
  pub done : List (List (List ℕ))
  pub split : first.waiting ≡ done ++ now.waiting
  pub ending : now.ending ≡ first.ending
  pub does : (qs : List Request) → HasDone name founders qs h0
      → HasDone name founders (qs ++ requests done) h × (out ≡ out0 ++ replies (after_all no_values qs) (requests done))

-- the commands that were given are all that the decoder has read
pub taken_of : (name : ℕ) (founders : Weights) (d : DecoderState) (h : Course → Type 0) (stream : List ℕ) (commands : List (List (List ℕ))) → IsTalk name founders d h stream commands → HasTaken d stream (length commands)
taken_of name founders d h stream commands t = record {
  commands = commands;
  reads = t.reads;
  few = omega arith;
  waiting = t.given ∙ sym (ap (drop (length commands)) (sym (append-nil commands)) ∙ drop-append_seam commands []);
}

-- and with a piece more, those that wait are behind them
pub fed : (stream piece : List ℕ) (commands : List (List (List ℕ))) (e : Ending) (d : DecoderState) → Reads stream commands e → HasTaken d (stream ++ piece) (length commands)
    → Reads (stream ++ piece) (commands ++ d.waiting) d.ending
fed stream piece commands e d r h =
    let s = commands_stay stream piece commands h.commands e d.ending r h.reads in
    let w : d.waiting ≡ s.0 = h.waiting ∙ ap (drop (length commands)) s.1 ∙ drop-append_seam commands s.0 in
    subst (λ cs. Reads (stream ++ piece) cs d.ending) (s.1 ∙ ap (λ n. commands ++ n) (sym w)) h.reads

-- the replies to some commands more
pub text_more : (commands more : List (List (List ℕ))) (e : Ending) (out : List ℕ) → out ≡ replies (after_all no_values (requests commands)) (requests more)
    → text_of (commands ++ more) e ≡ replies no_values (requests commands) ++ (out ++ last_reply e)
text_more commands more e out is =
    ap (λ qs. replies no_values qs ++ last_reply e) (requests-append commands more)
    ∙ ap (λ l. l ++ last_reply e) (replies-append no_values (requests commands) (requests more))
    ∙ append_assoc (replies no_values (requests commands)) (replies (after_all no_values (requests commands)) (requests more)) (last_reply e)
    ∙ ap (λ o. replies no_values (requests commands) ++ (o ++ last_reply e)) (sym is)

-- a piece more, where a client was served so far
module _ (name : ℕ) (founders : Weights) (d : DecoderState) (h : Course → Type 0) (stream piece : List ℕ) (commands : List (List (List ℕ))) (talk : IsTalk name founders d h stream commands) where
  -- nothing of it was taken
  pub untaken : BreaksOff name founders h (stream ++ piece) commands
  untaken =
      let r = each_is_read (stream ++ piece) in
      let s = commands_stay stream piece commands r.0 d.ending r.1 talk.reads r.2 in
      record {
        commands_now = commands ++ s.0;
        ending = r.1;
        reads = subst (λ cs. Reads (stream ++ piece) cs r.1) s.1 r.2;
        calls = subst (λ qs. HasBegun name founders qs h) (sym (requests-append commands s.0)) (begins-kept name founders (requests commands) (requests s.0) h talk.calls);
        new = replies (after_all no_values (requests commands)) (requests s.0) ++ last_reply r.1;
        text = text_more commands s.0 r.1 (replies (after_all no_values (requests commands)) (requests s.0)) refl;
      }

  module _ (e : DecoderState) (taken : HasTaken e (stream ++ piece) (length commands)) where
    abbrev now : List (List (List ℕ))
    now = commands ++ e.waiting

    -- its commands were begun
    pub begun : (new : Course → Type 0) → HasBegun name founders (requests commands ++ requests e.waiting) new → BreaksOff name founders new (stream ++ piece) commands
    begun new calls = record {
      commands_now = now;
      ending = e.ending;
      reads = fed stream piece commands d.ending e talk.reads taken;
      calls = subst (λ qs. HasBegun name founders qs new) (sym (requests-append commands e.waiting)) calls;
      new = replies (after_all no_values (requests commands)) (requests e.waiting) ++ last_reply e.ending;
      text = text_more commands e.waiting e.ending (replies (after_all no_values (requests commands)) (requests e.waiting)) refl;
    }

    -- they were carried out
    pub served : (f : DecoderState) (new : Course → Type 0) (out : List ℕ) → f ≡ record e { waiting = [] } → HasDone name founders (requests commands ++ requests e.waiting) new
        → out ≡ replies (after_all no_values (requests commands)) (requests e.waiting) → Answers name founders f new (stream ++ piece) commands (out ++ last_reply e.ending)
    served f new out is calls written =
        subst (λ f. Answers name founders f new (stream ++ piece) commands (out ++ last_reply e.ending)) (sym is)
        (record {
          commands_now = now;
          talk = record {
            reads = fed stream piece commands d.ending e talk.reads taken;
            given = refl;
            calls = subst (λ qs. HasDone name founders qs new) (sym (requests-append commands e.waiting)) calls;
          };
          text = text_more commands e.waiting e.ending out written;
        })

-- no fault has no reply
pub no_last : (e : Ending) → None ≡ fault_in e → last_reply e ≡ []
no_last (open_at bytes place) e = refl
no_last (faulty fault) e = cc

pub some_last : (e : Ending) (fault : Fault) → Some fault ≡ fault_in e → last_reply e ≡ reply_spelling (fault_reply fault)
some_last (open_at bytes place) fault e = cc
some_last (faulty f) fault e = let same : fault ≡ f = cc in ap (λ x. reply_spelling (fault_reply x)) (sym same)

-- the oldest command
pub oldest_some : (ws : List (List (List ℕ))) (e : Ending) (c : List (List ℕ)) → Ok (Some c) ≡ oldest_of ws e → ws ≡ c ∷ drop 1 ws
oldest_some [] (open_at bytes place) c e = cc
oldest_some [] (faulty fault) c e = cc
oldest_some (w ∷ ws) f c e = let same : c ≡ w = cc in ap (λ x. x ∷ ws) (sym same)

-- none was
pub none_carried : (name : ℕ) (founders : Weights) (d : DecoderState) (h : Course → Type 0) (out : List ℕ) → Carried name founders d d h h out out
none_carried name founders d h out = record {
  done = [];
  split = refl;
  ending = refl;
  does = λ qs mine. (subst (λ rs. HasDone name founders rs h) (sym (append-nil qs)) mine, sym (append-nil out));
}

-- none waits
pub none_waits : (ws : List (List (List ℕ))) (e : Ending) → Ok None ≡ oldest_of ws e → ws ≡ []
none_waits [] e is = refl
none_waits (w ∷ ws) e is = cc

pub none_waits_at : (ws : List (List (List ℕ))) (e : Ending) (f : Fault) → Err f ≡ oldest_of ws e → ws ≡ []
none_waits_at [] e f is = refl
none_waits_at (w ∷ ws) e f is = cc

-- so all were carried out
pub all_carried : (name : ℕ) (founders : Weights) (first last : DecoderState) (h0 h : Course → Type 0) (out0 out : List ℕ) → Carried name founders first last h0 h out0 out → last.waiting ≡ []
    → (qs : List Request) → HasDone name founders qs h0 → HasDone name founders (qs ++ requests first.waiting) h
all_carried name founders first last h0 h out0 out carried none qs mine =
    let all : carried.done ≡ first.waiting = sym (append-nil carried.done) ∙ ap (λ w. carried.done ++ w) (sym none) ∙ sym carried.split in
    subst (λ w. HasDone name founders (qs ++ requests w) h) all (carried.does qs mine).0

-- a command more
module _ (name : ℕ) (founders : Weights) (first now next : DecoderState) (h0 h : Course → Type 0) (out0 out : List ℕ) (carried : Carried name founders first now h0 h out0 out) (c : List (List ℕ))
    (oldest : now.waiting ≡ c ∷ drop 1 now.waiting) (left : next ≡ without_oldest now) where
  abbrev q : Request
  q = request_of c

  waits : now.waiting ≡ c ∷ next.waiting
  waits = oldest ∙ ap (λ (d : DecoderState). c ∷ d.waiting) (sym left)

  split_now : first.waiting ≡ (carried.done ++ c ∷ []) ++ next.waiting
  split_now = carried.split ∙ ap (λ w. carried.done ++ w) waits ∙ sym (append_assoc carried.done (c ∷ []) next.waiting)

  requests_now : (qs : List Request) → (qs ++ requests carried.done) ++ q ∷ [] ≡ qs ++ requests (carried.done ++ c ∷ [])
  requests_now qs = append_assoc qs (requests carried.done) (q ∷ []) ∙ ap (λ rs. qs ++ rs) (sym (requests-append carried.done (c ∷ [])))

  pub one_carried : (new : Course → Type 0) (out_now : List ℕ) → ((qs : List Request) → HasDone name founders qs h → HasDone name founders (qs ++ q ∷ []) new)
      → ((qs : List Request) → HasDone name founders qs h → out_now ≡ out ++ reply_spelling (reply_to (after_all no_values qs) q)) → Carried name founders first next h0 new out0 out_now
  one_carried new out_now calls written = record {
    done = carried.done ++ c ∷ [];
    split = split_now;
    ending = ap (λ (d : DecoderState). d.ending) left ∙ carried.ending;
    does = λ qs mine.
        let r = carried.does qs mine in
        let m = after_all no_values qs in
        let done = requests carried.done in
        let spelt = λ (m : Map). reply_spelling (reply_to m q) in (
          subst (λ rs. HasDone name founders rs new) (requests_now qs) (calls (qs ++ done) r.0),
          written (qs ++ done) r.0
              ∙ (λ i. r.1 i ++ spelt (after_all-append no_values qs done i))
              ∙ append_assoc out0 (replies m done) (spelt (after_all m done))
              ∙ ap (λ l. out0 ++ l) (ap (λ l. replies m done ++ l) (sym (append-nil (spelt (after_all m done)))) ∙ sym (replies-append m done (q ∷ [])) ∙ ap (replies m) (sym (requests-append carried.done (c ∷ [])))),
        );
  }

  pub one_begun : (new : Course → Type 0) → ((qs : List Request) → HasDone name founders qs h → HasBegun name founders (qs ++ q ∷ []) new)
      → (qs : List Request) → HasDone name founders qs h0 → HasBegun name founders (qs ++ requests first.waiting) new
  one_begun new begins qs mine =
      let r = carried.does qs mine in
      let done = requests carried.done in
      subst (λ rs. HasBegun name founders rs new)
      (ap (λ rs. rs ++ requests next.waiting) (requests_now qs) ∙ append_assoc qs (requests (carried.done ++ c ∷ [])) (requests next.waiting)
      ∙ ap (λ rs. qs ++ rs) (sym (requests-append (carried.done ++ c ∷ []) next.waiting) ∙ ap requests (sym split_now)))
      (begins-more name founders ((qs ++ done) ++ q ∷ []) (requests next.waiting) new (begins (qs ++ done) r.0))

-- ---- what was read and written

-- the bytes that were read into the front of a buffer
pub piece_is : (xs into items : List ℕ) (n len : ℕ) → xs ≡ take len (into ++ drop (length into) items) → n ≤ length into → n ≤ len → take n xs ≡ take n into
piece_is xs into items n len e within below =
    ap (take n) e ∙ take-take n len (into ++ drop (length into) items) below ∙ take-append-le n into (drop (length into) items) within

Begins-then : (a b c : Option (List ℕ)) (xs ys text : List ℕ) → Appends a b xs → Begins b c ys → text ≡ xs ++ ys → Begins a c text
Begins-then a b c xs ys text f g is =
    (xs ++ g.0, g.1, is ∙ ap (λ l. xs ++ l) g.2 ∙ sym (append_assoc xs g.0 g.1), Appends-trans a b c xs g.0 f g.3)

over_by_fault : (e : Ending) (left : Option (List ℕ)) → is_faulty e ≡ true → IsOver e left
over_by_fault (open_at bytes place) left e = cc
over_by_fault (faulty fault) left e = tt

over_at_end : (e : Ending) (left : Option (List ℕ)) → IsAtEnd left → IsOver e left
over_at_end (open_at bytes place) left e = e
over_at_end (faulty fault) left e = tt

no_last_reply : (e : Ending) → is_faulty e ≡ false → last_reply e ≡ []
no_last_reply (open_at bytes place) e = refl
no_last_reply (faulty fault) e = cc

module _ (name : ℕ) (founders : Weights) (d : DecoderState) (h : Course → Type 0) (left0 left taken0 taken : Option (List ℕ)) (going : Going name founders d h left0 left taken0 taken) where
  -- nothing more was read
  pub stopped : (left_now : Option (List ℕ)) → Keeps left left_now → StopsAt name founders left0 left_now taken0 taken h
  stopped left_now kept = record {
    commands = going.commands;
    stops = record {
      stream = going.stream;
      ending = d.ending;
      read = Consumes-kept left0 left left_now going.stream going.read kept;
      reads = going.talk.reads;
      written = (replies no_values (requests going.commands), last_reply d.ending, refl, going.written);
    };
    calls = begins-whole name founders (requests going.commands) h going.talk.calls;
  }

  -- the input ended
  pub ended : (left_now : Option (List ℕ)) (piece : List ℕ) → piece ≡ [] → Consumes left left_now piece → IsAtEnd left_now → ServesAt name founders left0 left_now taken0 taken h
  ended left_now piece none read end = record {
    commands = going.commands;
    serves = record {
      stream = going.stream;
      ending = d.ending;
      read = subst (Consumes left0 left_now) (ap (λ l. going.stream ++ l) none ∙ append-nil going.stream) (Consumes-trans left0 left left_now going.stream piece going.read read);
      reads = going.talk.reads;
      over = over_at_end d.ending left_now end;
      written = subst (Appends taken0 taken) (sym (append-nil (replies no_values (requests going.commands))) ∙ ap (λ l. replies no_values (requests going.commands) ++ l) (sym (no_last_reply d.ending going.goes_on))) going.written;
    };
    calls = going.talk.calls;
  }

  module _ (left_now : Option (List ℕ)) (piece : List ℕ) (read : Consumes left left_now piece) where
    all_read : Consumes left0 left_now (going.stream ++ piece)
    all_read = Consumes-trans left0 left left_now going.stream piece going.read read

    -- a piece more was carried out in part
    pub broken_off : (new : Course → Type 0) → BreaksOff name founders new (going.stream ++ piece) going.commands → StopsAt name founders left0 left_now taken0 taken new
    broken_off new b = record {
      commands = b.commands_now;
      stops = record {
        stream = going.stream ++ piece;
        ending = b.ending;
        read = all_read;
        reads = b.reads;
        written = (replies no_values (requests going.commands), b.new, b.text, going.written);
      };
      calls = b.calls;
    }

    module _ (e : DecoderState) (new : Course → Type 0) (out : List ℕ) (a : Answers name founders e new (going.stream ++ piece) going.commands out) (taken_now : Option (List ℕ)) where
      -- the replies to it were written in part
      pub written_in_part : Begins taken taken_now out → StopsAt name founders left0 left_now taken0 taken_now new
      written_in_part b = record {
        commands = a.commands_now;
        stops = record {
          stream = going.stream ++ piece;
          ending = e.ending;
          read = all_read;
          reads = a.talk.reads;
          written = Begins-then taken0 taken taken_now (replies no_values (requests going.commands)) out (text_of a.commands_now e.ending) going.written b a.text;
        };
        calls = begins-whole name founders (requests a.commands_now) new a.talk.calls;
      }

      all_written : Appends taken taken_now out → Appends taken0 taken_now (text_of a.commands_now e.ending)
      all_written w = subst (Appends taken0 taken_now) (sym a.text) (Appends-trans taken0 taken taken_now (replies no_values (requests going.commands)) out going.written w)

      -- and where it has a fault all is done
      pub done_by_fault : Appends taken taken_now out → is_faulty e.ending ≡ true → ServesAt name founders left0 left_now taken0 taken_now new
      done_by_fault w over = record {
        commands = a.commands_now;
        serves = record {
          stream = going.stream ++ piece;
          ending = e.ending;
          read = all_read;
          reads = a.talk.reads;
          over = over_by_fault e.ending left_now over;
          written = all_written w;
        };
        calls = a.talk.calls;
      }

      -- else it goes on
      pub goes_on : Appends taken taken_now out → is_faulty e.ending ≡ false → Going name founders e new left0 left_now taken0 taken_now
      goes_on w over = record {
        stream = going.stream ++ piece;
        commands = a.commands_now;
        talk = a.talk;
        goes_on = over;
        read = all_read;
        written = subst (Appends taken0 taken_now) (ap (λ l. replies no_values (requests a.commands_now) ++ l) (no_last_reply e.ending over) ∙ append-nil (replies no_values (requests a.commands_now))) (all_written w);
      }

-- nothing was read, and nothing written
pub nothing : (name : ℕ) (founders : Weights) (left taken : Option (List ℕ)) (took : Course → Type 0) → took (no_steps founders) → StopsAt name founders left left taken taken took
nothing name founders left taken took fresh =
    let r = each_is_read [] in
    record {
      commands = r.0;
      stops = record {
        stream = [];
        ending = r.1;
        read = Consumes-nil left;
        reads = r.2;
        written = ([], text_of r.0 r.1, refl, Appends-nil taken);
      };
      calls = begins-kept name founders [] (requests r.0) took (none_done name founders took fresh);
    }

-- the client's name is that of the lowest founder
pub served_as : (name : ℕ) (own founders : Weights) (left left_now taken taken_now : Option (List ℕ)) (took : Course → Type 0) → own ≡ founders → name ≡ lowest (members_of founders)
    → ServesAt name own left left_now taken taken_now took → ServesAt (lowest (members_of founders)) founders left left_now taken taken_now took
served_as name own founders left left_now taken taken_now took same least s =
    subst (λ n. ServesAt n founders left left_now taken taken_now took) least (subst (λ f. ServesAt name f left left_now taken taken_now took) same s)

pub stopped_as : (name : ℕ) (own founders : Weights) (left left_now taken taken_now : Option (List ℕ)) (took : Course → Type 0) → own ≡ founders → name ≡ lowest (members_of founders)
    → StopsAt name own left left_now taken taken_now took → StopsAt (lowest (members_of founders)) founders left left_now taken taken_now took
stopped_as name own founders left left_now taken taken_now took same least s =
    subst (λ n. StopsAt n founders left left_now taken taken_now took) least (subst (λ f. StopsAt name f left left_now taken taken_now took) same s)

-- what is told of some steps whatever they are
pub served_somehow : (founders : Weights) (left left_now taken taken_now : Option (List ℕ)) (took : Course → Type 0)
    → ServesAt (lowest (members_of founders)) founders left left_now taken taken_now took → Served founders left left_now taken taken_now
served_somehow founders left left_now taken taken_now took s = record { commands = s.commands; serves = s.serves; calls = (s.calls.0, tt, s.calls.2, s.calls.3) }

pub stopped_somehow : (founders : Weights) (left left_now taken taken_now : Option (List ℕ)) (took : Course → Type 0)
    → StopsAt (lowest (members_of founders)) founders left left_now taken taken_now took → Stopped founders left left_now taken taken_now
stopped_somehow founders left left_now taken taken_now took s = record { commands = s.commands; stops = s.stops; calls = (s.calls.0, tt, s.calls.2, s.calls.3) }
