-- Commands at the front of a piece, and what is left of it
use Rattle.std.proofs.Common.{◌≡◌, ℕ, List, [], ◌∷◌, ◌++◌, length, refl, sym, ap, ◌∙◌, subst, append_assoc, append-nil}
use Rattle.rambo_names.specs.Weights.{Weights}
use Rattle.rambo_resp.specs.BriefCommands.{with_waiting}
use Rattle.rambo_resp.specs.Decoders.{DecoderState, HasTaken, HasTakenFront}
use Rattle.rambo_resp.specs.Replies.{reply_spelling}
use Rattle.rambo_resp.specs.Spellings.{command_spelling}
use Rattle.rambo_resp.specs.Streams.{Ending, Reads}
use Rattle.rambo_resp.proofs.Unique.{commands_stay, each_is_read}
use Rattle.rambo_commands.specs.declared.request.Request.{Request}
use Rattle.rambo_commands.specs.Requests.{request_of}
use Rattle.rambo_client.specs.Maps.{Map, no_values}
use Rattle.rambo_client.specs.Replies.{reply_to, after_all, replies, requests, text_of, last_reply}
use Rattle.rambo_client.specs.Courses.{Course, HasDone, HasBegun}
use Rattle.rambo_client.specs.Talks.{IsTalk, Answers, AppendsAnswers, BreaksOff, CarriesFront}
use Rattle.rambo_client.proofs.Gains.{after_all-append, replies-append, requests-append, begins-more}
use Rattle.rambo_client.proofs.Pieces.{taken_of, fed, text_more}

-- the replies to some commands, and to others after them
replies_on : (commands new : List (List (List ℕ))) → replies no_values (requests (commands ++ new)) ≡ replies no_values (requests commands) ++ replies (after_all no_values (requests commands)) (requests new)
replies_on commands new = ap (replies no_values) (requests-append commands new) ∙ replies-append no_values (requests commands) (requests new)

-- some commands were begun, and there is more of the stream
breaks_before : (name : ℕ) (founders : Weights) (took : Course → Type 0) (stream more : List ℕ) (commands new : List (List (List ℕ))) (e : Ending) → Reads stream (commands ++ new) e
    → HasBegun name founders (requests (commands ++ new)) took → BreaksOff name founders took (stream ++ more) commands
breaks_before name founders took stream more commands new e reads begun =
    let r = each_is_read (stream ++ more) in
    let s = commands_stay stream more (commands ++ new) r.0 e r.1 reads r.2 in
    let all : (commands ++ new) ++ s.0 ≡ commands ++ (new ++ s.0) = append_assoc commands new s.0 in
    record {
      commands_now = commands ++ (new ++ s.0);
      ending = r.1;
      reads = subst (λ cs. Reads (stream ++ more) cs r.1) (s.1 ∙ all) r.2;
      calls = subst (λ qs. HasBegun name founders qs took) (sym (requests-append (commands ++ new) s.0) ∙ ap requests all) (begins-more name founders (requests (commands ++ new)) (requests s.0) took begun);
      new = replies (after_all no_values (requests commands)) (requests (new ++ s.0)) ++ last_reply r.1;
      text = text_more commands (new ++ s.0) r.1 (replies (after_all no_values (requests commands)) (requests (new ++ s.0))) refl;
    }

-- the command that had begun was carried out, if it is whole
module _ (name : ℕ) (founders : Weights) (d : DecoderState) (h : Course → Type 0) (stream : List ℕ) (commands : List (List (List ℕ))) (talk : IsTalk name founders d h stream commands)
    (e : DecoderState) (piece rest : List ℕ) (t : HasTakenFront e stream piece rest (length commands)) where
  reads : Reads (stream ++ t.front) (commands ++ e.waiting) e.ending
  reads = fed stream t.front commands d.ending e talk.reads t.taken

  pub begun_front : (f : DecoderState) (new : Course → Type 0) (out out_now : List ℕ) → f ≡ record e { waiting = [] } → HasDone name founders (requests commands ++ requests e.waiting) new
      → out_now ≡ out ++ replies (after_all no_values (requests commands)) (requests e.waiting) → CarriesFront name founders f new stream commands piece rest out out_now
  begun_front f new out out_now is calls written =
      subst (λ x. CarriesFront name founders x new stream commands piece rest out out_now) (sym is)
      (record {
        front = t.front;
        new = e.waiting;
        split = t.split;
        talk = record { reads = reads; given = refl; calls = subst (λ qs. HasDone name founders qs new) (sym (requests-append commands e.waiting)) calls };
        written = written;
      })

  pub begun_breaks : (new : Course → Type 0) → HasBegun name founders (requests commands ++ requests e.waiting) new → BreaksOff name founders new (stream ++ piece) commands
  begun_breaks new calls =
      subst (λ s. BreaksOff name founders new s commands) (append_assoc stream t.front rest ∙ ap (λ l. stream ++ l) (sym t.split))
      (breaks_before name founders new (stream ++ t.front) rest commands e.waiting e.ending reads (subst (λ qs. HasBegun name founders qs new) (sym (requests-append commands e.waiting)) calls))

-- a command more
module _ (name : ℕ) (founders : Weights) (d e : DecoderState) (h : Course → Type 0) (stream : List ℕ) (commands : List (List (List ℕ))) (piece rest behind out0 out : List ℕ) (items : List (List ℕ))
    (c : CarriesFront name founders d h stream commands piece rest out0 out) (spelled : rest ≡ command_spelling items ++ behind)
    (taken : (s : List ℕ) (given : ℕ) → HasTaken d s given → HasTaken (with_waiting e items) (s ++ command_spelling items) given) where
  abbrev q : Request
  q = request_of items

  abbrev before : List (List (List ℕ))
  before = commands ++ c.new

  abbrev new_now : List (List (List ℕ))
  new_now = c.new ++ items ∷ []

  abbrev front_now : List ℕ
  front_now = c.front ++ command_spelling items

  all : before ++ items ∷ [] ≡ commands ++ new_now
  all = append_assoc commands c.new (items ∷ [])

  asked : requests before ++ q ∷ [] ≡ requests (commands ++ new_now)
  asked = sym (requests-append before (items ∷ [])) ∙ ap requests all

  reads_now : Reads (stream ++ front_now) (commands ++ new_now) e.ending
  reads_now =
      subst (λ s. Reads s (commands ++ new_now) e.ending) (append_assoc stream c.front (command_spelling items))
      (subst (λ cs. Reads ((stream ++ c.front) ++ command_spelling items) cs e.ending) all
      (fed (stream ++ c.front) (command_spelling items) before d.ending (with_waiting e items) c.talk.reads
      (taken (stream ++ c.front) (length before) (taken_of name founders d h (stream ++ c.front) before c.talk))))

  split_now : piece ≡ front_now ++ behind
  split_now = c.split ∙ ap (λ t. c.front ++ t) spelled ∙ sym (append_assoc c.front (command_spelling items) behind)

  pub front_more : (new : Course → Type 0) (out_now : List ℕ) → e.waiting ≡ [] → ((qs : List Request) → HasDone name founders qs h → HasDone name founders (qs ++ q ∷ []) new)
      → ((qs : List Request) → HasDone name founders qs h → out_now ≡ out ++ reply_spelling (reply_to (after_all no_values qs) q))
      → CarriesFront name founders e new stream commands piece behind out0 out_now
  front_more new out_now none calls written =
      let m = after_all no_values (requests commands) in
      let held : after_all no_values (requests before) ≡ after_all m (requests c.new) = ap (after_all no_values) (requests-append commands c.new) ∙ after_all-append no_values (requests commands) (requests c.new) in
      let spelt = λ (m : Map). reply_spelling (reply_to m q) in
      record {
        front = front_now;
        new = new_now;
        split = split_now;
        talk = record { reads = reads_now; given = none; calls = subst (λ qs. HasDone name founders qs new) asked (calls (requests before) c.talk.calls) };
        written = written (requests before) c.talk.calls
            ∙ (λ i. c.written i ++ spelt (held i))
            ∙ append_assoc out0 (replies m (requests c.new)) (spelt (after_all m (requests c.new)))
            ∙ ap (λ l. out0 ++ l) (ap (λ l. replies m (requests c.new) ++ l) (sym (append-nil (spelt (after_all m (requests c.new))))) ∙ sym (replies-append m (requests c.new) (q ∷ [])) ∙ ap (replies m) (sym (requests-append c.new (items ∷ []))));
      }

  -- or it was begun
  pub front_breaks : (new : Course → Type 0) → ((qs : List Request) → HasDone name founders qs h → HasBegun name founders (qs ++ q ∷ []) new) → BreaksOff name founders new (stream ++ piece) commands
  front_breaks new begins =
      subst (λ s. BreaksOff name founders new s commands) (append_assoc stream front_now behind ∙ ap (λ t. stream ++ t) (sym split_now))
      (breaks_before name founders new (stream ++ front_now) behind commands new_now e.ending reads_now (subst (λ qs. HasBegun name founders qs new) asked (begins (requests before) c.talk.calls)))

-- what is left of a piece
module _ (name : ℕ) (founders : Weights) (d : DecoderState) (h : Course → Type 0) (stream : List ℕ) (commands : List (List (List ℕ))) (piece rest out0 out : List ℕ)
    (c : CarriesFront name founders d h stream commands piece rest out0 out) where
  whole : (stream ++ c.front) ++ rest ≡ stream ++ piece
  whole = append_assoc stream c.front rest ∙ ap (λ t. stream ++ t) (sym c.split)

  fewer : (text new : List ℕ) → text ≡ replies no_values (requests (commands ++ c.new)) ++ new → text ≡ replies no_values (requests commands) ++ (replies (after_all no_values (requests commands)) (requests c.new) ++ new)
  fewer text new is =
      is ∙ ap (λ t. t ++ new) (replies_on commands c.new) ∙ append_assoc (replies no_values (requests commands)) (replies (after_all no_values (requests commands)) (requests c.new)) new

  -- it was carried out too
  pub rest_answers : (e : DecoderState) (new : Course → Type 0) (out_now : List ℕ) → out0 ≡ [] → AppendsAnswers name founders e new ((stream ++ c.front) ++ rest) (commands ++ c.new) out out_now
      → Answers name founders e new (stream ++ piece) commands out_now
  rest_answers e new out_now none a =
      let there = replies (after_all no_values (requests commands)) (requests c.new) in
      let written : out_now ≡ there ++ a.0 = a.2 ∙ ap (λ t. t ++ a.0) (c.written ∙ ap (λ t. t ++ there) none) in
      subst (Answers name founders e new (stream ++ piece) commands) (sym written)
      (record {
        commands_now = a.1.commands_now;
        talk = subst (λ s. IsTalk name founders e new s a.1.commands_now) whole a.1.talk;
        text = fewer (text_of a.1.commands_now e.ending) a.0 a.1.text;
      })

  -- or in part
  pub rest_breaks : (new : Course → Type 0) → BreaksOff name founders new ((stream ++ c.front) ++ rest) (commands ++ c.new) → BreaksOff name founders new (stream ++ piece) commands
  rest_breaks new b = record {
    commands_now = b.commands_now;
    ending = b.ending;
    reads = subst (λ s. Reads s b.commands_now b.ending) whole b.reads;
    calls = b.calls;
    new = replies (after_all no_values (requests commands)) (requests c.new) ++ b.new;
    text = fewer (text_of b.commands_now b.ending) b.new b.text;
  }
