-- Histories and replies of some requests more
use Rattle.std.proofs.Common.{◌≡◌, ℕ, List, [], ◌∷◌, ◌++◌, Option, None, Some, Result, Ok, Err, IfOk, OnOk, OnErr, refl, sym, ap, ◌∙◌, subst, append_assoc, append-nil}
use Rattle.std.proofs.lemmas.List.{map-append}
use Rattle.rambo_names.specs.Names.{names}
use Rattle.rambo_names.specs.Weights.{Weights, members_of, weighted_majorities}
use Rattle.rambo_history.specs.declared.operation.Op.{Op}
use Rattle.rambo_history.specs.declared.operation.Answer.{Answer}
use Rattle.rambo_history.specs.declared.event.CallId.{CallId}
use Rattle.rambo_history.specs.declared.event.Event.{Event}
use Rattle.rambo_history.specs.declared.event.Event.TheVariants as event
use Rattle.rambo_node.specs.declared.step.StepOf.TheVariants as step
use Rattle.rambo_resp.specs.declared.reply.Reply.{Reply}
use Rattle.rambo_resp.specs.Replies.{reply_spelling}
use Rattle.rambo_commands.specs.declared.request.Request.{Request}
use Rattle.rambo_commands.specs.declared.request.Request.TheVariants.{Says, Does}
use Rattle.rambo_client.specs.Maps.{Map, no_values, after, answer_of}
use Rattle.rambo_commands.specs.Requests.{request_of}
use Rattle.rambo_client.specs.Replies.{reply_to, after_one, after_all, replies, requests}
use Rattle.rambo_client.specs.Calls.{id_at, answered, Calls, IsHistory, BeginsHistory}
use Rattle.rambo_client.specs.Courses.{Course, Asks, Ends, HasDone, HasBegun, IsBeginning, history_of, no_steps, operated, others, phase, stepped}
use Rattle.rambo_run.proofs.WellFormed.{no_history}
use Rattle.rambo_client.proofs.Beginnings.{begins-itself, begins-then, begins-called, begins-operated}
use Rattle.rambo_client.proofs.Right.{right, once}

pub calls-append : (name : ℕ) (m : Map) (qs rs : List Request) (es fs : List Event) → Calls name m qs es → Calls name (after_all m qs) rs fs → Calls name m (qs ++ rs) (es ++ fs)
calls-append name m [] rs es fs h k = subst (λ l. Calls name m rs (l ++ fs)) (sym h) k
calls-append name m (Says r ∷ qs) rs es fs h k = calls-append name m qs rs es fs h k
calls-append name m (Does o ∷ qs) rs es fs h k = (h.0, h.1 ++ fs, ap (λ l. l ++ fs) h.2, calls-append name (after m o) qs rs h.1 fs h.3 k)

pub after_all-append : (m : Map) (qs rs : List Request) → after_all m (qs ++ rs) ≡ after_all (after_all m qs) rs
after_all-append m [] rs = refl
after_all-append m (q ∷ qs) rs = after_all-append (after_one m q) qs rs

pub replies-append : (m : Map) (qs rs : List Request) → replies m (qs ++ rs) ≡ replies m qs ++ replies (after_all m qs) rs
replies-append m [] rs = refl
replies-append m (q ∷ qs) rs =
    ap (λ l. reply_spelling (reply_to m q) ++ l) (replies-append (after_one m q) qs rs)
    ∙ sym (append_assoc (reply_spelling (reply_to m q)) (replies (after_one m q) qs) (replies (after_all (after_one m q) qs) rs))

pub requests-append : (cs ds : List (List (List ℕ))) → requests (cs ++ ds) ≡ requests cs ++ requests ds
requests-append cs ds = map-append request_of cs ds

-- requests have some history
some_calls : (name : ℕ) (m : Map) (qs : List Request) → (es : List Event) × Calls name m qs es
some_calls name m [] = ([], refl)
some_calls name m (Says r ∷ qs) = some_calls name m qs
some_calls name m (Does o ∷ qs) =
    let rest = some_calls name (after m o) qs in
    (event.Call (id_at name 0) o ∷ event.Answer (id_at name 0) (answer_of m o) ∷ rest.0, (0, rest.0, refl, rest.1))

-- the beginning of a history is one of some requests more
history-more : (name : ℕ) (qs rs : List Request) (h : List Event) → BeginsHistory name qs h → BeginsHistory name (qs ++ rs) h
history-more name qs rs h b =
    let rest = some_calls name (after_all no_values qs) rs in
    (b.0 ++ rest.0, subst (Calls name no_values (qs ++ rs)) (append_assoc h b.0 rest.0) (calls-append name no_values qs rs (h ++ b.0) rest.0 b.1 rest.1))

-- a whole history begins itself
history-whole : (name : ℕ) (qs : List Request) (h : List Event) → IsHistory name qs h → BeginsHistory name qs h
history-whole name qs h calls = ([], subst (Calls name no_values qs) (sym (append-nil h)) calls)

-- what requests ask for, and some requests more
asks-append : (name : ℕ) (peers : List ℕ) (c d e : Course) (qs rs : List Request) → Asks name peers c qs d → Asks name peers d rs e → Asks name peers c (qs ++ rs) e
asks-append name peers c d e [] rs h k = subst (λ x. Asks name peers x rs e) h k
asks-append name peers c d e (Says r ∷ qs) rs h k = asks-append name peers c d e qs rs h k
asks-append name peers c d e (Does o ∷ qs) rs h k = (h.0, asks-append name peers (operated c peers (id_at name h.0) o) d e qs rs h.1 k)

some_asks : (name : ℕ) (peers : List ℕ) (c : Course) (qs : List Request) → (d : Course) × Asks name peers c qs d × IsBeginning c d
some_asks name peers c [] = (c, refl, begins-itself c)
some_asks name peers c (Says r ∷ qs) = some_asks name peers c qs
some_asks name peers c (Does o ∷ qs) =
    let next = operated c peers (id_at name 0) o in
    let rest = some_asks name peers next qs in
    (rest.0, (0, rest.1), begins-then c next rest.0 (begins-operated c peers (id_at name 0) o) rest.2)

-- what was begun is a beginning of some requests more
pub begins-more : (name : ℕ) (founders : Weights) (qs rs : List Request) (took : Course → Type 0) → HasBegun name founders qs took → HasBegun name founders (qs ++ rs) took
begins-more name founders qs rs took b =
    let peers = others name (names (members_of founders)) in
    let d = b.3.0 in
    let rest = some_asks name peers d rs in (
      b.0,
      b.1,
      history-more name qs rs (history_of b.0) b.2,
      (rest.0, asks-append name peers (no_steps founders) d rest.0 qs rs b.3.1 rest.1, begins-then b.0 d rest.0 b.3.2 rest.2),
    )

-- what is done is begun
pub begins-whole : (name : ℕ) (founders : Weights) (qs : List Request) (took : Course → Type 0) → HasDone name founders qs took → HasBegun name founders qs took
begins-whole name founders qs took done = (done.0, done.1, history-whole name qs (history_of done.0) done.2, (done.0, done.3, begins-itself done.0))

-- a request more that was not carried out
pub begins-kept : (name : ℕ) (founders : Weights) (qs rs : List Request) (took : Course → Type 0) → HasDone name founders qs took → HasBegun name founders (qs ++ rs) took
begins-kept name founders qs rs took done = begins-more name founders qs rs took (begins-whole name founders qs took done)

-- one that asks for no operation
pub says-kept : (name : ℕ) (founders : Weights) (qs : List Request) (q : Request) (r : Reply) (took : Course → Type 0) → q ≡ Says r → HasDone name founders qs took → HasDone name founders (qs ++ q ∷ []) took
says-kept name founders qs q r took e done =
    let c = done.0 in
    let peers = others name (names (members_of founders)) in (
      c,
      done.1,
      subst (Calls name no_values (qs ++ q ∷ [])) (append-nil (history_of c))
          (calls-append name no_values qs (q ∷ []) (history_of c) [] done.2 (subst (λ q. Calls name (after_all no_values qs) (q ∷ []) []) (sym e) refl)),
      asks-append name peers (no_steps founders) c c qs (q ∷ []) done.3 (subst (λ q. Asks name peers c (q ∷ []) c) (sym e) refl),
    )

-- nodes that took no step
pub none_done : (name : ℕ) (founders : Weights) (took : Course → Type 0) → took (no_steps founders) → HasDone name founders [] took
none_done name founders took fresh = (no_steps founders, fresh, no_history weighted_majorities founders, refl)

-- an operation that was called and answered, or called alone
module _ (name : ℕ) (qs : List Request) (h0 : List Event) (calls : IsHistory name qs h0) (id : CallId) (o : Op) (named : id ≡ id_at name id.number) where
  grown : (h : List Event) (a : Answer) → a ≡ answer_of (after_all no_values qs) o → h ≡ h0 ++ event.Call id o ∷ event.Answer id a ∷ [] → IsHistory name (qs ++ Does o ∷ []) h
  grown h a e is =
      subst (Calls name no_values (qs ++ Does o ∷ [])) (sym is)
      (calls-append name no_values qs (Does o ∷ []) h0 (event.Call id o ∷ event.Answer id a ∷ []) calls
      (id.number, [], (λ i. event.Call (named i) o ∷ event.Answer (named i) (e i) ∷ []), refl))

  answered_right : (c : Course) (a : Answer) → history_of c ≡ (h0 ++ event.Call id o ∷ []) ++ event.Answer id a ∷ []
      → (a ≡ answer_of (after_all no_values qs) o) × IsHistory name (qs ++ Does o ∷ []) (history_of c)
  answered_right c a e =
      let is = e ∙ append_assoc h0 (event.Call id o ∷ []) (event.Answer id a ∷ []) in
      let mine = right c name qs h0 id o a calls is in
      (mine, grown (history_of c) a mine is)

  -- it is answered once
  twice_right : (c : Course) (early : Option Answer) (a : Answer) → history_of c ≡ ((h0 ++ event.Call id o ∷ []) ++ answered id early) ++ event.Answer id a ∷ []
      → (a ≡ answer_of (after_all no_values qs) o) × IsHistory name (qs ++ Does o ∷ []) (history_of c)
  twice_right c None a e = answered_right c a (e ∙ ap (λ l. l ++ event.Answer id a ∷ []) (append-nil (h0 ++ event.Call id o ∷ [])))
  twice_right c (Some b) a e = absurd (once c (h0 ++ event.Call id o ∷ []) id b a e)

  called_begins : (c : Course) (early : Option Answer) → history_of c ≡ (h0 ++ event.Call id o ∷ []) ++ answered id early → BeginsHistory name (qs ++ Does o ∷ []) (history_of c)
  called_begins c None e =
      let a = answer_of (after_all no_values qs) o in
      let is = e ∙ append-nil (h0 ++ event.Call id o ∷ []) in
      (event.Answer id a ∷ [], grown (history_of c ++ event.Answer id a ∷ []) a refl (ap (λ l. l ++ event.Answer id a ∷ []) is ∙ append_assoc h0 (event.Call id o ∷ []) (event.Answer id a ∷ [])))
  called_begins c (Some b) e = history-whole name (qs ++ Does o ∷ []) (history_of c) (answered_right c b e).1

-- an operation more, where the nodes took these steps
module _ (name : ℕ) (founders : Weights) (qs : List Request) (o : Op) (c : Course) (calls : IsHistory name qs (history_of c))
    (asks : Asks name (others name (names (members_of founders))) (no_steps founders) qs c) (took : Course → Type 0) where
  abbrev peers : List ℕ
  peers = others name (names (members_of founders))

  abbrev called : Course
  called = stepped c (step.Call name o)

  module _ (id : CallId) (named : id ≡ id_at name id.number) where
    abbrev now : Course
    now = operated c peers id o

    asks_now : Asks name peers (no_steps founders) (qs ++ Does o ∷ []) now
    asks_now = asks-append name peers (no_steps founders) c now qs (Does o ∷ []) asks (id.number, λ i. operated c peers (named i) o)

    -- nodes that took its steps, if it was answered, and else a beginning of them
    abbrev Operated : {E : Type 0} → Result Answer E → Course → Type 0
    Operated r d = (early : Option Answer) × Ends r took d (history_of called ++ answered id early) (λ a. answered id (Some a))

    ends_now : {E : Type 0} (r : Result Answer E) → Operated r (phase (phase called peers id) peers id) → Operated r now
    ends_now r ends = subst (λ n. Operated r (phase (phase (stepped c (step.Call n o)) peers id) peers id)) (ap (λ (i : CallId). i.name) (sym named)) ends

    module _ (is : history_of called ≡ history_of c ++ event.Call id o ∷ []) where
      right_now : {E : Type 0} (r : Result Answer E) → Operated r now → IfOk r (λ a. (a ≡ answer_of (after_all no_values qs) o) × HasDone name founders (qs ++ Does o ∷ []) took)
      right_now (Ok a) ends =
          let mine = twice_right name qs (history_of c) calls id o named now ends.0 a (ends.1.1 ∙ ap (λ l. (l ++ answered id ends.0) ++ event.Answer id a ∷ []) is) in
          (mine.0, (now, ends.1.0, mine.1, asks_now))
      right_now (Err f) ends = tt

      begun_now : {E : Type 0} (r : Result Answer E) → Operated r now → OnErr r (HasBegun name founders (qs ++ Does o ∷ []) took)
      begun_now (Ok a) ends = tt
      begun_now (Err f) ends =
          let d = ends.1.0 in
          (d, ends.1.1, called_begins name qs (history_of c) calls id o named d ends.0 (ends.1.3 ∙ ap (λ l. l ++ answered id ends.0) is), (now, asks_now, ends.1.2))

      -- it was answered
      pub operated_right : {E : Type 0} (r : Result Answer E) → Operated r (phase (phase called peers id) peers id)
          → IfOk r (λ a. (a ≡ answer_of (after_all no_values qs) o) × HasDone name founders (qs ++ Does o ∷ []) took)
      operated_right r ends = right_now r (ends_now r ends)

      -- or not
      pub operated_begun : {E : Type 0} (r : Result Answer E) → Operated r (phase (phase called peers id) peers id) → OnErr r (HasBegun name founders (qs ++ Does o ∷ []) took)
      operated_begun r ends = begun_now r (ends_now r ends)

  -- there was no call
  pub uncalled_begun : (d : Course) × took d × IsBeginning d called × (history_of d ≡ history_of c) → HasBegun name founders (qs ++ Does o ∷ []) took
  uncalled_begun begun =
      let d = begun.0 in
      let id = id_at name 0 in (
        d,
        begun.1,
        history-more name qs (Does o ∷ []) (history_of d) (history-whole name qs (history_of d) (subst (IsHistory name qs) (sym begun.3) calls)),
        (operated c peers id o, asks_now id refl, begins-then d called (operated c peers id o) begun.2 (begins-called c peers id o)),
      )

-- what holds of a result whatever it is
pub on_ok : {A E : Type 0} (r : Result A E) (P : Type 0) → P → OnOk r P
on_ok (Ok x) P p = p
on_ok (Err e) P p = tt

pub on_ok-from : {A E : Type 0} (r : Result A E) (P : A → Type 0) (Q : Type 0) → ((x : A) → P x → Q) → IfOk r P → OnOk r Q
on_ok-from (Ok x) P Q f p = f x p
on_ok-from (Err e) P Q f p = tt

pub if_ok-and : {A E : Type 0} (r : Result A E) (P : A → Type 0) (Q : Type 0) → IfOk r P → OnOk r Q → IfOk r (λ x. Q × P x)
if_ok-and (Ok x) P Q p q = (q, p)
if_ok-and (Err e) P Q p q = tt

pub on_ok-weaker : {A E : Type 0} (r : Result A E) (P Q : Type 0) → (P → Q) → OnOk r P → OnOk r Q
on_ok-weaker (Ok x) P Q f p = f p
on_ok-weaker (Err e) P Q f p = tt

pub on_err-weaker : {A E : Type 0} (r : Result A E) (P Q : Type 0) → (P → Q) → OnErr r P → OnErr r Q
on_err-weaker (Ok x) P Q f p = tt
on_err-weaker (Err e) P Q f p = f p
