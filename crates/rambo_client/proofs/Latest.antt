-- The latest set of a key among a client's calls
use Rattle.std.proofs.Common.{◌≡◌, ℕ, List, [], ◌∷◌, ◌++◌, Bool, true, false, cond, Option, None, Some, is_some, refl, sym, ap, ◌∙◌, subst, ◌⊎◌, inl, inr}
use Rattle.std.specs.Str.{bytes_eq}
use Rattle.std.proofs.lemmas.Slice.Eq.{bytes_eq-Decides}
use Rattle.rambo_history.specs.declared.operation.Op.{Op}
use Rattle.rambo_history.specs.declared.operation.Op.TheVariants as op
use Rattle.rambo_history.specs.declared.operation.Answer.{Answer}
use Rattle.rambo_history.specs.declared.operation.Answer.TheVariants as answer
use Rattle.rambo_history.specs.declared.event.CallId.{CallId}
use Rattle.rambo_history.specs.declared.event.Event.{Event}
use Rattle.rambo_history.specs.declared.event.Event.TheVariants as event
use Rattle.rambo_history.specs.Calls.{same_call}
use Rattle.rambo_history.specs.Histories.{call_in, answer_in, answered_before}
use Rattle.rambo_history.specs.Proper.{after_op}
use Rattle.rambo_history.proofs.LookUps.{either, call_in-append}
use Rattle.rambo_history.proofs.Pushes.{same_call-path, same_call-refl}
use Rattle.rambo_commands.specs.declared.request.Request.{Request}
use Rattle.rambo_commands.specs.declared.request.Request.TheVariants.{Says, Does}
use Rattle.rambo_client.specs.Maps.{Map, after, answer_of}
use Rattle.rambo_client.specs.Replies.{after_all}
use Rattle.rambo_client.specs.Calls.{id_at, Calls}

-- whether an event is a set of the key
abbrev pub sets : List ℕ → Event → Bool
sets key (event.Call c (op.Get k)) = false
sets key (event.Call c (op.Set k v)) = bytes_eq k key
sets key (event.Answer c a) = false

-- none of these is
abbrev pub Quiet : List ℕ → List Event → Type 0
Quiet key [] = Unit {0}
Quiet key (e ∷ es) = (sets key e ≡ false) × Quiet key es

pub quiet-append : (key : List ℕ) (es fs : List Event) → Quiet key es → Quiet key fs → Quiet key (es ++ fs)
quiet-append key [] fs q r = r
quiet-append key (e ∷ es) fs q r = (q.0, quiet-append key es fs q.1 r)

-- then what such a history says of a call changes no value of the key
pub quiet_op : (key : List ℕ) (es : List Event) (c : CallId) (held : Option (List ℕ)) → Quiet key es → after_op key (call_in es c) held ≡ held
quiet_op key [] c held q = refl
quiet_op key (event.Call d (op.Get k) ∷ es) c held q =
    elim (same_call d c) as (λ t. after_op key (cond t (Some (op.Get k)) (call_in es c)) held ≡ held) [ true ↦ refl | false ↦ quiet_op key es c held q.1 ]
quiet_op key (event.Call d (op.Set k v) ∷ es) c held q =
    elim (same_call d c) as (λ t. after_op key (cond t (Some (op.Set k v)) (call_in es c)) held ≡ held) [
      | true ↦ ap (λ t. cond t (Some v) held) q.0
      | false ↦ quiet_op key es c held q.1
    ]
quiet_op key (event.Answer d a ∷ es) c held q = quiet_op key es c held q.1

-- the last set of the key: the calls before it, the set, and what stands behind it
pub record LastSet (name : ℕ) (key : List ℕ) (m : Map) (held : Option (List ℕ)) (es : List Event) : Type 0 where
  pub before : List Request
  pub front : List Event
  pub calls : Calls name m before front
  pub id : CallId
  pub value : List ℕ
  pub back : List Event
  pub split : es ≡ front ++ event.Call id (op.Set key value) ∷ event.Answer id answer.Ok ∷ back
  pub quiet : Quiet key back
  pub holds : held ≡ Some value

-- behind one call more
later_set : (name number : ℕ) (key : List ℕ) (m : Map) (o : Op) (held : Option (List ℕ)) (more es : List Event)
    → es ≡ event.Call (id_at name number) o ∷ event.Answer (id_at name number) (answer_of m o) ∷ more → LastSet name key (after m o) held more → LastSet name key m held es
later_set name number key m o held more es is l = record {
  before = Does o ∷ l.before;
  front = event.Call (id_at name number) o ∷ event.Answer (id_at name number) (answer_of m o) ∷ l.front;
  calls = (number, l.front, refl, l.calls);
  id = l.id;
  value = l.value;
  back = l.back;
  split = is ∙ ap (λ x. event.Call (id_at name number) o ∷ event.Answer (id_at name number) (answer_of m o) ∷ x) l.split;
  quiet = l.quiet;
  holds = l.holds;
}

-- among a client's calls no set is of the key, and its value is as before, or there is a last one, and the value is its
pub latest : (name : ℕ) (key : List ℕ) (m : Map) (qs : List Request) (es : List Event) → Calls name m qs es
    → (Quiet key es × (after_all m qs key ≡ m key)) ⊎ LastSet name key m (after_all m qs key) es
latest name key m [] es h = inl (subst (Quiet key) (sym h) tt, refl)
latest name key m (Says r ∷ qs) es h = latest name key m qs es h
latest name key m (Does (op.Get k) ∷ qs) es h =
    elim (latest name key m qs h.1 h.3) [
      | inl q ↦ inl (subst (Quiet key) (sym h.2) (refl, (refl, q.0)), q.1)
      | inr l ↦ inr (later_set name h.0 key m (op.Get k) (after_all m qs key) h.1 es h.2 l)
    ]
latest name key m (Does (op.Set k v) ∷ qs) es h =
    elim (latest name key (after m (op.Set k v)) qs h.1 h.3) [
      | inr l ↦ inr (later_set name h.0 key m (op.Set k v) (after_all (after m (op.Set k v)) qs key) h.1 es h.2 l)
      | inl q ↦
          elim (bytes_eq k key) as (λ t. bytes_eq k key ≡ t → after_all (after m (op.Set k v)) qs key ≡ cond t (Some v) (m key)
          → (Quiet key es × (after_all (after m (op.Set k v)) qs key ≡ m key)) ⊎ LastSet name key m (after_all (after m (op.Set k v)) qs key) es) [
            | true ↦ λ same e. inr (record {
              before = [];
              front = [];
              calls = refl;
              id = id_at name h.0;
              value = v;
              back = h.1;
              split = h.2 ∙ ap (λ x. event.Call (id_at name h.0) (op.Set x v) ∷ event.Answer (id_at name h.0) answer.Ok ∷ h.1) ((bytes_eq-Decides k key).0 same);
              quiet = q.0;
              holds = e;
            })
            | false ↦ λ other e. inl (subst (Quiet key) (sym h.2) (other, (refl, q.0)), e)
          ] refl q.1
    ]

-- a call of a client was answered
pub paired : (name : ℕ) (m : Map) (qs : List Request) (es : List Event) (c : CallId) (o : Op) → Calls name m qs es → call_in es c ≡ Some o
    → (front : List Event) × (a : Answer) × (back : List Event) × (es ≡ front ++ event.Answer c a ∷ back)
paired name m [] es c o h e = let none : call_in es c ≡ None = ap (λ l. call_in l c) h in absurd (apart (sym none ∙ e))
  where
    apart : None ≡ Some o → ⊥
    apart e = cc
paired name m (Says r ∷ qs) es c o h e = paired name m qs es c o h e
paired name m (Does p ∷ qs) es c o h e =
    let id = id_at name h.0 in
    elim (same_call id c) as (λ t. same_call id c ≡ t → cond t (Some p) (call_in h.1 c) ≡ Some o
    → (front : List Event) × (a : Answer) × (back : List Event) × (es ≡ front ++ event.Answer c a ∷ back)) [
      | true ↦ λ same _. (event.Call id p ∷ [], answer_of m p, h.1, h.2 ∙ ap (λ x. event.Call id p ∷ event.Answer x (answer_of m p) ∷ h.1) (same_call-path id c same))
      | false ↦ λ _ found.
          let r = paired name (after m p) qs h.1 c o h.3 found in
          (event.Call id p ∷ event.Answer id (answer_of m p) ∷ r.0, r.1, r.2, h.2 ∙ ap (λ x. event.Call id p ∷ event.Answer id (answer_of m p) ∷ x) r.3)
    ] refl (sym (ap (λ l. call_in l c) h.2) ∙ e)

pub some_either : {X : Type 0} (o p : Option X) → is_some p ≡ true → is_some (either o p) ≡ true
some_either None p e = e
some_either (Some x) p e = refl

-- what was answered before a call was made
pub told_before : (front : List Event) (c : CallId) (a : Answer) (back : List Event) (d : CallId) → is_some (call_in back d) ≡ true
    → answered_before (front ++ event.Answer c a ∷ back) c d ≡ true
told_before [] c a back d e = ap (λ t. cond t (is_some (call_in back d)) (answered_before back c d)) (same_call-refl c) ∙ e
told_before (event.Call x o ∷ front) c a back d e = told_before front c a back d e
told_before (event.Answer x b ∷ front) c a back d e =
    elim (same_call x c) as (λ t. cond t (is_some (call_in (front ++ event.Answer c a ∷ back) d)) (answered_before (front ++ event.Answer c a ∷ back) c d) ≡ true) [
      | true ↦ ap is_some (call_in-append front (event.Answer c a ∷ back) d) ∙ some_either (call_in front d) (call_in back d) e
      | false ↦ told_before front c a back d e
    ]

-- an answer that stands there is found
pub answered_there : (front : List Event) (c : CallId) (a : Answer) (back : List Event) → is_some (answer_in (front ++ event.Answer c a ∷ back) c) ≡ true
answered_there [] c a back = ap (λ t. is_some (cond t (Some a) (answer_in back c))) (same_call-refl c)
answered_there (event.Call x o ∷ front) c a back = answered_there front c a back
answered_there (event.Answer x b ∷ front) c a back =
    elim (same_call x c) as (λ t. is_some (cond t (Some b) (answer_in (front ++ event.Answer c a ∷ back) c)) ≡ true) [ true ↦ refl | false ↦ answered_there front c a back ]

-- a call that stands there is found
pub called_there : (front : List Event) (c : CallId) (o : Op) (back : List Event) → is_some (call_in (front ++ event.Call c o ∷ back) c) ≡ true
called_there front c o back =
    ap is_some (call_in-append front (event.Call c o ∷ back) c)
    ∙ some_either (call_in front c) (call_in (event.Call c o ∷ back) c) (ap (λ t. is_some (cond t (Some o) (call_in back c))) (same_call-refl c))
