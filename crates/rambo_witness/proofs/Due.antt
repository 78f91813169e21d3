-- The answered calls of a history that have to stand in an order
use Rattle.std.proofs.Common.{◌≡◌, ℕ, Bool, true, false, cond, ◌&&◌, List, [], ◌∷◌, ◌++◌, Option, None, Some, is_some, IsSome, refl, sym, ap, ◌∙◌, subst, true≢false}
use Rattle.std.specs.Option.{IsSomeAnd}
use Rattle.std.proofs.lemmas.Slice.Eq.{bytes_eq-Decides}
use Rattle.rambo_history.specs.declared.operation.Op.{Op}
use Rattle.rambo_history.specs.declared.event.CallId.{CallId}
use Rattle.rambo_history.specs.declared.event.Event.{Event}
use Rattle.rambo_history.specs.declared.event.Event.TheVariants as event
use Rattle.rambo_history.specs.Calls.{key_of, same_call}
use Rattle.rambo_history.specs.Forms.{CallsOnce, IsWellFormed}
use Rattle.rambo_history.specs.Histories.{call_in, answer_in}
use Rattle.rambo_history.specs.Proper.{Stands}
use Rattle.rambo_history.proofs.Pushes.{same_call-path, same_call-refl}
use Rattle.rambo_history.proofs.Asked.{answered_called, call_kept, some_and}
use Rattle.rambo_history.proofs.LookUps.{call_in-append, either}
use Rattle.rambo_history.proofs.Splits.{stands-here, stands-later}
use Rattle.rambo_atomic.specs.declared.verdict.Rule.TheVariants.{Missing}
use Rattle.rambo_witness.specs.Dues.{IsFirstOut, dues_among}
use Rattle.rambo_witness.specs.Tests.{is_of}
use Rattle.rambo_witness.specs.Witnesses.{Decides, IsFirstMissing, IsOf, Keeps}
use Rattle.rambo_witness.specs.declared.witness.Witness.{Witness}

pub of-to : (key : Option (List ℕ)) (op : Op) → is_of key op ≡ true → IsOf key op
of-to None op e = tt
of-to (Some key) op e = (bytes_eq-Decides (key_of op) key).0 e

pub of-from : (key : Option (List ℕ)) (op : Op) → IsOf key op → is_of key op ≡ true
of-from None op is = refl
of-from (Some key) op is = (bytes_eq-Decides (key_of op) key).1 is

both : (a b : Bool) → (a && b) ≡ true → (a ≡ true) × (b ≡ true)
both true b e = (refl, e)
both false b e = cc

-- an answered call stands among those of its key
due-stands : (h : List Event) (key : Option (List ℕ)) (es : List Event) (c : CallId) (op : Op) → call_in es c ≡ Some op → is_of key op ≡ true
    → is_some (answer_in h c) ≡ true → Stands (dues_among h key es) c
due-stands h key [] c op has own answered = cc
due-stands h key (event.Answer d a ∷ es) c op has own answered = due-stands h key es c op has own answered
due-stands h key (event.Call d p ∷ es) c op has own answered =
    elim (same_call d c) as (λ t. same_call d c ≡ t → cond t (Some p) (call_in es c) ≡ Some op
    → Stands (cond (is_of key p && is_some (answer_in h d)) (d ∷ dues_among h key es) (dues_among h key es)) c) [
      | true ↦ λ same found.
          let is = same_call-path d c same in
          let asked : p ≡ op = cc in
          let due : (is_of key p && is_some (answer_in h d)) ≡ true = λ i. (ap (is_of key) asked ∙ own) i && (ap (λ x. is_some (answer_in h x)) is ∙ answered) i in
          subst (λ t. Stands (cond t (d ∷ dues_among h key es) (dues_among h key es)) c) (sym due) (subst (Stands (d ∷ dues_among h key es)) is (stands-here d (dues_among h key es)))
      | false ↦ λ _ found. further (is_of key p && is_some (answer_in h d)) (due-stands h key es c op found own answered)
    ] refl has
  where
    further : (t : Bool) → Stands (dues_among h key es) c → Stands (cond t (d ∷ dues_among h key es) (dues_among h key es)) c
    further true s = stands-later d c (dues_among h key es) s
    further false s = s

pub all-keeps : (h : List Event) → IsWellFormed h → (key : Option (List ℕ)) (order : List CallId) → IsFirstOut (dues_among h key h) order None → Keeps Missing h key order
all-keeps h well None order all = λ c answered.
    let a = is-there (answer_in h c) answered in
    let o = answered_called h well c a.0 a.1 in
    all c (due-stands h None h c o.0 o.1 refl answered)
  where
    is-there : {A : Type 0} (o : Option A) → IsSome o → (a : A) × (o ≡ Some a)
    is-there None i = absurd (true≢false (sym i))
    is-there (Some a) i = (a, refl)
all-keeps h well (Some key) order all = λ c own answered.
    let o = some_and _ (call_in h c) own in
    all c (due-stands h (Some key) h c o.0 o.1 (of-from (Some key) o.0 o.2) answered)

-- where a call of them was made, and those that were made before it
record MadeAt (h : List Event) (key : Option (List ℕ)) (es : List Event) (front : List CallId) (c : CallId) : Type 0 where
  before : List Event
  asked : Op
  behind : List Event
  whole : es ≡ before ++ event.Call c asked ∷ behind
  own : is_of key asked ≡ true
  answered : is_some (answer_in h c) ≡ true
  dues : dues_among h key before ≡ front

made-at : (h : List Event) (key : Option (List ℕ)) (es : List Event) (front back : List CallId) (c : CallId) → dues_among h key es ≡ front ++ c ∷ back → MadeAt h key es front c
made-at h key [] [] back c e = cc
made-at h key [] (f ∷ front) back c e = cc
made-at h key (event.Answer d a ∷ es) front back c e =
    let r = made-at h key es front back c e in
    record { before = event.Answer d a ∷ r.before; asked = r.asked; behind = r.behind; whole = ap (λ l. event.Answer d a ∷ l) r.whole; own = r.own; answered = r.answered; dues = r.dues }
made-at h key (event.Call d p ∷ es) front back c e = by (λ front e. made-at h key es front back c e) (is_of key p && is_some (answer_in h d)) refl front e
  where
    by : ((front : List CallId) → dues_among h key es ≡ front ++ c ∷ back → MadeAt h key es front c) → (t : Bool) → (is_of key p && is_some (answer_in h d)) ≡ t → (front : List CallId)
        → cond t (d ∷ dues_among h key es) (dues_among h key es) ≡ front ++ c ∷ back → MadeAt h key (event.Call d p ∷ es) front c
    by further false due front e =
        let r = further front e in
        record {
          before = event.Call d p ∷ r.before;
          asked = r.asked;
          behind = r.behind;
          whole = ap (λ l. event.Call d p ∷ l) r.whole;
          own = r.own;
          answered = r.answered;
          dues = ap (λ t. cond t (d ∷ dues_among h key r.before) (dues_among h key r.before)) due ∙ r.dues;
        }
    by further true due [] e =
        let same : d ≡ c = cc in
        let is = both _ _ due in
        record {
          before = [];
          asked = p;
          behind = es;
          whole = ap (λ x. event.Call x p ∷ es) same;
          own = is.0;
          answered = ap (λ x. is_some (answer_in h x)) (sym same) ∙ is.1;
          dues = refl;
        }
    by further true due (f ∷ front) e =
        let same : d ≡ f = cc in
        let rest : dues_among h key es ≡ front ++ c ∷ back = cc in
        let r = further front rest in
        record {
          before = event.Call d p ∷ r.before;
          asked = r.asked;
          behind = r.behind;
          whole = ap (λ l. event.Call d p ∷ l) r.whole;
          own = r.own;
          answered = r.answered;
          dues = ap (λ t. cond t (d ∷ dues_among h key r.before) (dues_among h key r.before)) due ∙ (λ i. same i ∷ r.dues i);
        }

-- the history has what is asked where a call stands
call-at : (h front back : List Event) (c : CallId) (o : Op) → CallsOnce h → h ≡ front ++ event.Call c o ∷ back → call_in h c ≡ Some o
call-at h front back c o once e =
    ap (λ l. call_in l c) e
    ∙ call_in-append front (event.Call c o ∷ back) c
    ∙ first (call_in front c) (same_call c c) (once front (event.Call c o) back e c o refl) (same_call-refl c)
  where
    first : (p : Option Op) (t : Bool) → p ≡ None → t ≡ true → either p (cond t (Some o) (call_in back c)) ≡ Some o
    first None true none same = refl
    first None false none same = cc
    first (Some q) t none same = cc

pub first-missing : (h : List Event) → IsWellFormed h → (key : Option (List ℕ)) (order : List CallId) (w : Witness)
    → IsFirstOut (dues_among h key h) order (Some w) → IsFirstMissing h key order w
first-missing h well key order w out =
    let m = made-at h key h out.0 out.1 w.call out.2 in
    record {
      front = m.before;
      asked = m.asked;
      back = m.behind;
      whole = m.whole;
      due = (subst (λ o. IsSomeAnd o (IsOf key)) (sym (call-at h m.before m.behind w.call m.asked well.calls_once m.whole)) (of-to key m.asked m.own), m.answered);
      missing = out.3;
      alone = out.4;
      first = λ c made due.
          let o = is-there (call_in m.before c) made in
          let kept : call_in h c ≡ Some o.0 = ap (λ l. call_in l c) m.whole ∙ call_kept m.before (event.Call w.call m.asked ∷ m.behind) c o.0 o.1 in
          out.5 c (subst (λ l. Stands l c) m.dues
          (due-stands h key m.before c o.0 o.1 (of-from key o.0 (subst (λ p. IsSomeAnd p (IsOf key)) kept due.0)) due.1));
    }
  where
    is-there : {A : Type 0} (o : Option A) → IsSome o → (a : A) × (o ≡ Some a)
    is-there None i = absurd (true≢false (sym i))
    is-there (Some a) i = (a, refl)

pub decides-missing : (h : List Event) → IsWellFormed h → (key : Option (List ℕ)) (calls order : List CallId) → calls ≡ dues_among h key h
    → (o : Option Witness) → IsFirstOut calls order o → Decides Missing h key order o
decides-missing h well key calls order is None out = all-keeps h well key order (subst (λ l. IsFirstOut l order None) is out)
decides-missing h well key calls order is (Some w) out = first-missing h well key order w (subst (λ l. IsFirstOut l order (Some w)) is out)
