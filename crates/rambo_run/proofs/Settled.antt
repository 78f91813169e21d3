-- Marks by the places of their calls stay what they are
use Rattle.std.proofs.Common.{◌≡◌, ℕ, zero, suc, ◌++◌, Bool, true, false, cond, List, [], ◌∷◌, slice_get, Option, None, Some, is_some, option_map, refl, sym, ap, ◌∙◌, true≢false}
use Rattle.std.proofs.lemmas.List.{append_assoc}
use Rattle.rambo_tag.specs.declared.version.Version.{Version}
use Rattle.rambo_history.specs.declared.operation.Op.{Op}
use Rattle.rambo_history.specs.declared.operation.Op.TheVariants as op
use Rattle.rambo_history.specs.declared.operation.Answer.{Answer}
use Rattle.rambo_history.specs.declared.event.CallId.{CallId}
use Rattle.rambo_history.specs.declared.event.Event.{Event}
use Rattle.rambo_history.specs.declared.event.Event.TheVariants as event
use Rattle.rambo_history.specs.Calls.{is_get, same_call}
use Rattle.rambo_history.specs.Histories.{call_in, answer_in, called_at, is_call}
use Rattle.rambo_history.proofs.LookUps.{position-cons, answer_in-append, either}
use Rattle.rambo_history.proofs.Pushes.{same_call-path}
use Rattle.rambo_sequence.specs.declared.mark.Mark.{Mark}
use Rattle.rambo_sequence.specs.declared.mark.TaggedPlace.{TaggedPlace}
use Rattle.rambo_sequence.specs.Marks.{told_value, propagated_value, propagated, mark_of, mark_at, marks_at, with_some}
use Rattle.rambo_sequence.proofs.PlacedMarks.{marks_at-push}
use Rattle.rambo_run.specs.Chronicles.{IsMarked, IsSettled}
use Rattle.rambo_run.proofs.Lists.{none-some, some_inj}

-- no mark
pub settled_none : IsSettled [] []
unfolding marks_at
settled_none later = refl

-- one event more
pub settled_on : (es : List Event) (e : Event) (ps : List TaggedPlace) → IsSettled es ps → IsSettled (es ++ e ∷ []) ps
settled_on es e ps settled later =
    ap (λ es. marks_at es ps) (append_assoc es (e ∷ []) later) ∙ settled (e ∷ later) ∙ sym (settled (e ∷ []))

-- what stands at a place stands there in a longer list too
still : {A : Type 0} (xs ys : List A) (n : ℕ) (x : A) → slice_get xs n ≡ Some x → slice_get (xs ++ ys) n ≡ Some x
still [] ys n x e = absurd (cc)
still (z ∷ xs) ys zero x e = e
still (z ∷ xs) ys (suc n) x e = still xs ys n x e

unmapped : (k : Option ℕ) → option_map suc k ≡ None → k ≡ None
unmapped None e = refl
unmapped (Some k) e = absurd (none-some (suc k) (sym e))

-- the call that a look-up finds stands at its place
behind : (es : List Event) (c : CallId) (n : ℕ) (o : Op) (e : Event) → ((k : ℕ) → called_at es c ≡ Some k → slice_get es k ≡ Some (event.Call c o))
    → option_map suc (called_at es c) ≡ Some n → slice_get (e ∷ es) n ≡ Some (event.Call c o)
behind es c n o e there at = by_place (called_at es c) refl at
  where
    by_place : (k : Option ℕ) → called_at es c ≡ k → option_map suc k ≡ Some n → slice_get (e ∷ es) n ≡ Some (event.Call c o)
    by_place None is at = absurd (none-some n at)
    by_place (Some k) is at = ap (slice_get (e ∷ es)) (some_inj n (suc k) (sym at)) ∙ there k is

found : (es : List Event) (c : CallId) (n : ℕ) (o : Op) → called_at es c ≡ Some n → call_in es c ≡ Some o → slice_get es n ≡ Some (event.Call c o)
found [] c n o at e = absurd (none-some o e)
found (event.Call d p ∷ es) c n o at e =
    by_first (same_call d c) refl (λ asked k there. found es c k o there asked) (sym (position-cons (is_call c) (event.Call d p) es) ∙ at) e
  where
    by_first : (t : Bool) → same_call d c ≡ t → (call_in es c ≡ Some o → (k : ℕ) → called_at es c ≡ Some k → slice_get es k ≡ Some (event.Call c o))
        → cond t (Some 0) (option_map suc (called_at es c)) ≡ Some n → cond t (Some p) (call_in es c) ≡ Some o
        → slice_get (event.Call d p ∷ es) n ≡ Some (event.Call c o)
    by_first true same there at e = ap (slice_get (event.Call d p ∷ es)) (some_inj n 0 (sym at)) ∙ λ i. Some (event.Call (same_call-path d c same i) (some_inj p o e i))
    by_first false other there at e = behind es c n o (event.Call d p) (there e) at
found (event.Answer d a ∷ es) c n o at e =
    behind es c n o (event.Answer d a) (λ k there. found es c k o there e) (sym (position-cons (is_call c) (event.Answer d a) es) ∙ at)

-- and where the history has it, there is a place
pub has_place : (es : List Event) (c : CallId) (o : Op) → call_in es c ≡ Some o → called_at es c ≡ None → ⊥
has_place [] c o e at = absurd (none-some o e)
has_place (event.Call d p ∷ es) c o e at = by_first (same_call d c) (has_place es c o) e (sym (position-cons (is_call c) (event.Call d p) es) ∙ at)
  where
    by_first : (t : Bool) → (call_in es c ≡ Some o → called_at es c ≡ None → ⊥) → cond t (Some p) (call_in es c) ≡ Some o → cond t (Some 0) (option_map suc (called_at es c)) ≡ None → ⊥
    by_first true none e at = none-some 0 (sym at)
    by_first false none e at = none e (unmapped (called_at es c) at)
has_place (event.Answer d a ∷ es) c o e at = has_place es c o e (unmapped (called_at es c) (sym (position-cons (is_call c) (event.Answer d a) es) ∙ at))

-- a get's answer stays, and so does the value of any mark
value_still : (es later : List Event) (m : Mark) → IsMarked es m → propagated_value (es ++ later) m.id m.op ≡ propagated_value es m.id m.op
value_still es later m told = by_op m.op told.answered
  where
    by_op : (o : Op) → (is_get o ≡ true → is_some (answer_in es m.id) ≡ true) → propagated_value (es ++ later) m.id o ≡ propagated_value es m.id o
    by_op (op.Set key value) answered = refl
    by_op (op.Get key) answered = ap told_value (answer_in-append es later m.id ∙ first (answer_in es m.id) (answer_in later m.id) (answered refl))
      where
        first : (a b : Option Answer) → is_some a ≡ true → either a b ≡ a
        first None b there = absurd (true≢false (sym there))
        first (Some a) b there = refl

-- the copy of a mark, from its tag
copy_told : (es : List Event) (m : Mark) (k : Option Version) → ((v : Version) → k ≡ Some v → v.value ≡ propagated_value es m.id m.op)
    → option_map (propagated es m.id m.op) (option_map (λ (v : Version). v.tag) k) ≡ k
copy_told es m None value = refl
copy_told es m (Some v) value = λ i. Some (record { tag = v.tag; value = sym (value v refl) i })

abbrev pub placed : ℕ → Mark → TaggedPlace
placed n m = record { place = n; tag = option_map (λ (v : Version). v.tag) m.kept }

-- a mark is told by its place
pub mark_told : (es : List Event) (n : ℕ) (m : Mark) → IsMarked es m → called_at es m.id ≡ Some n → mark_at es (placed n m) ≡ Some m
mark_told es n m told at =
    ap (λ e. mark_of es e (placed n m).tag) (found es m.id n m.op at told.called)
    ∙ λ i. Some (record { id = m.id; op = m.op; kept = copy_told es m m.kept told.value i })

-- and stays so
pub mark_still : (es later : List Event) (n : ℕ) (m : Mark) → IsMarked es m → called_at es m.id ≡ Some n → mark_at (es ++ later) (placed n m) ≡ mark_at es (placed n m)
mark_still es later n m told at =
    let here = found es m.id n m.op at told.called in
    ap (λ e. mark_of (es ++ later) e (placed n m).tag) (still es later n (event.Call m.id m.op) here)
    ∙ (λ i. Some (record { id = m.id; op = m.op; kept = option_map (λ t. record { tag = t; value = value_still es later m told i }) (placed n m).tag }))
    ∙ sym (ap (λ e. mark_of es e (placed n m).tag) here)

-- one mark more
pub marked : (es : List Event) (ps : List TaggedPlace) (n : ℕ) (m : Mark) → IsMarked es m → called_at es m.id ≡ Some n → marks_at es (ps ++ placed n m ∷ []) ≡ marks_at es ps ++ m ∷ []
marked es ps n m told at = marks_at-push es ps (placed n m) ∙ ap (λ o. marks_at es ps ++ with_some o []) (mark_told es n m told at)

pub settled_with : (es : List Event) (ps : List TaggedPlace) (n : ℕ) (m : Mark) → IsSettled es ps → IsMarked es m → called_at es m.id ≡ Some n → IsSettled es (ps ++ placed n m ∷ [])
settled_with es ps n m settled told at later =
    marks_at-push (es ++ later) ps (placed n m)
    ∙ (λ i. settled later i ++ with_some (mark_still es later n m told at i) [])
    ∙ sym (marks_at-push es ps (placed n m))
