-- Each rule's test decides the rule
use Rattle.std.proofs.Common.{◌≡◌, ℕ, List, [], ◌∷◌, ◌++◌, Bool, true, false, cond, not, ◌&&◌, ◌||◌, Option, None, Some, is_some, IsSome, refl, sym, ap, ◌∙◌, inl, inr, true≢false, fold, subst, append_assoc}
use Rattle.std.specs.Option.{IsSomeAnd}
use Rattle.std.proofs.lemmas.Slice.Eq.{bytes_eq-Decides}
use Rattle.rambo_history.specs.declared.operation.Op.{Op}
use Rattle.rambo_history.specs.declared.operation.Op.TheVariants as op
use Rattle.rambo_history.specs.declared.operation.Answer.{Answer}
use Rattle.rambo_history.specs.declared.operation.Answer.TheVariants as answer
use Rattle.rambo_history.specs.declared.event.CallId.{CallId}
use Rattle.rambo_history.specs.declared.event.Event.{Event}
use Rattle.rambo_history.specs.declared.event.Event.TheVariants as event
use Rattle.rambo_history.specs.Calls.{key_of, is_get, answer_for, same_call}
use Rattle.rambo_atomic.specs.declared.scope.Scope.{Scope}
use Rattle.rambo_atomic.specs.declared.scope.Scope.TheVariants as scope
use Rattle.rambo_history.specs.Forms.{CallsOnce, IsWellFormed}
use Rattle.rambo_atomic.specs.Scopes.{within, IsCompleteIn, HasNoStrangerIn, IsProperIn}
use Rattle.rambo_history.specs.Histories.{call_in, answer_in}
use Rattle.rambo_history.specs.Proper.{EverySplit, Stands, IsDistinct, HasNoStranger, AnswersLatest, KeepsRealTime, after_op}
use Rattle.rambo_atomic.specs.Tests.{stands_in, of_key, is_due, is_complete, is_distinct, is_own_op, has_no_stranger, tells, is_told, all_told, none_held}
use Rattle.rambo_history.proofs.Asked.{some_and, answered_called}
use Rattle.rambo_history.proofs.LookUps.{call_in-append, either}
use Rattle.rambo_history.proofs.Pushes.{same_call-path, same_call-refl}
use Rattle.rambo_history.proofs.Splits.{splits-nil, splits-cons, splits-head, splits-tail, stands-later, stands-nil, stands-cases}

pub both : (a b : Bool) → (a && b) ≡ true → (a ≡ true) × (b ≡ true)
both true b e = (refl, e)
both false b e = cc

-- `stands_in`
stands_in-to : (order : List CallId) (c : CallId) → stands_in order c ≡ true → Stands order c
stands_in-to [] c e = absurd (true≢false (sym e))
stands_in-to (d ∷ ds) c e =
    elim (same_call d c) as (λ t. same_call d c ≡ t → (t || stands_in ds c) ≡ true → Stands (d ∷ ds) c) [
      | true ↦ λ same _. ([], ds, ap (λ x. x ∷ ds) (same_call-path d c same))
      | false ↦ λ _ rest. stands-later d c ds (stands_in-to ds c rest)
    ] refl e

stands_in-from : (order : List CallId) (c : CallId) → Stands order c → stands_in order c ≡ true
stands_in-from [] c s = absurd (stands-nil c s)
stands_in-from (d ∷ ds) c s =
    elim (stands-cases d c ds s) [
      | inl same ↦ ap (λ t. t || stands_in ds c) (ap (λ x. same_call x c) same ∙ same_call-refl c)
      | inr later ↦ elim (same_call d c) as (λ t. (t || stands_in ds c) ≡ true) [ true ↦ refl | false ↦ stands_in-from ds c later ]
    ]

-- no call stands twice
pub distinct-to : (order : List CallId) → is_distinct order ≡ true → IsDistinct order
distinct-to [] e = splits-nil (λ front c back. ¬ (Stands back c))
distinct-to (c ∷ cs) e =
    elim (stands_in cs c) as (λ t. stands_in cs c ≡ t → cond t false (is_distinct cs) ≡ true → IsDistinct (c ∷ cs)) [
      | true ↦ λ _ no_more. absurd (true≢false (sym no_more))
      | false ↦ λ alone rest. splits-cons (λ front c back. ¬ (Stands back c)) c cs
          (λ s. true≢false (sym (stands_in-from cs c s) ∙ alone)) (distinct-to cs rest)
    ] refl e

pub distinct-from : (order : List CallId) → IsDistinct order → is_distinct order ≡ true
distinct-from [] all = refl
distinct-from (c ∷ cs) all =
    elim (stands_in cs c) as (λ t. stands_in cs c ≡ t → cond t false (is_distinct cs) ≡ true) [
      | true ↦ λ twice. absurd (splits-head (λ front c back. ¬ (Stands back c)) c cs all (stands_in-to cs c twice))
      | false ↦ λ _. distinct-from cs (splits-tail (λ front c back. ¬ (Stands back c)) c cs all)
    ] refl

-- each answered call of the key stands in the order
implied : (a b : Bool) → (not a || b) ≡ true → a ≡ true → b ≡ true
implied true b e h = e
implied false b e h = absurd (true≢false (sym h))

implies : (a b : Bool) → (a ≡ true → b ≡ true) → (not a || b) ≡ true
implies true b f = f refl
implies false b f = refl

complete-each : (h : List Event) (among : Op → Bool) (order : List CallId) (es : List Event) → is_complete h among order es ≡ true
    → (c : CallId) (op : Op) → call_in es c ≡ Some op → among op ≡ true → is_some (answer_in h c) ≡ true → stands_in order c ≡ true
complete-each h among order [] all c o has own answered = cc
complete-each h among order (event.Call d p ∷ es) all c o has own answered =
    let here = both (not (is_due h among (event.Call d p)) || stands_in order d) (is_complete h among order es) all in
    elim (same_call d c) as (λ t. same_call d c ≡ t → cond t (Some p) (call_in es c) ≡ Some o → stands_in order c ≡ true) [
      | true ↦ λ same found.
          let is = same_call-path d c same in
          let op_is : p ≡ o = cc in
          ap (stands_in order) (sym is)
          ∙ implied _ _ here.0 (λ i. (ap among op_is ∙ own) i && (ap (λ x. is_some (answer_in h x)) is ∙ answered) i)
      | false ↦ λ _ found. complete-each h among order es here.1 c o found own answered
    ] refl has
complete-each h among order (event.Answer d a ∷ es) all c o has own answered =
    complete-each h among order es all c o has own answered

pub some_is : {A : Type 0} (o : Option A) → IsSome o → (a : A) × (o ≡ Some a)
some_is None i = absurd (true≢false (sym i))
some_is (Some a) i = (a, refl)

pub complete-to : (s : Scope) (h : List Event) (order : List CallId) → IsWellFormed h → is_complete h (within s) order h ≡ true → IsCompleteIn s h order
complete-to (scope.Key key) h order well all = λ c own answered.
    let o = some_and _ (call_in h c) own in
    stands_in-to order c (complete-each h (of_key key.now) order h all c o.0 o.1 ((bytes_eq-Decides (key_of o.0) key.now).1 o.2) answered)
complete-to scope.AllKeys h order well all = λ c answered.
    let a = some_is (answer_in h c) answered in
    let o = answered_called h well c a.0 a.1 in
    stands_in-to order c (complete-each h (λ op. true) order h all c o.0 o.1 refl answered)

-- the history has what is asked where a call stands
call_in-split : (h front back : List Event) (c : CallId) (o : Op) → CallsOnce h → h ≡ front ++ event.Call c o ∷ back → call_in h c ≡ Some o
call_in-split h front back c o once e =
    ap (λ l. call_in l c) e
    ∙ call_in-append front (event.Call c o ∷ back) c
    ∙ first (call_in front c) (same_call c c) (once front (event.Call c o) back e c o refl) (same_call-refl c)
  where
    first : (p : Option Op) (t : Bool) → p ≡ None → t ≡ true → either p (cond t (Some o) (call_in back c)) ≡ Some o
    first None true none same = refl
    first None false none same = cc
    first (Some q) t none same = cc

abbrev StandsAll : List Event → (Op → Bool) → List CallId → Type 0
StandsAll h among order = (c : CallId) (op : Op) → call_in h c ≡ Some op → among op ≡ true → is_some (answer_in h c) ≡ true → Stands order c

complete-along : (h : List Event) (among : Op → Bool) (order : List CallId) → CallsOnce h → StandsAll h among order
    → (front es : List Event) → h ≡ front ++ es → is_complete h among order es ≡ true
complete-along h among order once all front [] e = refl
complete-along h among order once all front (event.Call d p ∷ es) e =
    λ i. implies (among p && is_some (answer_in h d)) (stands_in order d)
    (λ due. let q = both _ _ due in stands_in-from order d (all d p (call_in-split h front es d p once e) q.0 q.1)) i
    && complete-along h among order once all (front ++ event.Call d p ∷ []) es (e ∙ sym (append_assoc front (event.Call d p ∷ []) es)) i
complete-along h among order once all front (event.Answer d a ∷ es) e =
    complete-along h among order once all (front ++ event.Answer d a ∷ []) es (e ∙ sym (append_assoc front (event.Answer d a ∷ []) es))

pub complete-from : (s : Scope) (h : List Event) (order : List CallId) → CallsOnce h → IsCompleteIn s h order → is_complete h (within s) order h ≡ true
complete-from (scope.Key key) h order once all =
    complete-along h (of_key key.now) order once
    (λ c op is own. all c (subst (λ o. IsSomeAnd o (λ op. key_of op ≡ key.now)) (sym is) ((bytes_eq-Decides (key_of op) key.now).0 own))) [] h refl
complete-from scope.AllKeys h order once all = complete-along h (λ op. true) order once (λ c op is own. all c) [] h refl

-- no strangers
abbrev IsOwn : List Event → (Op → Bool) → CallId → Type 0
IsOwn h among c = IsSomeAnd (call_in h c) (λ op. (among op ≡ true) × (is_get op ≡ true → IsSome (answer_in h c)))

own_op-to : (among : Op → Bool) (t : Bool) (o : Option Op) → is_own_op among t o ≡ true → IsSomeAnd o (λ op. (among op ≡ true) × (is_get op ≡ true → t ≡ true))
own_op-to among t None e = true≢false (sym e)
own_op-to among t (Some op) e =
    let p = both (among op) (not (is_get op) || t) e in
    (p.0, answered (is_get op) t p.1)
  where
    answered : (g t : Bool) → (not g || t) ≡ true → g ≡ true → t ≡ true
    answered true t e h = e
    answered false t e h = absurd (true≢false (sym h))

own_op-from : (among : Op → Bool) (t : Bool) (o : Option Op) → IsSomeAnd o (λ op. (among op ≡ true) × (is_get op ≡ true → t ≡ true)) → is_own_op among t o ≡ true
own_op-from among t None h = absurd h
own_op-from among t (Some op) h = λ i. h.0 i && either (is_get op) t h.1 i
  where
    either : (g t : Bool) → (g ≡ true → t ≡ true) → (not g || t) ≡ true
    either true t f = f refl
    either false t f = refl

own-to : (h : List Event) (among : Op → Bool) (order : List CallId) → has_no_stranger h among order ≡ true → EverySplit (λ front c back. IsOwn h among c) order
own-to h among [] e = splits-nil (λ front c back. IsOwn h among c)
own-to h among (c ∷ cs) e =
    let p = both _ _ e in
    splits-cons (λ front c back. IsOwn h among c) c cs (own_op-to among (is_some (answer_in h c)) (call_in h c) p.0) (own-to h among cs p.1)

own-from : (h : List Event) (among : Op → Bool) (order : List CallId) → EverySplit (λ front c back. IsOwn h among c) order → has_no_stranger h among order ≡ true
own-from h among [] all = refl
own-from h among (c ∷ cs) all =
    λ i. own_op-from among (is_some (answer_in h c)) (call_in h c) (splits-head (λ front c back. IsOwn h among c) c cs all) i
    && own-from h among cs (splits-tail (λ front c back. IsOwn h among c) c cs all) i

weaker : (o : Option Op) (P R : Op → Type 0) → ((op : Op) → P op → R op) → IsSomeAnd o P → IsSomeAnd o R
weaker None P R f h = absurd h
weaker (Some op) P R f h = f op h

pub key_stranger-to : (h : List Event) (key : List ℕ) (order : List CallId) → has_no_stranger h (of_key key) order ≡ true → HasNoStranger h key order
key_stranger-to h key order e front c back split =
    weaker (call_in h c) _ _ (λ op p. ((bytes_eq-Decides (key_of op) key).0 p.0, p.1)) (own-to h (of_key key) order e front c back split)

pub stranger-to : (s : Scope) (h : List Event) (order : List CallId) → has_no_stranger h (within s) order ≡ true → HasNoStrangerIn s h order
stranger-to (scope.Key key) h order e = key_stranger-to h key.now order e
stranger-to scope.AllKeys h order e = λ front c back split. weaker (call_in h c) _ _ (λ op p. p.1) (own-to h (λ op. true) order e front c back split)

pub stranger-from : (s : Scope) (h : List Event) (order : List CallId) → HasNoStrangerIn s h order → has_no_stranger h (within s) order ≡ true
stranger-from (scope.Key key) h order all =
    own-from h (of_key key.now) order (λ front c back split. weaker (call_in h c) _ _ (λ op p. ((bytes_eq-Decides (key_of op) key.now).1 p.0, p.1)) (all front c back split))
stranger-from scope.AllKeys h order all = own-from h (λ op. true) order (λ front c back split. weaker (call_in h c) _ _ (λ op p. (refl, p)) (all front c back split))

-- gets answer the latest set
tells-to : (held : Option (List ℕ)) (a : Option Answer) → tells held a ≡ true → a ≡ Some (answer_for held)
tells-to held None e = cc
tells-to held (Some answer.Ok) e = cc
tells-to None (Some answer.Nil) e = refl
tells-to (Some v) (Some answer.Nil) e = cc
tells-to None (Some (answer.Value w)) e = cc
tells-to (Some v) (Some (answer.Value w)) e = ap (λ x. Some (answer.Value x)) (sym ((bytes_eq-Decides v w).0 e))

told : (held : Option (List ℕ)) → tells held (Some (answer_for held)) ≡ true
told None = refl
told (Some v) = (bytes_eq-Decides v v).1 refl

-- what is told is what the keys hold
abbrev Told : List Event → (List ℕ → Option (List ℕ)) → List CallId → CallId → List CallId → Type 0
Told h held front c back =
    (key : List ℕ) → call_in h c ≡ Some (op.Get key) → answer_in h c ≡ Some (answer_for (fold (λ v x. after_op key (call_in h x) v) (held key) front))

told-here : (held : List ℕ → Option (List ℕ)) (o : Option Op) (a : Option Answer) → is_told held o a ≡ true → (key : List ℕ) → o ≡ Some (op.Get key) → a ≡ Some (answer_for (held key))
told-here held None a e key is = cc
told-here held (Some (op.Get k)) a e key is = let same : k ≡ key = cc in tells-to (held k) a e ∙ ap (λ k. Some (answer_for (held k))) same
told-here held (Some (op.Set k v)) a e key is = cc

told-from : (held : List ℕ → Option (List ℕ)) (o : Option Op) (a : Option Answer) → ((key : List ℕ) → o ≡ Some (op.Get key) → a ≡ Some (answer_for (held key))) → is_told held o a ≡ true
told-from held None a f = refl
told-from held (Some (op.Get k)) a f = ap (tells (held k)) (f k refl) ∙ told (held k)
told-from held (Some (op.Set k v)) a f = refl

abbrev next_held : List Event → CallId → (List ℕ → Option (List ℕ)) → List ℕ → Option (List ℕ)
next_held h c held = λ key. after_op key (call_in h c) (held key)

told-along : (h : List Event) (held : List ℕ → Option (List ℕ)) (order : List CallId) → all_told h held order ≡ true → EverySplit (Told h held) order
told-along h held [] e = splits-nil (Told h held)
told-along h held (c ∷ cs) e =
    elim (is_told held (call_in h c) (answer_in h c)) as (λ t. is_told held (call_in h c) (answer_in h c) ≡ t → cond t (all_told h (next_held h c held) cs) false ≡ true → EverySplit (Told h held) (c ∷ cs)) [
      | true ↦ λ fine rest. splits-cons (Told h held) c cs (told-here held (call_in h c) (answer_in h c) fine) (told-along h (next_held h c held) cs rest)
      | false ↦ λ _ stopped. absurd (true≢false (sym stopped))
    ] refl e

told-back : (h : List Event) (held : List ℕ → Option (List ℕ)) (order : List CallId) → EverySplit (Told h held) order → all_told h held order ≡ true
told-back h held [] all = refl
told-back h held (c ∷ cs) all =
    ap (λ t. cond t (all_told h (next_held h c held) cs) false) (told-from held (call_in h c) (answer_in h c) (splits-head (Told h held) c cs all))
    ∙ told-back h (next_held h c held) cs (splits-tail (Told h held) c cs all)

pub all_told-to : (h : List Event) (order : List CallId) → all_told h none_held order ≡ true → AnswersLatest h order
all_told-to h order e = told-along h none_held order e

pub all_told-from : (h : List Event) (order : List CallId) → AnswersLatest h order → all_told h none_held order ≡ true
all_told-from h order all = told-back h none_held order all

-- all rules together
pub proper-in : (s : Scope) (h : List Event) (order : List CallId) → IsCompleteIn s h order → IsDistinct order → HasNoStrangerIn s h order → AnswersLatest h order → KeepsRealTime h order → IsProperIn s h order
proper-in (scope.Key key) h order c d n l r = record { complete = c; distinct = d; no_stranger = n; latest = l; real_time = r }
proper-in scope.AllKeys h order c d n l r = record { complete = c; distinct = d; no_stranger = n; latest = l; real_time = r }

-- what a key holds behind one entry more
pub held_after-push : (h : List Event) (key : List ℕ) (front : List CallId) (c : CallId) (held : Option (List ℕ))
    → fold (λ v x. after_op key (call_in h x) v) held (front ++ c ∷ []) ≡ after_op key (call_in h c) (fold (λ v x. after_op key (call_in h x) v) held front)
held_after-push h key [] c held = refl
held_after-push h key (d ∷ front) c held = held_after-push h key front c (after_op key (call_in h d) held)
