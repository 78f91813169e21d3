-- A client that asks one thing after another is told what an ordinary map answers
use Rattle.std.proofs.Common.{◌≡◌, ℕ, List, [], ◌∷◌, ◌++◌, Bool, true, false, cond, Option, None, Some, is_some, refl, sym, ap, ◌∙◌, subst, ◌⊎◌, inl, inr, fold, append_assoc}
use Rattle.std.specs.Option.{IsSomeAnd}
use Rattle.std.specs.Str.{bytes_eq}
use Rattle.std.proofs.lemmas.Slice.Eq.{bytes_eq-Decides}
use Rattle.rambo_history.specs.declared.operation.Op.{Op}
use Rattle.rambo_history.specs.declared.operation.Op.TheVariants as op
use Rattle.rambo_history.specs.declared.operation.Answer.{Answer}
use Rattle.rambo_history.specs.declared.operation.Answer.TheVariants as answer
use Rattle.rambo_history.specs.declared.event.CallId.{CallId}
use Rattle.rambo_history.specs.declared.event.Event.{Event}
use Rattle.rambo_history.specs.declared.event.Event.TheVariants as event
use Rattle.rambo_history.specs.Calls.{same_call, fits, key_of, answer_for}
use Rattle.rambo_history.specs.Forms.{CallsOnce, IsWellFormed}
use Rattle.rambo_history.specs.Histories.{call_in, answer_in, answered_before}
use Rattle.rambo_history.specs.Proper.{Stands, IsProper, after_op, held_after}
use Rattle.rambo_history.proofs.LookUps.{either, call_in-append, answer_in-append}
use Rattle.rambo_history.proofs.Pushes.{same_call-refl}
use Rattle.rambo_history.proofs.Splits.{stands-here, stands-later, stands-cases}
use Rattle.rambo_commands.specs.declared.request.Request.{Request}
use Rattle.rambo_client.specs.Maps.{no_values, answer_of}
use Rattle.rambo_client.specs.Replies.{after_all}
use Rattle.rambo_client.specs.Calls.{IsHistory}
use Rattle.rambo_client.proofs.Latest.{Quiet, quiet-append, quiet_op, LastSet, latest, paired, told_before, answered_there, called_there}

-- the history has what is asked where a call stands
call_at : (h front back : List Event) (c : CallId) (o : Op) → CallsOnce h → h ≡ front ++ event.Call c o ∷ back → call_in h c ≡ Some o
call_at h front back c o once e =
    ap (λ l. call_in l c) e ∙ call_in-append front (event.Call c o ∷ back) c
    ∙ (λ i. either (once front (event.Call c o) back e c o refl i) (cond (same_call-refl c i) (Some o) (call_in back c)))

stands_split : (front : List CallId) (x : CallId) (back : List CallId) (c : CallId) → Stands (front ++ x ∷ back) c → Stands front c ⊎ ((x ≡ c) ⊎ Stands back c)
stands_split [] x back c s = inr (stands-cases x c back s)
stands_split (f ∷ front) x back c s =
    elim (stands-cases f c (front ++ x ∷ back) s) [
      | inl same ↦ inl (subst (Stands (f ∷ front)) same (stands-here f front))
      | inr rest ↦ elim (stands_split front x back c rest) [
        | inl there ↦ inl (stands-later f c front there)
        | inr behind ↦ inr behind
      ]
    ]

stands_front : (front back : List CallId) (c : CallId) → Stands front c → Stands (front ++ back) c
stands_front front back c s = (s.0, s.1 ++ back, ap (λ l. l ++ back) s.2 ∙ append_assoc s.0 (c ∷ s.1) back)

-- calls that change nothing
fold_still : (f : Option (List ℕ) → CallId → Option (List ℕ)) (held : Option (List ℕ)) (cs : List CallId) → ((c : CallId) → Stands cs c → f held c ≡ held) → fold f held cs ≡ held
fold_still f held [] each = refl
fold_still f held (c ∷ cs) each = ap (λ v. fold f v cs) (each c (stands-here c cs)) ∙ fold_still f held cs (λ d s. each d (stands-later c d cs s))

fold_parts : (f : Option (List ℕ) → CallId → Option (List ℕ)) (held : Option (List ℕ)) (cs ds : List CallId) → fold f held (cs ++ ds) ≡ fold f (fold f held cs) ds
fold_parts f held [] ds = refl
fold_parts f held (c ∷ cs) ds = fold_parts f (f held c) cs ds

some_same : {X : Type 0} (x y : X) → Some x ≡ Some y → x ≡ y
some_same x y e = cc

no_get : (key k v : List ℕ) → Some (op.Get key) ≡ Some (op.Set k v) → ⊥
no_get key k v e = cc

is_call_of : (key : List ℕ) (o : Option Op) (p : Op) → o ≡ Some p → key_of p ≡ key → IsSomeAnd o (λ op. key_of op ≡ key)
is_call_of key o p e k = subst (λ o. IsSomeAnd o (λ op. key_of op ≡ key)) (sym e) k

-- a get that is asked when all before it is answered
module _ (name : ℕ) (qs : List Request) (h0 : List Event) (calls : IsHistory name qs h0) (key : List ℕ) (id : CallId) (a : Answer)
    (h : List Event) (is : h ≡ h0 ++ event.Call id (op.Get key) ∷ event.Answer id a ∷ []) (once : CallsOnce h)
    (order : List CallId) (proper : IsProper h key order) where
  abbrev end : List Event
  end = event.Call id (op.Get key) ∷ event.Answer id a ∷ []

  abbrev then : Option (List ℕ) → CallId → Option (List ℕ)
  then held c = after_op key (call_in h c) held

  pub asked : call_in h id ≡ Some (op.Get key)
  asked = call_at h h0 (event.Answer id a ∷ []) id (op.Get key) once is

  behind : h ≡ (h0 ++ event.Call id (op.Get key) ∷ []) ++ event.Answer id a ∷ []
  behind = is ∙ sym (append_assoc h0 (event.Call id (op.Get key) ∷ []) (event.Answer id a ∷ []))

  answered : is_some (answer_in h id) ≡ true
  answered = ap (λ l. is_some (answer_in l id)) behind ∙ answered_there (h0 ++ event.Call id (op.Get key) ∷ []) id a []

  pub stands : Stands order id
  stands = proper.complete id (is_call_of key (call_in h id) (op.Get key) asked refl) answered

  pub told : answer_in h id ≡ Some (answer_for (held_after h key stands.0))
  told = proper.latest stands.0 id stands.1 stands.2 key asked

  -- where there is a last set of the key
  module _ (l : LastSet name key no_values (after_all no_values qs key) h0) where
    abbrev d : CallId
    d = l.id

    abbrev set : Op
    set = op.Set key l.value

    abbrev rest : List Event
    rest = l.back ++ end

    whole : h ≡ l.front ++ event.Call d set ∷ event.Answer d answer.Ok ∷ rest
    whole = is ∙ ap (λ x. x ++ end) l.split ∙ append_assoc l.front (event.Call d set ∷ event.Answer d answer.Ok ∷ l.back) end

    asked_set : call_in h d ≡ Some set
    asked_set = call_at h l.front (event.Answer d answer.Ok ∷ rest) d set once whole

    behind_set : h ≡ (l.front ++ event.Call d set ∷ []) ++ event.Answer d answer.Ok ∷ rest
    behind_set = whole ∙ sym (append_assoc l.front (event.Call d set ∷ []) (event.Answer d answer.Ok ∷ rest))

    set_stands : Stands order d
    set_stands =
        proper.complete d (is_call_of key (call_in h d) set asked_set refl)
        (ap (λ x. is_some (answer_in x d)) behind_set ∙ answered_there (l.front ++ event.Call d set ∷ []) d answer.Ok rest)

    -- the set was answered before the get was called
    in_time : answered_before h d id ≡ true
    in_time =
        ap (λ x. answered_before x d id) behind_set
        ∙ told_before (l.front ++ event.Call d set ∷ []) d answer.Ok rest id (called_there l.back id (op.Get key) (event.Answer id a ∷ []))

    in_front : Stands stands.0 d
    in_front =
        elim (stands_split stands.0 id stands.1 d (subst (λ x. Stands x d) stands.2 set_stands)) [
          | inl there ↦ there
          | inr other ↦ elim other [
            | inl same ↦ absurd (no_get key key l.value (sym asked ∙ ap (call_in h) same ∙ asked_set))
            | inr late ↦ absurd (proper.real_time stands.0 id stands.1 stands.2 d late in_time)
          ]
        ]

    abbrev between : List CallId
    between = in_front.1

    order_is : order ≡ in_front.0 ++ d ∷ (between ++ id ∷ stands.1)
    order_is = stands.2 ∙ ap (λ x. x ++ id ∷ stands.1) in_front.2 ∙ append_assoc in_front.0 (d ∷ between) (id ∷ stands.1)

    -- what was called before the set was answered before it
    earlier : (x : CallId) (o : Op) → call_in l.front x ≡ Some o → answered_before h x d ≡ true
    earlier x o e =
        let p = paired name no_values l.before l.front x o l.calls e in
        let more = event.Call d set ∷ event.Answer d answer.Ok ∷ rest in
        ap (λ y. answered_before y x d) (whole ∙ ap (λ y. y ++ more) p.3 ∙ append_assoc p.0 (event.Answer x p.1 ∷ p.2) more)
        ∙ told_before p.0 x p.1 (p.2 ++ more) d (called_there p.2 d set (event.Answer d answer.Ok ∷ rest))

    quiet_rest : Quiet key rest
    quiet_rest = quiet-append key l.back end l.quiet (refl, (refl, tt))

    own_set : (t : Bool) (o : Option Op) → after_op key o (Some l.value) ≡ Some l.value → after_op key (cond t (Some set) o) (Some l.value) ≡ Some l.value
    own_set true o e = elim (bytes_eq key key) as (λ t. cond t (Some l.value) (Some l.value) ≡ Some l.value) [ true ↦ refl | false ↦ refl ]
    own_set false o e = e

    -- no call between the set and the get changes the value
    still : (x : CallId) → Stands between x → then (Some l.value) x ≡ Some l.value
    still x s =
        let late : Stands (between ++ id ∷ stands.1) x = stands_front between (id ∷ stands.1) x s in
        let not_earlier = proper.real_time in_front.0 d (between ++ id ∷ stands.1) order_is x late in
        ap (λ o. after_op key o (Some l.value)) (ap (λ y. call_in y x) whole ∙ call_in-append l.front (event.Call d set ∷ event.Answer d answer.Ok ∷ rest) x)
        ∙ (elim (call_in l.front x) as (λ o. call_in l.front x ≡ o → after_op key (either o (cond (same_call d x) (Some set) (call_in rest x))) (Some l.value) ≡ Some l.value) [
          | None ↦ λ _. own_set (same_call d x) (call_in rest x) (quiet_op key rest x (Some l.value) quiet_rest)
          | Some o ↦ λ e. absurd (not_earlier (earlier x o e))
        ] refl)

    taken : (held : Option (List ℕ)) → then held d ≡ Some l.value
    taken held = ap (λ o. after_op key o held) asked_set ∙ ap (λ t. cond t (Some l.value) held) ((bytes_eq-Decides key key).1 refl)

    pub held_last : held_after h key stands.0 ≡ after_all no_values qs key
    held_last =
        ap (fold then None) in_front.2 ∙ fold_parts then None in_front.0 (d ∷ between)
        ∙ ap (λ v. fold then v between) (taken (fold then None in_front.0)) ∙ fold_still then (Some l.value) between still ∙ sym l.holds

  pub held_now : held_after h key stands.0 ≡ after_all no_values qs key
  held_now =
      elim (latest name key no_values qs h0 calls) [
        | inl q ↦
            fold_still then None stands.0
            (λ c s. quiet_op key h c None (subst (Quiet key) (sym is) (quiet-append key h0 end q.0 (refl, (refl, tt))))) ∙ sym q.1
        | inr l ↦ held_last l
      ]

  pub get_right : answer_in h id ≡ Some a → a ≡ answer_for (after_all no_values qs key)
  get_right mine = some_same a (answer_for (after_all no_values qs key)) (sym mine ∙ told ∙ ap (λ v. Some (answer_for v)) held_now)

ok_alone : (key value : List ℕ) (a : Answer) → fits (op.Set key value) a ≡ true → a ≡ answer.Ok
ok_alone key value answer.Ok e = refl
ok_alone key value answer.Nil e = cc
ok_alone key value (answer.Value v) e = cc

-- what a history says of its last call
module _ (h0 : List Event) (id : CallId) (o : Op) (a : Answer) (h : List Event) (is : h ≡ h0 ++ event.Call id o ∷ event.Answer id a ∷ []) (well : IsWellFormed h) where
  abbrev with_call : List Event
  with_call = h0 ++ event.Call id o ∷ []

  split : h ≡ with_call ++ event.Answer id a ∷ []
  split = is ∙ sym (append_assoc h0 (event.Call id o ∷ []) (event.Answer id a ∷ []))

  called : call_in with_call id ≡ Some o
  called =
      call_in-append h0 (event.Call id o ∷ []) id
      ∙ (λ i. either (well.calls_once h0 (event.Call id o) (event.Answer id a ∷ []) is id o refl i) (cond (same_call-refl id i) (Some o) None))

  open_there : IsSomeAnd (call_in with_call id) (λ op. fits op a ≡ true) × (answer_in with_call id ≡ None)
  open_there = well.answers_open with_call (event.Answer id a) [] split id a refl

  pub kind : fits o a ≡ true
  kind = subst (λ q. IsSomeAnd q (λ op. fits op a ≡ true)) called open_there.0

  pub told_last : answer_in h id ≡ Some a
  told_last =
      ap (λ l. answer_in l id) split ∙ answer_in-append with_call (event.Answer id a ∷ []) id
      ∙ (λ i. either (open_there.1 i) (cond (same_call-refl id i) (Some a) None))

-- so each answer is right
pub answer_right : (name : ℕ) (qs : List Request) (h0 : List Event) (id : CallId) (o : Op) (a : Answer) (h : List Event) → IsHistory name qs h0
    → h ≡ h0 ++ event.Call id o ∷ event.Answer id a ∷ [] → IsWellFormed h → ((key : List ℕ) → (order : List CallId) × IsProper h key order) → a ≡ answer_of (after_all no_values qs) o
answer_right name qs h0 id (op.Set key value) a h calls is well orders = ok_alone key value a (kind h0 id (op.Set key value) a h is well)
answer_right name qs h0 id (op.Get key) a h calls is well orders =
    get_right name qs h0 calls key id a h is well.calls_once (orders key).0 (orders key).1 (told_last h0 id (op.Get key) a h is well)
