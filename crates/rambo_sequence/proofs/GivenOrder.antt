-- The order that goes through the answers is one order of all sequences
use Rattle.std.proofs.Common.{◌≡◌, ℕ, ◌+◌, ◌≤◌, Bool, true, false, cond, if◌then◌else◌, List, [], ◌∷◌, ◌++◌, length, suc, Option, Some, None, refl, sym, ap, ◌∙◌, subst, inl, inr, arith, true≢false, append_assoc, append-nil}
use Rattle.std.specs.List.{position}
use Rattle.std.specs.Option.{option_map}
use Rattle.rambo_history.specs.declared.operation.Answer.{Answer}
use Rattle.rambo_history.specs.declared.event.CallId.{CallId}
use Rattle.rambo_history.specs.declared.event.Event.{Event}
use Rattle.rambo_history.specs.declared.event.Event.TheVariants as event
use Rattle.rambo_history.specs.Calls.{same_call}
use Rattle.rambo_history.specs.Histories.{answered_at, is_answer}
use Rattle.rambo_history.proofs.LookUps.{position-cons}
use Rattle.rambo_history.proofs.Pushes.{same_call-path, same_call-refl}
use Rattle.rambo_sequence.specs.Sequences.{SequenceOf}
use Rattle.rambo_sequence.proofs.Members.{Member, pick, some_inj, none-some, member_middle, member_stands, stands_member, member_left, member_right, member_cases}
use Rattle.rambo_sequence.specs.StoreOrders.{IsLeft, IsFirstAnswered, GoesNext, IsOrder, has, through, behind, given_through, left_behind, all_calls, order_from, order_of, NoTwice}

abbrev pub cut : SequenceOf → List CallId → SequenceOf
cut s rest = record s { calls = rest }

-- ---- where a first one stands
position_far : (p : Event → Bool) (done es : List Event) → position p done ≡ None → position p (done ++ es) ≡ option_map (λ n. length done + n) (position p es)
position_far p [] es none = sym (same (position p es))
  where
    same : (o : Option ℕ) → option_map (λ n. 0 + n) o ≡ o
    same None = refl
    same (Some n) = ap Some (omega arith)
position_far p (x ∷ done) es none =
    position-cons p x (done ++ es) ∙ step (λ shut. position_far p done es shut) (p x) refl
  where
    both : (o : Option ℕ) → option_map suc (option_map (λ n. length done + n) o) ≡ option_map (λ n. length (x ∷ done) + n) o
    both None = refl
    both (Some n) = ap Some (omega arith)

    inner : (o : Option ℕ) → option_map suc o ≡ None → o ≡ None
    inner None e = refl
    inner (Some n) e = absurd (none-some _ (sym e))

    step : (position p done ≡ None → position p (done ++ es) ≡ option_map (λ n. length done + n) (position p es)) → (t : Bool) → p x ≡ t → cond (p x) (Some 0) (option_map suc (position p (done ++ es))) ≡ option_map (λ n. length (x ∷ done) + n) (position p es)
    step far true e = absurd (none-some 0 (sym none ∙ position-cons p x done ∙ ap (λ t. cond t (Some 0) (option_map suc (position p done))) e))
    step far false e =
        let shut : position p done ≡ None = inner (position p done) (ap (λ t. cond t (Some 0) (option_map suc (position p done))) (sym e) ∙ sym (position-cons p x done) ∙ none) in
        ap (λ t. cond t (Some 0) (option_map suc (position p (done ++ es)))) e ∙ ap (option_map suc) (far shut) ∙ both (position p es)

far_place : (n : ℕ) (o : Option ℕ) (m : ℕ) → option_map (λ k. n + k) o ≡ Some m → n ≤ m
far_place n None m e = absurd (none-some m e)
far_place n (Some k) m e = omega (arith, some_inj _ _ e)

-- ---- no call twice
apart_left : (xs ys : List CallId) → NoTwice (xs ++ ys) → NoTwice xs
apart_left [] ys n = tt
apart_left (x ∷ xs) ys n = (λ s. n.0 (stands_member x (xs ++ ys) (member_left x xs ys (member_stands x xs s))), apart_left xs ys n.1)

pub apart_both : (xs ys : List CallId) → NoTwice (xs ++ ys) → (c : CallId) → Member c xs → Member c ys → ⊥
apart_both [] ys n c m k = absurd m
apart_both (x ∷ xs) ys n c m k = elim m [
  | inl e ↦ n.0 (stands_member x (xs ++ ys) (member_right x xs ys (subst (λ c. Member c ys) (sym e) k)))
  | inr r ↦ apart_both xs ys n.1 c r k
]

-- a list without one in the middle
pub drop_middle : (xs : List CallId) (c : CallId) (ys : List CallId) → NoTwice (xs ++ c ∷ ys) → NoTwice (xs ++ ys)
drop_middle [] c ys n = n.1
drop_middle (x ∷ xs) c ys n = (
  λ s. n.0 (stands_member x (xs ++ c ∷ ys) (elim (member_cases x xs ys (member_stands x (xs ++ ys) s)) [
    | inl m ↦ member_left x xs (c ∷ ys) m
    | inr m ↦ member_right x xs (c ∷ ys) (inr m)
  ])),
  drop_middle xs c ys n.1,
)

not_again : (xs : List CallId) (c : CallId) (ys : List CallId) → NoTwice (xs ++ c ∷ ys) → Member c (xs ++ ys) → ⊥
not_again [] c ys n m = n.0 (stands_member c ys m)
not_again (x ∷ xs) c ys n m = elim m [
  | inl e ↦ n.0 (stands_member x (xs ++ c ∷ ys) (subst (λ x. Member x (xs ++ c ∷ ys)) (sym e) (member_middle c xs ys)))
  | inr r ↦ not_again xs c ys n.1 r
]

-- ---- all calls of sequences
pub all_append : (front back : List SequenceOf) → all_calls (front ++ back) ≡ all_calls front ++ all_calls back
all_append [] back = refl
all_append (s ∷ front) back = ap (λ r. s.calls ++ r) (all_append front back) ∙ sym (append_assoc s.calls (all_calls front) (all_calls back))

pub member_all : (ss : List SequenceOf) (s : SequenceOf) (d : CallId) → Member s ss → Member d s.calls → Member d (all_calls ss)
member_all [] s d m i = absurd m
member_all (t ∷ ss) s d m i = elim m [
  | inl e ↦ member_left d t.calls (all_calls ss) (subst (λ (s : SequenceOf). Member d s.calls) (sym e) i)
  | inr r ↦ member_right d t.calls (all_calls ss) (member_all ss s d r i)
]

left_all : (ss : List SequenceOf) (d : CallId) → IsLeft ss d → Member d (all_calls ss)
left_all ss d l = member_all ss l.0 d (member_stands l.0 ss l.1) (member_stands d l.0.calls l.2)

-- sequences with one cut have that much less
pub all_cut : (front : List SequenceOf) (s : SequenceOf) (back : List SequenceOf) (c : CallId) (rest : List CallId) → s.calls ≡ c ∷ rest
    → all_calls (front ++ s ∷ back) ≡ all_calls front ++ c ∷ (rest ++ all_calls back)
all_cut front s back c rest e = all_append front (s ∷ back) ∙ ap (λ l. all_calls front ++ (l ++ all_calls back)) e

pub all_rest : (front : List SequenceOf) (s : SequenceOf) (back : List SequenceOf) (rest : List CallId) → all_calls (front ++ cut s rest ∷ back) ≡ all_calls front ++ (rest ++ all_calls back)
all_rest front s back rest = all_append front (cut s rest ∷ back)

module _ (h : List Event) where
  -- no call that is left was answered by these events
  abbrev Open : List Event → List CallId → Type 0
  Open done cs = (d : CallId) → Member d cs → answered_at done d ≡ None

  -- the rest, where none was answered
  rest_order : (front : List SequenceOf) (s : SequenceOf) (calls : List CallId) (ss : List SequenceOf) → s.calls ≡ calls → ((t : SequenceOf) → Member t front → t.calls ≡ [])
      → Open h (all_calls (front ++ s ∷ ss)) → ((t : SequenceOf) → t.calls ≡ [] → IsOrder h ((front ++ t ∷ []) ++ ss) (all_calls ss)) → IsOrder h (front ++ s ∷ ss) (calls ++ all_calls ss)
  rest_order front s [] ss e over free more = subst (λ l. IsOrder h l (all_calls ss)) (append_assoc front (s ∷ []) ss) (more s e)
  rest_order front s (c ∷ calls) ss e over free more = (
    front,
    s,
    ss,
    calls,
    refl,
    e,
    inr (record { unanswered = λ d l. free d (left_all (front ++ s ∷ ss) d l); over = λ t k. over t (member_stands t front k) }),
    rest_order front (cut s calls) calls ss refl over
        (λ d m. free d (subst (Member d) (sym (all_cut front s ss c calls e)) (elim (member_cases d (all_calls front) (calls ++ all_calls ss) (subst (Member d) (all_rest front s ss calls) m)) [
          | inl a ↦ member_left d (all_calls front) (c ∷ (calls ++ all_calls ss)) a
          | inr a ↦ member_right d (all_calls front) (c ∷ (calls ++ all_calls ss)) (inr a)
        ])))
        more,
  )

  rests_order : (front ss : List SequenceOf) → ((t : SequenceOf) → Member t front → t.calls ≡ []) → Open h (all_calls (front ++ ss)) → IsOrder h (front ++ ss) (all_calls ss)
  rests_order front [] over free = λ t k. over t (subst (Member t) (append-nil front) (member_stands t (front ++ []) k))
  rests_order front (s ∷ ss) over free =
      rest_order front s s.calls ss refl over free
      (λ t e. rests_order (front ++ t ∷ []) ss
      (λ u m. elim (member_cases u front (t ∷ []) m) [ inl a ↦ over u a | inr a ↦ elim a [ inl q ↦ subst (λ (u : SequenceOf). u.calls ≡ []) q e | inr z ↦ absurd z ] ])
      (λ d m. free d (subst (Member d) (sym (all_append front (s ∷ ss))) (elim (member_cases d (all_calls (front ++ t ∷ [])) (all_calls ss) (subst (Member d) (all_append (front ++ t ∷ []) ss) m)) [
        | inl a ↦ elim (member_cases d (all_calls front) (all_calls (t ∷ [])) (subst (Member d) (all_append front (t ∷ [])) a)) [
          | inl b ↦ member_left d (all_calls front) (s.calls ++ all_calls ss) b
          | inr b ↦ absurd (subst (λ l. Member d (l ++ [])) e b)
        ]
        | inr a ↦ member_right d (all_calls front) (s.calls ++ all_calls ss) (member_right d s.calls (all_calls ss) a)
      ]))))

  -- ---- an answer
  module _ (done : List Event) (d : CallId) (a : Answer) (es : List Event) (whole : h ≡ done ++ event.Answer d a ∷ es) where
    here : answered_at done d ≡ None → answered_at h d ≡ Some (length done)
    here none =
        ap (position (is_answer d)) whole ∙ position_far (is_answer d) done (event.Answer d a ∷ es) none
        ∙ ap (option_map (λ n. length done + n)) (position-cons (is_answer d) (event.Answer d a) es ∙ ap (λ t. cond t (Some 0) (option_map suc (position (is_answer d) es))) (same_call-refl d))
        ∙ ap Some (omega arith)

    later : (c : CallId) (p : ℕ) → answered_at done c ≡ None → answered_at h c ≡ Some p → length done ≤ p
    later c p none e = far_place (length done) (position (is_answer c) (event.Answer d a ∷ es)) p (sym (position_far (is_answer c) done (event.Answer d a ∷ es) none) ∙ ap (position (is_answer c)) (sym whole) ∙ e)

    first : (ss : List SequenceOf) → Open done (all_calls ss) → Member d (all_calls ss) → IsFirstAnswered h ss d
    first ss free m = record { place = length done; answered = here (free d m); first = λ c p l e. later c p (free c (left_all ss c l)) e }

    -- a sequence is given up to the call
    up_to : (front : List SequenceOf) (s : SequenceOf) (calls : List CallId) (back : List SequenceOf) (more : List CallId) → s.calls ≡ calls → has d calls ≡ true → Open done (all_calls (front ++ s ∷ back))
        → IsOrder h (front ++ cut s (behind d calls) ∷ back) more → IsOrder h (front ++ s ∷ back) (through d calls ++ more)
    up_to front s [] back more e t free o = absurd (true≢false (sym t))
    up_to front s (c ∷ calls) back more e t free o =
        let there : Member d s.calls = subst (Member d) (sym e) (in_list d (c ∷ calls) t) in
        let all : Member d (all_calls (front ++ s ∷ back)) = member_all (front ++ s ∷ back) s d (member_middle s front back) there in
        let next : GoesNext h (front ++ s ∷ back) front s = inl (d, stands_member d s.calls there, first (front ++ s ∷ back) free all) in
        elim (pick (same_call c d) true (has d calls)) [
          | inl p ↦ (
            front,
            s,
            back,
            calls,
            refl,
            e,
            next,
            let P : Bool → Type 0 = λ t. IsOrder h (front ++ cut s (if t then calls else behind d calls) ∷ back) more → IsOrder h (front ++ cut s calls ∷ back) ((if t then [] else through d calls) ++ more) in
                subst P (sym p.0) (λ o. o) o,
          )
          | inr p ↦ (
            front,
            s,
            back,
            calls,
            refl,
            e,
            next,
            let P : Bool → Type 0 = λ t. IsOrder h (front ++ cut s (if t then calls else behind d calls) ∷ back) more → IsOrder h (front ++ cut s calls ∷ back) ((if t then [] else through d calls) ++ more) in
                subst P (sym p.0) (λ o. up_to front (cut s calls) calls back more refl (sym p.1 ∙ t)
                (λ k m. free k (subst (Member k) (sym (all_cut front s back c calls e)) (elim (member_cases k (all_calls front) (calls ++ all_calls back) (subst (Member k) (all_rest front s back calls) m)) [
                  | inl b ↦ member_left k (all_calls front) (c ∷ (calls ++ all_calls back)) b
                  | inr b ↦ member_right k (all_calls front) (c ∷ (calls ++ all_calls back)) (inr b)
                ]))) o) o,
          )
        ]
      where
        in_list : (d : CallId) (cs : List CallId) → has d cs ≡ true → Member d cs
        in_list d [] t = absurd (true≢false (sym t))
        in_list d (c ∷ cs) t = elim (pick (same_call c d) true (has d cs)) [
          | inl p ↦ inl (same_call-path c d p.0)
          | inr p ↦ inr (in_list d cs (sym p.1 ∙ t))
        ]

    -- the sequence that has it, if one has it
    given : (front ss : List SequenceOf) (more : List CallId) → Open done (all_calls (front ++ ss)) → IsOrder h (front ++ left_behind d ss) more → IsOrder h (front ++ ss) (given_through d ss ++ more)
    given front [] more free o = o
    given front (s ∷ ss) more free o =
        let P : Bool → Type 0 = λ t. IsOrder h (front ++ (if t then cut s (behind d s.calls) ∷ ss else s ∷ left_behind d ss)) more → IsOrder h (front ++ s ∷ ss) ((if t then through d s.calls else given_through d ss) ++ more) in
        elim (pick (has d s.calls) true false) [
          | inl p ↦ subst P (sym p.0) (λ o. up_to front s s.calls ss more refl p.0 free o) o
          | inr p ↦ subst P (sym p.0) (λ o. subst (λ l. IsOrder h l (given_through d ss ++ more)) (append_assoc front (s ∷ []) ss)
              (given (front ++ s ∷ []) ss more (subst (λ l. Open done (all_calls l)) (sym (append_assoc front (s ∷ []) ss)) free) (subst (λ l. IsOrder h l more) (sym (append_assoc front (s ∷ []) (left_behind d ss))) o))) o
        ]

-- ---- what is left behind an answer
split : (d : CallId) (cs : List CallId) → cs ≡ through d cs ++ behind d cs
split d [] = refl
split d (c ∷ cs) = ap (λ l. c ∷ l) (step (split d cs) (same_call c d))
  where
    step : cs ≡ through d cs ++ behind d cs → (t : Bool) → cs ≡ (if t then [] else through d cs) ++ (if t then cs else behind d cs)
    step e true = refl
    step e false = e

has_through : (d : CallId) (cs : List CallId) → has d cs ≡ true → Member d (through d cs)
has_through d [] t = absurd (true≢false (sym t))
has_through d (c ∷ cs) t = elim (pick (same_call c d) true (has d cs)) [
  | inl p ↦ inl (same_call-path c d p.0)
  | inr p ↦ inr (subst (λ t. Member d (if t then [] else through d cs)) (sym p.0) (has_through d cs (sym p.1 ∙ t)))
]

has_member : (d : CallId) (cs : List CallId) → Member d cs → has d cs ≡ true
has_member d [] m = absurd m
has_member d (c ∷ cs) m = elim (pick (same_call c d) true (has d cs)) [
  | inl p ↦ p.1
  | inr p ↦ elim m [
    | inl e ↦ absurd (true≢false (sym (same_call-refl d) ∙ ap (λ c. same_call c d) (sym e) ∙ p.0))
    | inr r ↦ p.1 ∙ has_member d cs r
  ]
]

pub apart_right : (xs ys : List CallId) → NoTwice (xs ++ ys) → NoTwice ys
apart_right [] ys n = n
apart_right (x ∷ xs) ys n = apart_right xs ys n.1

apart_less : (xs ys zs : List CallId) → NoTwice (xs ++ ys) → ((k : CallId) → Member k zs → Member k ys) → NoTwice zs → NoTwice (xs ++ zs)
apart_less [] ys zs n f z = z
apart_less (x ∷ xs) ys zs n f z = (
  λ s. n.0 (stands_member x (xs ++ ys) (elim (member_cases x xs zs (member_stands x (xs ++ zs) s)) [
    | inl m ↦ member_left x xs ys m
    | inr m ↦ member_right x xs ys (f x m)
  ])),
  apart_less xs ys zs n.1 f z,
)

record Behind (d : CallId) (ss : List SequenceOf) : Type 0 where
  apart : NoTwice (all_calls (left_behind d ss))
  within : (k : CallId) → Member k (all_calls (left_behind d ss)) → Member k (all_calls ss)
  gone : Member d (all_calls (left_behind d ss)) → ⊥

behind_all : (d : CallId) (ss : List SequenceOf) → NoTwice (all_calls ss) → Behind d ss
behind_all d [] n = record { apart = tt; within = λ k m. absurd m; gone = λ m. absurd m }
behind_all d (s ∷ ss) n =
    let A = all_calls ss in
    let P : Bool → Type 0 = λ t. NoTwice (all_calls (if t then cut s (behind d s.calls) ∷ ss else s ∷ left_behind d ss)) in
    let W : Bool → Type 0 = λ t. (k : CallId) → Member k (all_calls (if t then cut s (behind d s.calls) ∷ ss else s ∷ left_behind d ss)) → Member k (s.calls ++ A) in
    let G : Bool → Type 0 = λ t. Member d (all_calls (if t then cut s (behind d s.calls) ∷ ss else s ∷ left_behind d ss)) → ⊥ in
    let cut_is : s.calls ++ A ≡ through d s.calls ++ (behind d s.calls ++ A) = ap (λ l. l ++ A) (split d s.calls) ∙ append_assoc (through d s.calls) (behind d s.calls) A in
    elim (pick (has d s.calls) true false) [
      | inl p ↦ (
          let n' = subst NoTwice cut_is n in
          record {
            apart = subst P (sym p.0) (apart_right (through d s.calls) (behind d s.calls ++ A) n');
            within = subst W (sym p.0) (λ k m. subst (Member k) (sym cut_is) (member_right k (through d s.calls) (behind d s.calls ++ A) m));
            gone = subst G (sym p.0) (λ m. apart_both (through d s.calls) (behind d s.calls ++ A) n' d (has_through d s.calls p.0) m);
          }
          )
      | inr p ↦ (
          let r = behind_all d ss (apart_right s.calls A n) in
          record {
            apart = subst P (sym p.0) (apart_less s.calls A (all_calls (left_behind d ss)) n r.within r.apart);
            within = subst W (sym p.0) (λ k m. elim (member_cases k s.calls (all_calls (left_behind d ss)) m) [
              | inl a ↦ member_left k s.calls A a
              | inr a ↦ member_right k s.calls A (r.within k a)
            ]);
            gone = subst G (sym p.0) (λ m. elim (member_cases d s.calls (all_calls (left_behind d ss)) m) [
              | inl a ↦ true≢false (sym (has_member d s.calls a) ∙ p.0)
              | inr a ↦ r.gone a
            ]);
          }
          )
    ]

-- one event more
still_open : (done : List Event) (e : Event) (c : CallId) → answered_at done c ≡ None → is_answer c e ≡ false → answered_at (done ++ e ∷ []) c ≡ None
still_open done e c none other =
    position_far (is_answer c) done (e ∷ []) none
    ∙ ap (option_map (λ n. length done + n)) (position-cons (is_answer c) e [] ∙ ap (λ t. cond t (Some 0) (option_map suc (position (is_answer c) []))) other)

given_order : (h done es : List Event) (ss : List SequenceOf) → h ≡ done ++ es → NoTwice (all_calls ss) → ((c : CallId) → Member c (all_calls ss) → answered_at done c ≡ None) → IsOrder h ss (order_from ss es)
unfolding order_from
given_order h done [] ss whole n free =
    rests_order h [] ss (λ t m. absurd m) (λ c m. ap (λ h. answered_at h c) (whole ∙ append-nil done) ∙ free c m)
given_order h done (event.Call d p ∷ es) ss whole n free =
    given_order h (done ++ event.Call d p ∷ []) es ss (whole ∙ sym (append_assoc done (event.Call d p ∷ []) es)) n (λ c m. still_open done (event.Call d p) c (free c m) refl)
given_order h done (event.Answer d a ∷ es) ss whole n free =
    let r = behind_all d ss n in
    given h done d a es whole [] ss (order_from (left_behind d ss) es) free
    (given_order h (done ++ event.Answer d a ∷ []) es (left_behind d ss) (whole ∙ sym (append_assoc done (event.Answer d a ∷ []) es)) r.apart
    (λ c m. still_open done (event.Answer d a) c (free c (r.within c m)) (other c (same_call d c) refl (λ e. r.gone (subst (λ c. Member c (all_calls (left_behind d ss))) (sym e) m)))))
  where
    other : (c : CallId) (t : Bool) → same_call d c ≡ t → ((d ≡ c) → ⊥) → same_call d c ≡ false
    other c true e f = absurd (f (same_call-path d c e))
    other c false e f = e

-- the order that the answers give is one order of the sequences
pub order_is : (h : List Event) (ss : List SequenceOf) → NoTwice (all_calls ss) → IsOrder h ss (order_of h ss)
unfolding order_of
order_is h ss n = given_order h [] h ss refl n (λ c m. refl)
