-- Which keys are judged
use Rattle.std.proofs.Common.{◌≡◌, inl, inr, ℕ, ◌+◌, ◌<◌, ◌≤◌, Bool, true, false, ◌||◌, cond, List, [], ◌∷◌, ◌++◌, length, get_or, take, map, Option, None, Some, is_some, IfSome, refl, sym, ap, ◌∙◌, subst, true≢false}
use Rattle.std.specs.List.{list_any}
use Rattle.std.specs.Map.{lookup}
use Rattle.std.specs.Str.{bytes_eq}
use Rattle.std.proofs.lemmas.Bool.Decides.{same_from_decides}
use Rattle.std.proofs.lemmas.List.{take_more, take_all}
use Rattle.std.proofs.lemmas.Slice.Eq.{bytes_eq-Decides}
use Rattle.rambo_history.specs.declared.operation.Op.{Op}
use Rattle.rambo_history.specs.declared.event.CallId.{CallId}
use Rattle.rambo_history.specs.declared.event.Event.{Event}
use Rattle.rambo_history.specs.declared.event.Event.TheVariants as event
use Rattle.rambo_atomic.specs.declared.verdict.Verdict.{Verdict}
use Rattle.rambo_history.specs.Calls.{key_of}
use Rattle.rambo_history.specs.Proper.{Stands}
use Rattle.rambo_atomic.specs.Verdicts.{IsVerdict, IsVerdictForAll}
use Rattle.rambo_text.specs.declared.version.Version.{Version}
use Rattle.rambo_text.specs.declared.version.Version.TheVariants.{Two}
use Rattle.rambo_history.proofs.Splits.{stands-here, stands-later, stands-nil, stands-cases}
use Rattle.rambo_check.specs.EvidenceStates.{EvidenceState}
use Rattle.rambo_check.specs.Verdicts.{order_of, store_order_of, IsKey, IsVerdictOn, IsVerdictOnAll}
use Rattle.rambo_check.specs.Judgings.{is_call_of}

or_swap : (a b c : Bool) → (a || (b || c)) ≡ (b || (a || c))
or_swap true true c = refl
or_swap true false c = refl
or_swap false true c = refl
or_swap false false c = refl

or_group : (a b c : Bool) → (a || (b || c)) ≡ ((a || b) || c)
or_group true b c = refl
or_group false b c = refl

any-push : {X : Type 0} (p : X → Bool) (ys : List X) (x : X) → list_any p (ys ++ x ∷ []) ≡ (p x || list_any p ys)
any-push p [] x = refl
any-push p (y ∷ ys) x = ap (λ b. p y || b) (any-push p ys x) ∙ or_swap (p y) (p x) (list_any p ys)

any-more : {X : Type 0} (p : X → Bool) (xs ys : List X) (i : ℕ) (x : X) → xs ≡ ys → i < length xs → x ≡ get_or xs i x → list_any p (take (i + 1) ys) ≡ (p x || list_any p (take i ys))
any-more p xs ys i x same h is =
    ap (λ zs. list_any p (take (i + 1) zs)) (sym same) ∙ ap (list_any p) (take_more xs i x h ∙ ap (λ y. take i xs ++ y ∷ []) (sym is))
    ∙ any-push p (take i xs) x ∙ ap (λ zs. p x || list_any p (take i zs)) same

-- a key more
pub keys_on : {X : Type 0} (p : X → Bool) (xs ys : List X) (i : ℕ) (x : X) (old new : Bool) → xs ≡ ys → i < length xs → x ≡ get_or xs i x
    → new ≡ (p x || old) → old ≡ list_any p (take i ys) → new ≡ list_any p (take (i + 1) ys)
keys_on p xs ys i x old new same h is now before = now ∙ ap (λ b. p x || b) before ∙ sym (any-more p xs ys i x same h is)

-- an event more
pub events_on : {X : Type 0} (p : X → Bool) (base : Bool) (xs ys : List X) (i : ℕ) (x : X) (old new : Bool) → xs ≡ ys → i < length xs → x ≡ get_or xs i x
    → new ≡ (p x || old) → old ≡ (list_any p (take i ys) || base) → new ≡ (list_any p (take (i + 1) ys) || base)
events_on p base xs ys i x old new same h is now before =
    now ∙ ap (λ b. p x || b) before ∙ or_group (p x) (list_any p (take i ys)) base ∙ ap (λ b. b || base) (sym (any-more p xs ys i x same h is))

-- all of them
pub all_taken : {X : Type 0} (p : X → Bool) (xs ys : List X) (n : ℕ) → xs ≡ ys → length xs ≤ n → list_any p (take n ys) ≡ list_any p ys
all_taken p xs ys n same h = ap (list_any p) (ap (take n) (sym same) ∙ take_all n xs h ∙ same)

bytes_same : (a b : List ℕ) → bytes_eq a b ≡ true → a ≡ b
bytes_same a b = (bytes_eq-Decides a b).0

pub same_bytes : (a b : List ℕ) → a ≡ b → bytes_eq a b ≡ true
same_bytes a b = (bytes_eq-Decides a b).1

one_right : (P : List ℕ → Verdict → Type 0) (k q : List ℕ) (v : Verdict) (o : Option Verdict) (b : Bool) → bytes_eq k q ≡ b → P k v → IfSome o (P q) → IfSome (cond b (Some v) o) (P q)
one_right P k q v o true is own others = subst (λ z. P z v) (bytes_same k q is) own
one_right P k q v o false is own others = others

-- a verdict more
pub right_on : (P : List ℕ → Verdict → Type 0) (k : List ℕ) (v : Verdict) (old new : List ℕ → Option Verdict) → ((q : List ℕ) → new q ≡ cond (bytes_eq k q) (Some v) (old q))
    → P k v → ((q : List ℕ) → IfSome (old q) (P q)) → (q : List ℕ) → IfSome (new q) (P q)
right_on P k v old new now own before q = subst (λ o. IfSome o (P q)) (sym (now q)) (one_right P k q v (old q) (bytes_eq k q) refl own (before q))

pub bytes_eq-turn : (a b : List ℕ) → bytes_eq a b ≡ bytes_eq b a
bytes_eq-turn a b =
    same_from_decides (bytes_eq a b) (bytes_eq b a) (bytes_same a b, same_bytes a b) ((λ e. sym (bytes_same b a e)), λ e. same_bytes b a (sym e))

-- a key is among the keys of the orders where it has one
keys_any : (q : List ℕ) (orders : List (List ℕ × List CallId)) → list_any (λ k. bytes_eq k q) (map (λ o. o.0) orders) ≡ is_some (lookup (bytes_eq q) orders)
keys_any q [] = refl
keys_any q (o ∷ os) = by (bytes_eq o.0 q) (bytes_eq q o.0) (bytes_eq-turn o.0 q) (keys_any q os)
  where
    by : (a b : Bool) → a ≡ b → list_any (λ k. bytes_eq k q) (map (λ o. o.0) os) ≡ is_some (lookup (bytes_eq q) os)
        → (a || list_any (λ k. bytes_eq k q) (map (λ o. o.0) os)) ≡ is_some (cond b (Some o.1) (lookup (bytes_eq q) os))
    by true true e rest = refl
    by true false e rest = absurd (true≢false e)
    by false true e rest = absurd (true≢false (sym e))
    by false false e rest = rest

abbrev HasCall : List Event → List ℕ → Type 0
HasCall h q = (c : CallId) × (o : Op) × Stands h (event.Call c o) × (key_of o ≡ q)

later_call : (e : Event) (es : List Event) (q : List ℕ) → HasCall es q → HasCall (e ∷ es) q
later_call e es q h = (h.0, h.1, stands-later e (event.Call h.0 h.1) es h.2, h.3)

called : (q : List ℕ) (h : List Event) → list_any (is_call_of q) h ≡ true → HasCall h q
called q [] e = absurd (true≢false (sym e))
called q (event.Call c o ∷ es) e = by (λ k. called q es k) (bytes_eq (key_of o) q) refl e
  where
    by : (list_any (is_call_of q) es ≡ true → HasCall es q) → (b : Bool) → bytes_eq (key_of o) q ≡ b → (b || list_any (is_call_of q) es) ≡ true
        → HasCall (event.Call c o ∷ es) q
    by rest true is e = (c, o, stands-here (event.Call c o) es, bytes_same (key_of o) q is)
    by rest false is e = later_call (event.Call c o) es q (rest e)
called q (event.Answer c a ∷ es) e = later_call (event.Answer c a) es q (called q es e)

or_true : (a b : Bool) → b ≡ true → (a || b) ≡ true
or_true true b e = refl
or_true false b e = e

or_first : (a b : Bool) → a ≡ true → (a || b) ≡ true
or_first true b e = refl
or_first false b e = absurd (true≢false (sym e))

is_called : (q : List ℕ) (h : List Event) (c : CallId) (o : Op) → Stands h (event.Call c o) → key_of o ≡ q → list_any (is_call_of q) h ≡ true
is_called q [] c o s is = absurd (stands-nil (event.Call c o) s)
is_called q (e ∷ es) c o s is =
    elim (stands-cases e (event.Call c o) es s) [
      | inl same ↦ or_first (is_call_of q e) (list_any (is_call_of q) es) (ap (is_call_of q) same ∙ same_bytes (key_of o) q is)
      | inr later ↦ or_true (is_call_of q e) (list_any (is_call_of q) es) (is_called q es c o later is)
    ]

key_judged : (s : EvidenceState) (q : List ℕ) → IsKey s q → (list_any (is_call_of q) s.events || list_any (λ k. bytes_eq k q) (map (λ o. o.0) s.orders)) ≡ true
key_judged s q (inl call) = or_first (list_any (is_call_of q) s.events) _ (is_called q s.events call.0 call.1 call.2 call.3)
key_judged s q (inr order) = or_true (list_any (is_call_of q) s.events) _ (keys_any q s.orders ∙ order)

judged_key : (s : EvidenceState) (q : List ℕ) → (list_any (is_call_of q) s.events || list_any (λ k. bytes_eq k q) (map (λ o. o.0) s.orders)) ≡ true → IsKey s q
judged_key s q e = by (list_any (is_call_of q) s.events) refl e
  where
    by : (b : Bool) → list_any (is_call_of q) s.events ≡ b → (b || list_any (λ k. bytes_eq k q) (map (λ o. o.0) s.orders)) ≡ true → IsKey s q
    by true is e = inl (called q s.events is)
    by false is e = inr (sym (keys_any q s.orders) ∙ e)

-- a verdict is given on each key, and is right
pub verdict_on : (s : EvidenceState) (q : List ℕ) (o : Option Verdict) → IfSome o (IsVerdict s.events q (order_of s q))
    → is_some o ≡ (list_any (is_call_of q) s.events || list_any (λ k. bytes_eq k q) (map (λ o. o.0) s.orders)) → IsVerdictOn s q o
verdict_on s q None right judged = λ k. true≢false (sym (key_judged s q k) ∙ sym judged)
verdict_on s q (Some v) right judged = (judged_key s q (sym judged), right)

-- the verdict on the order of all keys
pub on_history : (h k : List Event) (order told : List CallId) (v : Verdict) → h ≡ k → order ≡ told → IsVerdictForAll h order v → IsVerdictForAll k told v
on_history h k order told v same is right = subst (λ o. IsVerdictForAll k o v) is (subst (λ e. IsVerdictForAll e order v) same right)

pub on_all_keys : (version : Version) (s : EvidenceState) (v : Verdict) → version ≡ Two → IsVerdictForAll s.events (store_order_of s) v → IsVerdictOnAll version s (Some v)
on_all_keys version s v is right = subst (λ u. IsVerdictOnAll u s (Some v)) (sym is) (v, refl, right)
