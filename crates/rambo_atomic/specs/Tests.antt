-- The rules of a proper order as tests, which the checkers compute
use Rattle.std.specs.Prelude.{ℕ, List, [], ◌∷◌, Bool, true, false, not, ◌&&◌, ◌||◌, max, Option, None, Some, is_some, if◌then◌else◌}
use Rattle.std.specs.List.{list_all, list_any}
use Rattle.std.specs.Str.{bytes_eq}
use Rattle.rambo_history.specs.declared.operation.Op.{Op}
use Rattle.rambo_history.specs.declared.operation.Op.TheVariants as op
use Rattle.rambo_history.specs.declared.operation.Answer.{Answer}
use Rattle.rambo_history.specs.declared.operation.Answer.TheVariants as answer
use Rattle.rambo_history.specs.declared.event.CallId.{CallId}
use Rattle.rambo_history.specs.declared.event.Event.{Event}
use Rattle.rambo_history.specs.declared.event.Event.TheVariants as event
use Rattle.rambo_history.specs.Calls.{key_of, is_get, same_call}
use Rattle.rambo_history.specs.Histories.{call_in, answer_in, called_at, answered_at, is_before}
use Rattle.rambo_history.specs.Proper.{after_op}

abbrev pub stands_in : List CallId → CallId → Bool
stands_in order c = list_any (λ d. same_call d c) order

-- whether an operation is of the key
abbrev pub of_key : List ℕ → Op → Bool
of_key key op = bytes_eq (key_of op) key

-- whether this is where an answered call of those within was made
abbrev pub is_due : List Event → (Op → Bool) → Event → Bool
is_due h within (event.Call c op) = within op && is_some (answer_in h c)
is_due h within (event.Answer c a) = false

-- whether the call that was made there is in the order
abbrev pub has_entry : List CallId → Event → Bool
has_entry order (event.Call c op) = stands_in order c
has_entry order (event.Answer c a) = false

-- whether each answered call of those within among these events is in the order
abbrev pub is_complete : List Event → (Op → Bool) → List CallId → List Event → Bool
is_complete h within order es = list_all (λ e. not (is_due h within e) || has_entry order e) es

abbrev pub is_distinct : List CallId → Bool
is_distinct [] = true
is_distinct (c ∷ cs) = if stands_in cs c then false else is_distinct cs

-- whether an operation is one of those within, and was answered if it is a get
abbrev pub is_own_op : (Op → Bool) → Bool → Option Op → Bool
is_own_op within answered None = false
is_own_op within answered (Some op) = within op && (not (is_get op) || answered)

abbrev pub is_own : List Event → (Op → Bool) → CallId → Bool
is_own h within c = is_own_op within (is_some (answer_in h c)) (call_in h c)

abbrev pub has_no_stranger : List Event → (Op → Bool) → List CallId → Bool
has_no_stranger h within order = list_all (is_own h within) order

-- whether an answer is what a key holds
abbrev pub tells : Option (List ℕ) → Option Answer → Bool
tells held None = false
tells held (Some answer.Ok) = false
tells None (Some answer.Nil) = true
tells (Some v) (Some answer.Nil) = false
tells None (Some (answer.Value w)) = false
tells (Some v) (Some (answer.Value w)) = bytes_eq v w

-- whether a get was answered what its key holds
abbrev pub is_told : (List ℕ → Option (List ℕ)) → Option Op → Option Answer → Bool
is_told held None a = true
is_told held (Some (op.Get key)) a = tells (held key) a
is_told held (Some (op.Set key value)) a = true

-- whether each get of these calls, before which the keys hold this, is answered what its key holds
abbrev pub all_told : List Event → (List ℕ → Option (List ℕ)) → List CallId → Bool
all_told h held [] = true
all_told h held (c ∷ cs) = if is_told held (call_in h c) (answer_in h c) then all_told h (λ key. after_op key (call_in h c) (held key)) cs else false

-- no key holds anything
abbrev pub none_held : List ℕ → Option (List ℕ)
none_held key = None

-- the later of a place and a call's
abbrev pub later : ℕ → Option ℕ → ℕ
later n None = n
later n (Some m) = max n m

-- whether no call of these was answered before place n, nor before one that comes before it was made
abbrev pub keeps_real_time : List Event → ℕ → List CallId → Bool
keeps_real_time h n [] = true
keeps_real_time h n (c ∷ cs) = if is_before n (answered_at h c) then false else keeps_real_time h (later n (called_at h c)) cs
