-- The lists of letters that wait, where one of them changes
use Rattle.std.proofs.Common.{◌≡◌, ℕ, zero, suc, ◌+◌, ◌<◌, List, [], ◌∷◌, ◌++◌, length, replicate, add-one, slice_set, slice_index_or, refl, sym, ap, ◌∙◌, arith}
use Rattle.rambo_mail.specs.declared.entry.Entry.{Entry}
use Rattle.rambo_mail.specs.Queues.{QueueState, lists_of}

pub lists_put : (qs : List QueueState) (i : ℕ) (q d : QueueState) (f : List Entry → List Entry) → q.entries ≡ f (slice_index_or qs i d).entries → i < length qs → lists_of (slice_set qs i q) ≡ slice_set (lists_of qs) i (f (slice_index_or (lists_of qs) i []))
lists_put [] i q d f e lt = absurd (omega (arith, lt))
lists_put (x ∷ xs) zero q d f e lt = ap (λ n. n ∷ lists_of xs) e
lists_put (x ∷ xs) (suc i) q d f e lt = ap (λ l. x.entries ∷ l) (lists_put xs i q d f e (omega (arith, lt)))

pub lists_kept : (qs : List QueueState) (i : ℕ) (q d : QueueState) → q.entries ≡ (slice_index_or qs i d).entries → lists_of (slice_set qs i q) ≡ lists_of qs
lists_kept [] i q d e = refl
lists_kept (x ∷ xs) zero q d e = ap (λ n. n ∷ lists_of xs) e
lists_kept (x ∷ xs) (suc i) q d e = ap (λ l. x.entries ∷ l) (lists_kept xs i q d e)

pub lists_pushed : (qs : List QueueState) (q : QueueState) → lists_of (qs ++ q ∷ []) ≡ lists_of qs ++ q.entries ∷ []
lists_pushed [] q = refl
lists_pushed (x ∷ xs) q = ap (λ l. x.entries ∷ l) (lists_pushed xs q)

replicated_suc : {A : Type 0} (k : ℕ) (a : A) → replicate k a ++ a ∷ [] ≡ replicate (suc k) a
replicated_suc zero a = refl
replicated_suc (suc k) a = ap (λ l. a ∷ l) (replicated_suc k a)

pub replicated : {A : Type 0} (k : ℕ) (a : A) → replicate k a ++ a ∷ [] ≡ replicate (k + 1) a
replicated k a = replicated_suc k a ∙ ap (λ n. replicate n a) (sym (add-one k))

pub count_lists : (qs : List QueueState) → length (lists_of qs) ≡ length qs
count_lists [] = refl
count_lists (q ∷ qs) = ap suc (count_lists qs)

pub any_default : {A : Type 0} (xs : List A) (i : ℕ) (d e : A) → i < length xs → slice_index_or xs i d ≡ slice_index_or xs i e
any_default [] i d e lt = absurd (omega (arith, lt))
any_default (x ∷ xs) zero d e lt = refl
any_default (x ∷ xs) (suc i) d e lt = any_default xs i d e (omega (arith, lt))

pub set_again : {A : Type 0} (xs : List A) (i : ℕ) (a b : A) → slice_set (slice_set xs i a) i b ≡ slice_set xs i b
set_again [] i a b = refl
set_again (x ∷ xs) zero a b = refl
set_again (x ∷ xs) (suc i) a b = ap (λ l. x ∷ l) (set_again xs i a b)

pub set_found : {A : Type 0} (xs : List A) (i : ℕ) (a d : A) → i < length xs → slice_index_or (slice_set xs i a) i d ≡ a
set_found [] i a d lt = absurd (omega (arith, lt))
set_found (x ∷ xs) zero a d lt = refl
set_found (x ∷ xs) (suc i) a d lt = set_found xs i a d (omega (arith, lt))

two_more : {A : Type 0} (xs : List A) (n : A) → (xs ++ n ∷ []) ++ n ∷ [] ≡ xs ++ n ∷ n ∷ []
two_more [] n = refl
two_more (x ∷ xs) n = ap (λ l. x ∷ l) (two_more xs n)

-- a letter waits once behind those of a queue, or twice
pub once_more : (qs : List QueueState) (i : ℕ) (n : Entry) (q old : QueueState) → old ≡ slice_index_or qs i old → i < length qs → q.entries ≡ old.entries ++ n ∷ [] → lists_of (slice_set qs i q) ≡ slice_set (lists_of qs) i (slice_index_or (lists_of qs) i [] ++ n ∷ [])
once_more qs i n q old at lt e = lists_put qs i q old (λ ns. ns ++ n ∷ []) (e ∙ ap (λ (q : QueueState). q.entries ++ n ∷ []) at) lt

pub twice_more : (qs : List QueueState) (i : ℕ) (n : Entry) (p q old mid : QueueState) → old ≡ slice_index_or qs i old → mid ≡ slice_index_or (slice_set qs i p) i mid → i < length qs → p.entries ≡ old.entries ++ n ∷ [] → q.entries ≡ mid.entries ++ n ∷ []
    → lists_of (slice_set (slice_set qs i p) i q) ≡ slice_set (lists_of qs) i (slice_index_or (lists_of qs) i [] ++ n ∷ n ∷ [])
twice_more qs i n p q old mid at then lt e f =
    let is : mid ≡ p = then ∙ set_found qs i p mid lt in
    let entries : q.entries ≡ old.entries ++ n ∷ n ∷ [] = f ∙ ap (λ (q : QueueState). q.entries ++ n ∷ []) is ∙ ap (λ l. l ++ n ∷ []) e ∙ two_more old.entries n in
    ap lists_of (set_again qs i p q) ∙ lists_put qs i q old (λ ns. ns ++ n ∷ n ∷ []) (entries ∙ ap (λ (q : QueueState). q.entries ++ n ∷ n ∷ []) at) lt
