-- Reading bytes a few at a time
use Rattle.std.proofs.Common.{◌≡◌, ℕ, zero, suc, ◌+◌, ◌-◌, ◌^◌, ◌<◌, ◌≤◌, min, false, cond, ◌==◌, List, [], ◌∷◌, ◌++◌, length, get_or, take, drop, Option, Some, None, refl, sym, ap, ◌∙◌, arith, append_assoc, append-nil, zero-add}
use Rattle.std.proofs.lemmas.Bool.Decides.{nat_tests}
use Rattle.rambo_resp.specs.declared.awaited.Awaited.{Awaited}
use Rattle.rambo_resp.specs.declared.awaited.Awaited.TheVariants.{Bytes, ItemFeed}
use Rattle.rambo_resp.specs.declared.fault.Fault.{Fault}
use Rattle.rambo_resp.specs.Streams.{place_of}
use Rattle.rambo_resp.specs.Rests.{fault_of}
use Rattle.rambo_resp.specs.Progresses.{after, ProgressState, Run, running, broken, stepped, step, run, Stops}
use Rattle.rambo_resp.proofs.Readings.{run_cons, run_none, run_broken}

-- a progress within an item
abbrev pub within : ProgressState → ℕ → ℕ → List ℕ → ℕ → ProgressState
within p left more item place = record { waiting = p.waiting; place = place; rest = record { awaited = Bytes left more; items = p.rest.items; item = item } }

made : ProgressState → List (List (List ℕ)) → Awaited → List ℕ → ℕ → Run
made p waiting awaited item place = running (record { waiting = waiting; place = place; rest = record { awaited = awaited; items = p.rest.items; item = item } })

byte_step : (p : ProgressState) (left more : ℕ) (item : List ℕ) (place b : ℕ)
    → step (within p left (suc more) item place) b ≡ running (within p left more (item ++ b ∷ []) (place_of (place + 1)))
unfolding made
byte_step p left more item place b =
    let some : (suc more == 0) ≡ false = grind (arith, nat_tests) in
    let down : suc more - 1 ≡ more = omega arith in
    let e : after (Bytes left (suc more)) b ≡ Some (Bytes left more) =
    ap (λ t. cond t (cond (b == 13) (Some (ItemFeed left)) None) (Some (Bytes left (suc more - 1)))) some ∙ ap (λ n. Some (Bytes left n)) down in
    ap (λ o. stepped o (within p left (suc more) item place) b) e
    ∙ ap (λ t. made p (p.waiting ++ []) (Bytes left more) (cond t item (item ++ b ∷ [])) (place_of (place + 1))) some
    ∙ ap (λ w. made p w (Bytes left more) (item ++ b ∷ []) (place_of (place + 1))) (append-nil p.waiting)

-- bytes of an item are read together
pub bytes_run : (n : ℕ) (p : ProgressState) (left more : ℕ) (item bs : List ℕ) (place : ℕ) → n ≤ length bs → (n ≡ 0 → place < 2 ^ 64)
    → run (running (within p left (n + more) item place)) bs ≡ run (running (within p left more (item ++ take n bs) (place_of (place + n)))) (drop n bs)
bytes_run zero p left more item bs place h small =
    let here : place ≡ place_of (place + 0) = omega (arith, small refl) in
    ap (λ m. run (running (within p left m item place)) bs) (zero-add more) ∙ ap (λ q. run (running (within p left more item q)) bs) here
    ∙ ap (λ t. run (running (within p left more t (place_of (place + 0)))) bs) (sym (append-nil item))
bytes_run (suc n) p left more item [] place h small = absurd (omega (arith, h))
bytes_run (suc n) p left more item (b ∷ bs) place h small =
    let up : suc n + more ≡ suc (n + more) = omega arith in
    let later : place_of (place_of (place + 1) + n) ≡ place_of (place + suc n) = omega arith in
    ap (λ m. run (running (within p left m item place)) (b ∷ bs)) up ∙ run_cons (within p left (suc (n + more)) item place) b bs
    ∙ ap (λ r. run r bs) (byte_step p left (n + more) item place b)
    ∙ bytes_run n p left more (item ++ b ∷ []) bs (place_of (place + 1)) (omega (arith, h)) (λ _. omega arith)
    ∙ ap (λ q. run (running (within p left more ((item ++ b ∷ []) ++ take n bs) q)) (drop n bs)) later
    ∙ ap (λ t. run (running (within p left more t (place_of (place + suc n)))) (drop n bs)) (append_assoc item (b ∷ []) (take n bs))

-- one byte is read
pub byte_run : (p q : ProgressState) (b : ℕ) (bs : List ℕ) → step p b ≡ running q → run (running p) (b ∷ bs) ≡ run (running q) bs
byte_run p q b bs e = run_cons p b bs ∙ ap (λ r. run r bs) e

pub byte_breaks : (p : ProgressState) (cs : List (List (List ℕ))) (fault : Fault) (b : ℕ) (bs : List ℕ) → run (running p) (b ∷ []) ≡ broken cs fault → run (running p) (b ∷ bs) ≡ broken cs fault
byte_breaks p cs fault b bs e =
    let one : step p b ≡ broken cs fault = sym (run_none (step p b)) ∙ sym (run_cons p b []) ∙ e in
    run_cons p b bs ∙ ap (λ r. run r bs) one ∙ run_broken cs fault bs

-- as many bytes as belong to an item are read
pub some_bytes : (v : ProgressState) (left more n : ℕ) (bs : List ℕ) (w : List (List (List ℕ))) (place : ℕ) (items : List (List ℕ)) (item : List ℕ)
    → v.rest.awaited ≡ Bytes left more → n ≡ min (length bs) more → 1 ≤ n
    → v.waiting ≡ w → place ≡ place_of (v.place + n) → v.rest.items ≡ items → item ≡ v.rest.item ++ take n bs
    → run (running v) bs ≡ run (running (record { waiting = w; place = place; rest = record { awaited = Bytes left (more - n); items = items; item = item } })) (drop n bs)
some_bytes v left more n bs w place items item a c small e f g h =
    let total : more ≡ n + (more - n) = omega (arith, c) in
    let old : v ≡ within v left (n + (more - n)) v.rest.item v.place =
    ap (λ x. let r : ProgressState = record { waiting = v.waiting; place = v.place; rest = record { awaited = x; items = v.rest.items; item = v.rest.item } } in r) (a ∙ ap (λ m. Bytes left m) total) in
    ap (λ x. run (running x) bs) old ∙ bytes_run n v left (more - n) v.rest.item bs v.place (omega (arith, c)) (λ z. absurd (omega (arith, z, small)))
    ∙ ap (λ x. run (running (record { waiting = v.waiting; place = x; rest = record { awaited = Bytes left (more - n); items = v.rest.items; item = v.rest.item ++ take n bs } })) (drop n bs)) (sym f)
    ∙ ap (λ x. run (running (record { waiting = x; place = place; rest = record { awaited = Bytes left (more - n); items = v.rest.items; item = v.rest.item ++ take n bs } })) (drop n bs)) e
    ∙ ap (λ x. run (running (record { waiting = w; place = place; rest = record { awaited = Bytes left (more - n); items = x; item = v.rest.item ++ take n bs } })) (drop n bs)) g
    ∙ ap (λ x. run (running (record { waiting = w; place = place; rest = record { awaited = Bytes left (more - n); items = items; item = x } })) (drop n bs)) (sym h)

-- a byte that may not stand there breaks the stream
pub sign_breaks : (v : ProgressState) (awaited : Awaited) (place b : ℕ) (fault : Fault) (o : Option Awaited) → v.rest.awaited ≡ awaited → v.place ≡ place
    → o ≡ after awaited b → o ≡ None → fault ≡ fault_of awaited b place → run (running v) (b ∷ []) ≡ broken v.waiting fault
sign_breaks v awaited place b fault o a p is none f =
    let e : after v.rest.awaited b ≡ None = ap (λ x. after x b) a ∙ sym is ∙ none in
    let told : fault_of v.rest.awaited b v.place ≡ fault = ap (λ x. fault_of x b v.place) a ∙ ap (fault_of awaited b) p ∙ sym f in
    run_cons v b [] ∙ run_none (step v b) ∙ ap (λ o. stepped o v b) e ∙ ap (broken v.waiting) told

-- bytes are the first one and the others
pub first_of : (bs : List ℕ) → 1 ≤ length bs → bs ≡ get_or bs 0 0 ∷ drop 1 bs
first_of [] h = absurd (omega (arith, h))
first_of (b ∷ bs) h = refl

pub one_on : (v w : ProgressState) (bs : List ℕ) → 1 ≤ length bs → step v (get_or bs 0 0) ≡ running w → run (running v) bs ≡ run (running w) (drop 1 bs)
one_on v w bs h e = ap (run (running v)) (first_of bs h) ∙ byte_run v w (get_or bs 0 0) (drop 1 bs) e

pub one_stops : (v w : ProgressState) (bs : List ℕ) (fault : Fault) → 1 ≤ length bs → Stops v (get_or bs 0 0 ∷ []) w fault → Stops v bs w fault
one_stops v w bs fault h e = λ k. ap (run (running v)) (first_of bs h) ∙ byte_breaks v w.waiting fault (get_or bs 0 0) (drop 1 bs) (e k)

-- when no byte is left, all are read
pub all_read : (v : ProgressState) (bs : List ℕ) → length bs ≡ 0 → run (running v) bs ≡ running v
all_read v [] h = run_none (running v)
all_read v (b ∷ bs) h = absurd (omega (arith, h))
