-- The places of a client's calls
use Rattle.std.proofs.Common.{◌≡◌, ◌≢◌, ℕ, zero, suc, ◌<◌, ◌≤◌, List, [], ◌∷◌, length, take, arith}
use Rattle.std.proofs.lemmas.List.Elements.{All-from_recursion, recursion_from_All}
use Rattle.rambo_history.specs.declared.event.CallId.{CallId}
use Rattle.rambo_pass.specs.declared.mine.Entry.{Entry}
use Rattle.rambo_pass.specs.Passes.{entry_at, IsNone}

-- the next one isn't that of the call either
pub none_more : (es : List Entry) (id : CallId) (at : ℕ) → at < length es → (entry_at es at).id ≢ id → IsNone (take at es) id → IsNone (take (suc at) es) id
none_more [] id at lt other none = absurd (omega (arith, lt))
none_more (e ∷ es) id zero lt other none = All-from_recursion (λ (e : Entry). e.id ≢ id) (e ∷ []) (other, tt)
none_more (e ∷ es) id (suc at) lt other none =
    let r = recursion_from_All (λ (e : Entry). e.id ≢ id) (e ∷ take at es) none in
    let rest = none_more es id at (omega (arith, lt)) other (All-from_recursion (λ (e : Entry). e.id ≢ id) (take at es) r.1) in
    All-from_recursion (λ (e : Entry). e.id ≢ id) (e ∷ take (suc at) es) (r.0, recursion_from_All (λ (e : Entry). e.id ≢ id) (take (suc at) es) rest)

-- none is
pub none_of_all : (es : List Entry) (id : CallId) (at : ℕ) → length es ≤ at → IsNone (take at es) id → IsNone es id
none_of_all [] id at le none = λ k d lt. absurd (omega (arith, lt))
none_of_all (e ∷ es) id zero le none = absurd (omega (arith, le))
none_of_all (e ∷ es) id (suc at) le none =
    let r = recursion_from_All (λ (e : Entry). e.id ≢ id) (e ∷ take at es) none in
    let rest = none_of_all es id at (omega (arith, le)) (All-from_recursion (λ (e : Entry). e.id ≢ id) (take at es) r.1) in
    All-from_recursion (λ (e : Entry). e.id ≢ id) (e ∷ es) (r.0, recursion_from_All (λ (e : Entry). e.id ≢ id) es rest)
