-- Calls of a stream that are made again
use Rattle.std.proofs.Common.{◌≡◌, ◌<◌, ◌+◌, ℕ, suc, List, ◌++◌, take, length, Option, None, Some, Result, Ok, Err, IfOk, OnErr, ap, ◌∙◌, append-nil, subst, arith}
use Rattle.std.specs.declared.io.Error.{Error}
use Rattle.std.specs.Io.KnownBytes.{Keeps, Consumes, Appends, IsAtEnd, ReadConsumes, WriteAppends}
use Rattle.std.proofs.KnownBytes.{Keeps-trans}
use Rattle.rambo_atomic.specs.Streams.{IsInterruption, AreInterrupted}

-- one call more
pub interrupted_again : {T : Type 0} (gives : T → Result ℕ Error → T → Type 0) (n m : ℕ) (old between new : T) (answer : Result ℕ Error)
    → AreInterrupted gives n old between → gives between answer new → IsInterruption answer → m ≡ n + 1 → AreInterrupted gives m old new
interrupted_again gives n m old between new answer before given is e =
    let count : suc n ≡ m = omega (arith, e) in
    subst (λ k. AreInterrupted gives k old new) count (between, answer, before, given, is)

-- it kept what was known
pub read_kept : (a b c : Option (List ℕ)) (answer : Result ℕ Error) (into : List ℕ) → Keeps a b → ReadConsumes b c answer into → OnErr answer (Keeps a c)
read_kept a b c (Ok n) into f g = tt
read_kept a b c (Err e) into f g = Keeps-trans a b c f g

pub write_kept : (a b c : Option (List ℕ)) (answer : Result ℕ Error) (bytes : List ℕ) → Keeps a b → WriteAppends b c answer bytes → OnErr answer (Keeps a c)
write_kept a b c (Ok n) bytes f g = tt
write_kept a b c (Err e) bytes f g = Keeps-trans a b c f g

pub interruption_fails : (answer : Result ℕ Error) (P : Type 0) → IsInterruption answer → OnErr answer P → P
interruption_fails (Ok n) P is p = absurd is
interruption_fails (Err e) P is p = p

-- the last call after these
kept-Consumes : (a b c : Option (List ℕ)) (bs : List ℕ) → Keeps a b → Consumes b c bs → Consumes a c bs
kept-Consumes None b c bs f g = tt
kept-Consumes (Some p) None c bs f g = absurd f
kept-Consumes (Some p) (Some q) None bs f g = absurd g
kept-Consumes (Some p) (Some q) (Some r) bs f g = subst (λ x. x ≡ bs ++ r) f g

kept-Appends : (a b c : Option (List ℕ)) (bs : List ℕ) → Keeps a b → Appends b c bs → Appends a c bs
kept-Appends None b c bs f g = tt
kept-Appends (Some p) None c bs f g = absurd f
kept-Appends (Some p) (Some q) None bs f g = absurd g
kept-Appends (Some p) (Some q) (Some r) bs f g = subst (λ x. r ≡ x ++ bs) f g

pub read_gave : (a b c : Option (List ℕ)) (answer : Result ℕ Error) (into : List ℕ) → Keeps a b → ReadConsumes b c answer into → IfOk answer (λ n. Consumes a c (take n into))
read_gave a b c (Ok n) into f g = kept-Consumes a b c (take n into) f g.0
read_gave a b c (Err e) into f g = tt

pub read_ends : (b c : Option (List ℕ)) (answer : Result ℕ Error) (into : List ℕ) → 0 < length into → ReadConsumes b c answer into → IfOk answer (λ n. n ≡ 0 → IsAtEnd c)
read_ends b c (Ok n) into room g = λ none. g.1 none room
read_ends b c (Err e) into room g = tt

pub write_took : (a b c : Option (List ℕ)) (answer : Result ℕ Error) (bytes : List ℕ) → Keeps a b → WriteAppends b c answer bytes → IfOk answer (λ n. Appends a c (take n bytes))
write_took a b c (Ok n) bytes f g = kept-Appends a b c (take n bytes) f g
write_took a b c (Err e) bytes f g = tt

-- a write of no byte leaves what was known
pub none_taken : (a b : Option (List ℕ)) (n : ℕ) (bytes : List ℕ) → n ≡ 0 → Appends a b (take n bytes) → Keeps a b
none_taken None b n bytes none g = tt
none_taken (Some p) None n bytes none g = absurd g
none_taken (Some p) (Some q) n bytes none g = g ∙ ap (λ k. p ++ take k bytes) none ∙ append-nil p
