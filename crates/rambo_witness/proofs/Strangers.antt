-- The test of a stranger decides whether a call is one
use Rattle.std.proofs.Common.{◌≡◌, ℕ, Bool, true, false, not, ◌&&◌, ◌||◌, List, Option, None, Some, is_some, refl, sym, true≢false}
use Rattle.std.specs.Option.{IsSomeAnd}
use Rattle.rambo_history.specs.declared.operation.Op.{Op}
use Rattle.rambo_history.specs.declared.event.CallId.{CallId}
use Rattle.rambo_history.specs.declared.event.Event.{Event}
use Rattle.rambo_history.specs.Calls.{is_get}
use Rattle.rambo_history.specs.Histories.{call_in, answer_in}
use Rattle.rambo_history.specs.Proper.{EverySplit}
use Rattle.rambo_atomic.specs.Tests.{is_own, is_own_op}
use Rattle.rambo_atomic.specs.declared.verdict.Rule.TheVariants.{Stranger}
use Rattle.rambo_witness.specs.Tests.{is_of}
use Rattle.rambo_witness.specs.Witnesses.{IsOf, IsOwn, Keeps}
use Rattle.rambo_witness.proofs.Due.{of-to, of-from}

both : (a b : Bool) → (a && b) ≡ true → (a ≡ true) × (b ≡ true)
both true b e = (refl, e)
both false b e = cc

op-to : (key : Option (List ℕ)) (t : Bool) (o : Option Op) → is_own_op (is_of key) t o ≡ true → IsSomeAnd o (λ op. IsOf key op × (is_get op ≡ true → t ≡ true))
op-to key t None e = true≢false (sym e)
op-to key t (Some op) e =
    let p = both (is_of key op) (not (is_get op) || t) e in
    (of-to key op p.0, answered (is_get op) t p.1)
  where
    answered : (g t : Bool) → (not g || t) ≡ true → g ≡ true → t ≡ true
    answered true t e h = e
    answered false t e h = absurd (true≢false (sym h))

op-from : (key : Option (List ℕ)) (t : Bool) (o : Option Op) → IsSomeAnd o (λ op. IsOf key op × (is_get op ≡ true → t ≡ true)) → is_own_op (is_of key) t o ≡ true
op-from key t None h = absurd h
op-from key t (Some op) h = λ i. of-from key op h.0 i && either (is_get op) t h.1 i
  where
    either : (g t : Bool) → (g ≡ true → t ≡ true) → (not g || t) ≡ true
    either true t f = f refl
    either false t f = refl

pub own-to : (h : List Event) (key : Option (List ℕ)) (c : CallId) → is_own h (is_of key) c ≡ true → IsOwn h key c
own-to h key c e = op-to key (is_some (answer_in h c)) (call_in h c) e

pub own-from : (h : List Event) (key : Option (List ℕ)) (c : CallId) → IsOwn h key c → is_own h (is_of key) c ≡ true
own-from h key c own = op-from key (is_some (answer_in h c)) (call_in h c) own

without : (o : Option Op) (P : Op → Type 0) → IsSomeAnd o (λ op. Unit {0} × P op) → IsSomeAnd o P
without None P s = absurd s
without (Some op) P s = s.1

pub own-keeps : (h : List Event) (key : Option (List ℕ)) (order : List CallId) → EverySplit (λ front c back. IsOwn h key c) order → Keeps Stranger h key order
own-keeps h None order all = λ front c back split. without (call_in h c) _ (all front c back split)
own-keeps h (Some key) order all = all
