-- What follows where no memory is needed
use Rattle.std.proofs.Common.{◌≡◌, false, Result, Ok, Err, IsOk, IfOk, IfErr, OnOk, refl, sym}
use Rattle.std.proofs.lemmas.Bool.{true≢false}
use Rattle.rambo_gossip.specs.Kinds.{Kind}
use Rattle.rambo_gossip.specs.Kinds as kind
use Rattle.rambo_node.specs.Memory.{is_gossip}

-- what succeeds has no error of which to say anything
pub IfErr-from_ok : {T E : Type 0} (r : Result T E) (Q : E → Type 0) → IsOk r → IfErr r Q
IfErr-from_ok (Ok x) Q ok = tt
IfErr-from_ok (Err y) Q ok = absurd (true≢false (sym ok))

-- a letter that is no gossip is the wish to join
pub join_from_no_gossip : {Q : Type 0} (k : Kind Q) → is_gossip k ≡ false → k ≡ kind.Join
join_from_no_gossip kind.Join e = refl
join_from_no_gossip (kind.Gossip g) e = absurd (true≢false e)

-- what holds anyway holds where it succeeds
pub OnOk-always : {T E : Type 0} (r : Result T E) (P : Type 0) → P → OnOk r P
OnOk-always (Ok x) P p = p
OnOk-always (Err y) P p = tt

-- two things that hold where it succeeds
pub IfOk-both : {T E : Type 0} (r : Result T E) (P Q : T → Type 0) → IfOk r P → IfOk r Q → IfOk r (λ x. P x × Q x)
IfOk-both (Ok x) P Q p q = (p, q)
IfOk-both (Err y) P Q p q = tt
