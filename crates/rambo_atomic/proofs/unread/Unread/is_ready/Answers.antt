use Rattle.std.proofs.Common.{◌≡◌, ◌⊎◌, ◌≤◌, ◌<◌, ℕ, Bool, true, false, nat_lt, inl, inr, subst, sym, ap, arith}
use Rattle.std.proofs.lemmas.Bool.Decides.{nat_tests}
use Rattle.std.specs.Bool.{MatchBool}
use Rattle.rambo_atomic.specs.Unreads.{UnreadState, HasFeed}
use Rattle.rambo_atomic.proofs.Feeds.{feed_held, no_feed_held}
use Rattle.rambo_atomic.proofs.unread.Unread.is_ready.Goals as goal

pub returns-then-self : goal.returns-then-self
returns-then-self c =
    let u = c.self.inside in
    let test : nat_lt u.start u.lines ≡ true = grind (arith, nat_tests) in
    let some : 0 < u.lines = omega arith in
    rw test (inl (subst (λ s. HasFeed s.held) c.self.view_is (feed_held u.bytes.items u.start u.lines c.if-self.true c.self.invariant.1 (c.self.invariant.2 some))))

no_line : (u : UnreadState) (ended : Bool) → u.ended ≡ ended → ¬ (HasFeed u.held) → MatchBool ended (HasFeed u.held ⊎ (u.ended ≡ true)) ((¬ (HasFeed u.held)) × (u.ended ≡ false))
no_line u true is none = inr is
no_line u false is none = (none, is)

pub returns-else-self : goal.returns-else-self
returns-else-self c =
    let u = c.self.inside in
    let used : u.lines ≤ u.start = grind (arith, nat_tests) in
    no_line c.args.self.now u.ended (sym (ap (λ s. s.ended) c.self.view_is)) (subst (λ s. ¬ (HasFeed s.held)) c.self.view_is (no_feed_held u.bytes.items u.start u.lines used c.self.invariant.3))
