use Rattle.std.proofs.Common.{◌≡◌, ℕ, ◌+◌, Some, cond, ap, refl, subst, sym, ◌∙◌, arith}
use Rattle.std.specs.Map.{lookup}
use Rattle.std.specs.Str.{bytes_eq}
use Rattle.std.specs.Option.{IsSome, unwrap_or}
use Rattle.rambo_atomic.specs.Tallies.{count_at, count_with}
use Rattle.rambo_atomic.proofs.Tallied.{count_at-more}
use Rattle.rambo_atomic.proofs.checker.count.Goals as goal

from_none : (n : ℕ) → n ≡ 0 + n
from_none n = omega arith

pub returns-in-Some-clause-counted : goal.returns-in-Some-clause-counted
returns-in-Some-clause-counted c q =
    let n = c.in-Some.count.now in
    let entries = c.args.counts.now.entries in
    let put = (c.get_mut.follows.holds (n + c.args.more)).3 (subst IsSome c.in-Some.ensures.value refl) in
    count_at-more entries (c.get_mut.follows.lender (n + c.args.more)).entries c.args.key.now q n c.args.more
    (ap (λ o. unwrap_or o 0) c.in-Some.ensures.value) (put.0 (record c.args.key { now = q }))

pub returns-clause-counted : goal.returns-clause-counted
returns-clause-counted c q =
    let key = c.args.key.now in
    let same = c.get_mut.follows.holds-at-none in
    count_at-more c.get_mut.follows.lender-at-none.entries c.insert.new.self.entries key q 0 c.args.more
    (ap (λ o. unwrap_or o 0) c.in_default.ensures.value ∙ ap (λ m. count_at m.entries key) (sym same))
    (c.in_ok-insert.ensures.updates.0 (record c.args.key { now = q })
    ∙ ap (λ n. cond (bytes_eq key q) (Some n) (lookup (λ k. bytes_eq q k.now) c.get_mut.follows.lender-at-none.entries)) (from_none c.args.more))
    ∙ ap (λ m. count_with m.entries key c.args.more q) same
