use Rattle.std.proofs.Common.{Some, cond, ap, ◌∙◌, subst}
use Rattle.std.specs.Map.{lookup}
use Rattle.std.specs.Str.{bytes_eq}
use Rattle.rambo_atomic.specs.Verdicts.{IsVerdict}
use Rattle.rambo_check.specs.Verdicts.{order_of}
use Rattle.rambo_check.proofs.Judged.{right_on}
use Rattle.rambo_check.proofs.judging.judge_key.Goals as goal

pub returns-clause-right : goal.returns-clause-right
returns-clause-right c =
    let s = c.args.evidence.now in
    let key = c.args.key.now in
    let v = c.in_ok-verdict.verdict in
    let own : IsVerdict s.events key (order_of s key) v
    = subst (λ o. IsVerdict s.events key o v) c.order.ensures
    (subst (λ k. IsVerdict s.events k c.order.result.now v) c.as_slice.ensures
    (subst (λ h. IsVerdict h c.as_slice.result.now c.order.result.now v) c.requires.history c.in_ok-verdict.ensures.verdict)) in
    right_on (λ q. IsVerdict s.events q (order_of s q)) key v (λ q. lookup (bytes_eq q) c.args.verdicts.now.entries) (λ q. lookup (bytes_eq q) c.insert.new.self.entries)
    (λ q. c.in_ok-insert.ensures.updates.0 q ∙ ap (λ k. cond (bytes_eq k q) (Some v) (lookup (bytes_eq q) c.args.verdicts.now.entries)) c.in_ok-clone.ensures.cases) own c.requires.right
