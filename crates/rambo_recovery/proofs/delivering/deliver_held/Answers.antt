use Rattle.std.proofs.Common.{None, length, ap, sym, subst}
use Rattle.rambo_names.specs.Refusals.{IsRefusal}
use Rattle.rambo_node.specs.declared.step.StepOf.TheVariants as step
use Rattle.rambo_node.specs.Steps.{delivered_by}
use Rattle.rambo_run.specs.Runs.{run}
use Rattle.rambo_run.specs.Steps.{refusal}
use Rattle.rambo_run.proofs.Lists.{some_inj}
use Rattle.rambo_book.specs.Kept.{BookView, KeeperView, Told, state}
use Rattle.rambo_book.specs.Readying.{IsIn}
use Rattle.rambo_recovery.proofs.Owning.{means_none, told_of}
use Rattle.rambo_recovery.proofs.delivering.deliver_held.Goals as goal

pub ready-requires : goal.ready-requires
ready-requires g c = (
  c.requires-raw.1.1.1.0,
  (
    λ f founded m e. means_none c.args.number m _ e,
    λ number e. subst (λ (k : KeeperView _). IsIn k.tray number) (sym c.see_all.ensures.keeper) (subst (IsIn c.args.keeper.now.tray) (some_inj _ _ (ap delivered_by e)) c.requires),
  ),
)

pub returns-in-Err-clause-told : goal.returns-in-Err-clause-told
returns-in-Err-clause-told g c =
    let s = g.Q.Quorums.system in
    let b = c.args.book.now in
    let st = step.Deliver c.args.number in
    told_of s (state s b) st c.in-Err.cause c.unready.result (length b.steps) b.capacity
    (subst (λ (k : KeeperView _). IsRefusal (refusal s (run s b.founders k.seen) st) c.in-Err.cause) c.see_all.ensures.keeper (c.in-Err.ensures.refused b.founders c.facts.ensures.founders))
    c.unready.ensures.rule
    (λ short. subst (λ (b : BookView _). Told None (length b.steps) b.capacity c.unready.result) c.see_all.ensures.book (c.unready.ensures.memory short))

pub forget-requires : goal.forget-requires
forget-requires g c = c.requires-raw.1.1.1.0
