use Rattle.std.proofs.Common.{◌≡◌, ℕ, [], All, Some, IfSome, sym, ap, ◌∙◌, subst}
use Rattle.rambo_names.proofs.Sizes.{up_fits, back_fits}
use Rattle.rambo_run.specs.Runs.{run}
use Rattle.rambo_run.specs.Worlds.{node_at}
use Rattle.rambo_run.proofs.NodeLists.{node_named}
use Rattle.rambo_node.specs.declared.step.StepOf.TheVariants as step
use Rattle.rambo_node.specs.Acts.{Meant}
use Rattle.rambo_run.specs.Steps.{meant_in}
use Rattle.rambo_book.specs.Readying.{IsIn}
use Rattle.rambo_book.specs.Kept.{IsMailOf}
use Rattle.rambo_pick.specs.Picking.{first_of, candidates}
use Rattle.rambo_turn.specs.Turns.{IsQuiet}
use Rattle.rambo_turn.proofs.Picks.{first_is}
use Rattle.rambo_turn.proofs.Turned.{picked_own, picked_in, picked_quiet}
use Rattle.rambo_turn.proofs.picking.pick.Goals as goal

pub returns-clause-first : goal.returns-clause-first
returns-clause-first g c = λ f e.
    let s = g.Q.Quorums.system in
    let k = c.args.keeper.now in
    let here = c.facts.ensures.node f e in
    let w = run s f k.seen in
    let own = node_named s f k.seen k.name k.node here in
    c.first_step.ensures ∙ (λ i. first_of s (c.node.ensures i).state (candidates (c.node.ensures i).state (c.tray.ensures i)))
    ∙ sym (first_is s w k.node (ap (node_at w) own ∙ here) k.tray (subst (λ n. All (IsMailOf w n) k.tray) (sym own) (c.facts.ensures.tray f e)))

pub returns-clause-own : goal.returns-clause-own
returns-clause-own g c = λ f e.
    let s = g.Q.Quorums.system in
    let k = c.args.keeper.now in
    let own = node_named s f k.seen k.name k.node (c.facts.ensures.node f e) in
    subst (λ o. IfSome o (λ st. (m : Meant _) → meant_in [] st ≡ Some m → m.name ≡ k.name)) (sym (c.first_step.ensures ∙ (λ i. first_of s (c.node.ensures i).state (candidates (c.node.ensures i).state (c.tray.ensures i)))))
    (picked_own s k.name k.node k.tray own)

pub returns-clause-in_tray : goal.returns-clause-in_tray
returns-clause-in_tray g c =
    let s = g.Q.Quorums.system in
    let k = c.args.keeper.now in
    subst (λ o. IfSome o (λ st. (number : ℕ) → st ≡ step.Deliver number → IsIn k.tray number)) (sym (c.first_step.ensures ∙ (λ i. first_of s (c.node.ensures i).state (candidates (c.node.ensures i).state (c.tray.ensures i)))))
    (picked_in s k.node k.tray)

pub returns-clause-quiet : goal.returns-clause-quiet
returns-clause-quiet g c =
    let s = g.Q.Quorums.system in
    let k = c.args.keeper.now in
    subst (λ o. IfSome o IsQuiet) (sym (c.first_step.ensures ∙ (λ i. first_of s (c.node.ensures i).state (candidates (c.node.ensures i).state (c.tray.ensures i))))) (picked_quiet s k.node k.tray)

pub first_step-requires : goal.first_step-requires
first_step-requires g c = back_fits _ _ _ (up_fits _ _ _ c.requires-raw.1.1.1)

pub node-requires : goal.node-requires
node-requires g c = (c.requires-raw.1.1.1, back_fits _ _ _ (up_fits _ _ _ c.requires-raw.1.1.1))
