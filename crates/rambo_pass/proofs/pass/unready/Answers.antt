use Rattle.std.proofs.Common.{◌≡◌, length, Some, None, ap, ◌∙◌, subst}
use Rattle.rambo_names.specs.Refusals.{IsRefusal}
use Rattle.rambo_run.specs.Runs.{run}
use Rattle.rambo_run.specs.Steps.{refusal}
use Rattle.rambo_run.specs.Worlds.{node_at}
use Rattle.rambo_book.specs.Kept.{BookView, Told, state}
use Rattle.rambo_pass.proofs.Halves.{told_other, told_memory}
use Rattle.rambo_pass.proofs.pass.unready.Goals as goal

pub returns-in-OutOfMemory-clause-told : goal.returns-in-OutOfMemory-clause-told
returns-in-OutOfMemory-clause-told g c = λ st named half.
    let s = g.Q.Quorums.system in
    let b = c.args.book.now in
    let k = c.args.keeper.now in
    let f = b.founders in
    let w = run s f k.seen in
    let founded = c.facts.ensures.founders ∙ ap (λ (b : BookView _). Some b.founders) c.agree.ensures.same.0 in
    let here = subst (λ k. node_at (run s f k.seen) k.name ≡ Some k.node) c.agree.ensures.same.1 (c.facts-2.ensures.node f founded) in
    told_memory s w (state s b) k.name k.node here c.agree.ensures.node st named c.no_room.result (length b.steps) b.capacity (subst (IsRefusal (refusal s w st)) c.in-OutOfMemory.is (half f founded))
    (subst (λ (b : BookView _). Told None (length b.steps) b.capacity c.no_room.result) c.agree.ensures.same.0 c.no_room.ensures.told)

pub returns-in_default-clause-told : goal.returns-in_default-clause-told
returns-in_default-clause-told g c = λ st named half.
    let s = g.Q.Quorums.system in
    let b = c.args.book.now in
    let k = c.args.keeper.now in
    let f = b.founders in
    let founded = c.facts.ensures.founders ∙ ap (λ (b : BookView _). Some b.founders) c.agree.ensures.same.0 in
    let here = subst (λ k. node_at (run s f k.seen) k.name ≡ Some k.node) c.agree.ensures.same.1 (c.facts-2.ensures.node f founded) in
    told_other s (run s f k.seen) (state s b) k.name k.node here c.agree.ensures.node st named c.args.cause (length b.steps) b.capacity (half f founded) c.in_default.not-OutOfMemory

pub agree-requires : goal.agree-requires
agree-requires g c = assumption

pub facts-requires-2 : goal.facts-requires-2
facts-requires-2 g c = assumption
