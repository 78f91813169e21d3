use Rattle.std.proofs.Common.{[], ◌∷◌, fold, refl, sym, ap, ◌∙◌, append-nil, subst}
use Rattle.rambo_names.specs.Names.{names}
use Rattle.rambo_names.specs.Weights.{members_of}
use Rattle.rambo_client.specs.Courses.{IsBeginning, exchanged, history_of, others}
use Rattle.rambo_client.proofs.Beginnings.{begins-round, ends_early, round-split}
use Rattle.rambo_client.proofs.client.Client.ask_all.Goals as goal

pub loop-peer-init : goal.loop-peer-init
loop-peer-init g c = λ k took.
    (k, took, ap (λ ns. fold (exchanged c.args.self.now.name) k (others c.args.self.now.name ns)) (c.into_iter-peer-iterator.ensures.into_iter_gives ∙ c.iter-peer-items.ensures ∙ ap names c.members.ensures), refl)

pub loop-peer-preserved : goal.loop-peer-preserved
loop-peer-preserved g c = λ k took.
    let name = c.args.self.now.name in
    let i = c.loop-peer.invariant k took in
    let next = fold (exchanged name) i.0 (others name (c.in-Some.peer ∷ [])) in
    let asked = c.in_ok-ask.ensures i.0 i.1 in (
      next,
      asked.0,
      round-split name i.0 c.in-Some.peer c.next.new.self ∙ ap (λ ns. fold (exchanged name) i.0 (others name ns)) (sym c.in-Some.ensures.steps) ∙ i.2,
      asked.1 ∙ append-nil (history_of i.0) ∙ i.3,
    )

pub returns-in_err-ask : goal.returns-in_err-ask
returns-in_err-ask g c = λ k took.
    let name = c.args.self.now.name in
    let i = c.loop-peer.invariant k took in
    let next = fold (exchanged name) i.0 (others name (c.in-Some.peer ∷ [])) in
    let all = fold (exchanged name) k (others name (names (members_of c.args.self.now.founders))) in
    let b = c.in_err-ask.ensures i.0 i.1 in
    ends_early c.from_residual.result _ (g.C.Cluster.took c.ask.new.cluster) next all (history_of k) (λ done. []) c.from_residual.ensures.1 (b.0, b.1, b.2, b.3 ∙ i.3)
    (subst (IsBeginning next)
    (round-split name i.0 c.in-Some.peer c.next.new.self ∙ ap (λ ns. fold (exchanged name) i.0 (others name ns)) (sym c.in-Some.ensures.steps) ∙ i.2)
    (begins-round name next (others name c.next.new.self)))

pub returns : goal.returns
returns g c = λ k took.
    let name = c.args.self.now.name in
    let i = c.loop-peer.invariant k took in
    let whole = ap (λ ns. fold (exchanged name) i.0 (others name ns)) (sym c.in-None.ensures.steps.0) ∙ i.2 in
    (subst (g.C.Cluster.took c.loop-peer.cluster) whole i.1, ap history_of (sym whole) ∙ i.3 ∙ sym (append-nil (history_of k)))
