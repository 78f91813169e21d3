use Rattle.std.proofs.Common.{◌++◌, None, sym, ap, ◌∙◌, append-nil}
use Rattle.rambo_names.specs.Names.{names}
use Rattle.rambo_names.specs.Weights.{members_of}
use Rattle.rambo_client.specs.Calls.{answered}
use Rattle.rambo_client.specs.Courses.{history_of, others, phase}
use Rattle.rambo_client.proofs.Beginnings.{begins-itself, begins-phase, ends_answered, ends_early}
use Rattle.rambo_client.proofs.client.Client.finish.Goals as goal

pub returns-in_err-advance : goal.returns-in_err-advance
returns-in_err-advance g c = λ k took named.
    let peers = others c.args.self.now.name (names (members_of c.args.self.now.founders)) in
    let half = phase k peers c.args.id.now in
    let b = c.in_err-advance.ensures k took named in
    (None, ends_early c.from_residual.result _ (g.C.Cluster.took c.advance.new.cluster) half (phase half peers c.args.id.now) _ _ c.from_residual.ensures.1 (b.0, b.1, b.2, b.3 ∙ sym (append-nil (history_of k))) (begins-phase half peers c.args.id.now))

pub returns-in_err-advance-2 : goal.returns-in_err-advance-2
returns-in_err-advance-2 g c = λ k took named.
    let peers = others c.args.self.now.name (names (members_of c.args.self.now.founders)) in
    let half = phase k peers c.args.id.now in
    let whole = phase half peers c.args.id.now in
    let early = c.in_ok-advance.ensures k took named in
    let b = c.in_err-advance-2.ensures half early.0 named in
    (c.in_ok-advance.field-0, ends_early c.from_residual-in_err-advance-2.result _ (g.C.Cluster.took c.advance-2.new.cluster) whole whole _ _ c.from_residual-in_err-advance-2.ensures.1 (b.0, b.1, b.2, b.3 ∙ early.1) (begins-itself whole))

pub returns : goal.returns
returns g c = λ k took named.
    let peers = others c.args.self.now.name (names (members_of c.args.self.now.founders)) in
    let half = phase k peers c.args.id.now in
    let early = c.in_ok-advance.ensures k took named in
    let end = c.in_ok-advance-2.ensures half early.0 named in
    (c.in_ok-advance.field-0, ends_answered c.ok_or.result _ c.args.id.now _ (g.C.Cluster.took c.advance-2.new.cluster) (phase half peers c.args.id.now) (history_of k ++ answered c.args.id.now c.in_ok-advance.field-0) c.ok_or.ensures.value (end.0, end.1 ∙ ap (λ h. h ++ answered c.args.id.now c.in_ok-advance-2.field-0) early.1))
