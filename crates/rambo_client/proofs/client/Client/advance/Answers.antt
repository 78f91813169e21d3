use Rattle.std.proofs.Common.{ℕ, fold, sym, ◌∙◌, append-nil, subst}
use Rattle.rambo_names.specs.Names.{names}
use Rattle.rambo_names.specs.Weights.{members_of}
use Rattle.rambo_node.specs.declared.step.StepOf.TheVariants as step
use Rattle.rambo_client.specs.Calls.{answered}
use Rattle.rambo_client.specs.Courses.{Course, Ends, exchanged, history_of, others, stepped}
use Rattle.rambo_client.proofs.Beginnings.{begins-stepped, ends_early}
use Rattle.rambo_client.proofs.client.Client.advance.Goals as goal

pub returns-in_err-ask_all : goal.returns-in_err-ask_all
returns-in_err-ask_all g c = λ k took named.
    let round : ℕ → Course = λ n. fold (exchanged n) k (others c.args.self.now.name (names (members_of c.args.self.now.founders))) in
    let id = c.args.id.now in
    subst (λ n. Ends c.from_residual.result (g.C.Cluster.took c.ask_all.new.cluster) (stepped (round n) (step.Advance id)) (history_of k) (answered id)) (sym named)
    (ends_early c.from_residual.result _ (g.C.Cluster.took c.ask_all.new.cluster) (round c.args.self.now.name) (stepped (round c.args.self.now.name) (step.Advance id)) (history_of k) (answered id)
    c.from_residual.ensures.1 (c.in_err-ask_all.ensures k took) (begins-stepped (round c.args.self.now.name) (step.Advance id)))

pub returns : goal.returns
returns g c = λ k took named.
    let round : ℕ → Course = λ n. fold (exchanged n) k (others c.args.self.now.name (names (members_of c.args.self.now.founders))) in
    let id = c.args.id.now in
    let asked = c.in_ok-ask_all.ensures k took in
    subst (λ n. Ends c.go_on.result (g.C.Cluster.took c.go_on.new.self) (stepped (round n) (step.Advance id)) (history_of k) (answered id)) (sym named)
    (subst (λ h. Ends c.go_on.result (g.C.Cluster.took c.go_on.new.self) (stepped (round c.args.self.now.name) (step.Advance id)) h (answered id)) (asked.1 ∙ append-nil (history_of k))
    (c.go_on.ensures (round c.args.self.now.name) asked.0))
