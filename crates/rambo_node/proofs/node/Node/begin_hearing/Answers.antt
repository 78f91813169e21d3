use Rattle.std.proofs.Common.{◌≡◌, Some, ◌∙◌, sym, ap, subst}
use Rattle.std.specs.Option.{option_copied}
use Rattle.rambo_names.specs.Refusals.{IsRefusal}
use Rattle.rambo_names.proofs.Errors.{err_kept}
use Rattle.rambo_node.specs.Changes.{refusal_of}
use Rattle.rambo_node.specs.Acts as act
use Rattle.rambo_node.specs.Acts.{delivery}
use Rattle.rambo_node.specs.declared.half.Half.TheVariants as half
use Rattle.rambo_node.specs.Halves.{judged, outline_of, IsReadyStep}
use Rattle.rambo_node.proofs.FirstHalves.{hear_ready}
use Rattle.rambo_node.proofs.Means.{refused_alike, delivers}
use Rattle.rambo_node.specs.Memory.{needs_memory}
use Rattle.rambo_node.proofs.Memory.{join_from_no_gossip}
use Rattle.rambo_node.proofs.node.Node.begin_hearing.Goals as goal

pub ready_letter-requires : goal.ready_letter-requires
ready_letter-requires g c = c.requires-raw.1.1

pub returns-clause-judged : goal.returns-clause-judged
returns-clause-judged g c = ap (λ o. judged g.Q.Quorums.system c.args.self.now.state (delivery (option_copied o))) c.in-Some.is ∙ c.in_ok-hearing.ensures.judged

pub returns-clause-ready : goal.returns-clause-ready
returns-clause-ready g c = λ m is.
    let s = g.Q.Quorums.system in
    let v = c.ready_letter.new.self in
    let l = c.in-Some.letter.now in
    let found = c.in_ok-hearing.ensures in
    let ok = ap (λ x. refusal_of s x (act.Hear l)) found.same ∙ found.judged in
    let came = ap (λ o. outline_of (option_copied o)) c.in-Some.is in
    subst (λ ch. IsReadyStep s v (outline_of (option_copied c.args.letter)) ch (half.Hear c.in_ok-hearing.hearing)) (delivers l _ m (sym (ap option_copied c.in-Some.is)) is)
    (subst (λ o. IsReadyStep s v o (act.Hear l) (half.Hear c.in_ok-hearing.hearing)) (sym came) (hear_ready s v l c.in_ok-hearing.hearing ok found.hearing))

pub returns-in_err-hearing-clause-refused : goal.returns-in_err-hearing-clause-refused
returns-in_err-hearing-clause-refused g c =
    let s = g.Q.Quorums.system in
    let x = c.args.self.now.state in
    let same = ap (λ o. judged s x (delivery (option_copied o))) c.in-Some.is in
    err_kept c.from_residual.result (IsRefusal (judged s x (delivery (option_copied c.args.letter)))) _ c.from_residual.ensures.1 (refused_alike _ _ _ same c.in_err-hearing.ensures.refused)

pub returns-in_err-hearing-clause-no_memory : goal.returns-in_err-hearing-clause-no_memory
returns-in_err-hearing-clause-no_memory g c = λ m is none.
    let l = c.in-Some.letter.now in
    let hears = delivers l _ m (sym (ap option_copied c.in-Some.is)) is in
    let kind = join_from_no_gossip l.kind (ap needs_memory hears ∙ none) in
    err_kept c.from_residual.result (λ r. refusal_of g.Q.Quorums.system c.args.self.now.state m.act ≡ Some r) _ c.from_residual.ensures.1 (ap (refusal_of g.Q.Quorums.system c.args.self.now.state) (sym hears) ∙ c.in_err-hearing.ensures.join kind)
