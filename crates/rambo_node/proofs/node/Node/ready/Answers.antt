use Rattle.std.proofs.Common.{◌≡◌, Some, false, IfSome, refl, sym, ap, ◌∙◌, subst}
use Rattle.std.proofs.lemmas.Bool.{true≢false}
use Rattle.rambo_names.proofs.Errors.{err_kept}
use Rattle.rambo_gossip.specs.Kinds as kind
use Rattle.rambo_gossip.specs.Letters.{LetterState}
use Rattle.rambo_node.specs.Acts.{Meant, change_of, meant_by}
use Rattle.rambo_node.specs.Changes.{refusal_of}
use Rattle.rambo_node.specs.Halves.{IsReadyStep, outline_of}
use Rattle.rambo_node.specs.Memory.{needs_memory}
use Rattle.rambo_node.specs.Steps.{Change, delivered_by}
use Rattle.rambo_node.specs.declared.step.StepOf.TheVariants as step
use Rattle.rambo_node.proofs.Means.{delivers}
use Rattle.rambo_node.proofs.Memory.{join_from_no_gossip}
use Rattle.rambo_node.proofs.node.Node.ready.Goals as goal

-- what needs no memory brings at most the wish to join
brings : {Q : Type 0} (c : Change Q) (m : Meant Q) → change_of c ≡ Some m → needs_memory m.act ≡ false → IfSome (delivered_by c) (λ (l : LetterState Q). l.kind ≡ kind.Join)
brings (step.Deliver l) m is none = join_from_no_gossip l.kind (ap needs_memory (delivers l (Some l) m refl is) ∙ none)
brings _ m is none = tt

pub returns-in_err-half-clause-no_memory : goal.returns-in_err-half-clause-no_memory
returns-in_err-half-clause-no_memory g c = λ m is none.
    let means = ap (λ o. meant_by o c.args.change.now) c.letter-came.ensures ∙ is in
    err_kept c.from_residual.result (λ r. refusal_of g.Q.Quorums.system c.args.self.now.state m.act ≡ Some r) _ c.from_residual.ensures.1 (c.in_err-half.ensures.no_memory m means none)

pub returns-in_err-letter-clause-no_memory : goal.returns-in_err-letter-clause-no_memory
returns-in_err-letter-clause-no_memory g c = λ m is none.
    let joins = subst (λ o. IfSome o (λ (l : LetterState _). l.kind ≡ kind.Join)) (sym c.letter-came.ensures) (brings c.args.change.now m is none) in
    absurd (true≢false (sym (c.in_err-letter.ensures.join joins)))

pub returns-clause-prepared : goal.returns-clause-prepared
returns-clause-prepared g c = λ m is.
    let means = ap (λ o. meant_by o c.args.change.now) c.letter-came.ensures ∙ is in
    subst (λ o. IsReadyStep g.Q.Quorums.system c.begin.new.self (outline_of o) m.act c.in_ok-half.half) (sym c.in_ok-letter.ensures.same) (c.in_ok-half.ensures.ready m means)
