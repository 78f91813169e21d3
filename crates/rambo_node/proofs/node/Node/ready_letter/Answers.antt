use Rattle.std.proofs.Common.{◌≡◌, Option, None, Some, IfOk, refl, sym, ap, ◌∙◌, subst}
use Rattle.std.proofs.lemmas.Bool.{true≢false}
use Rattle.std.proofs.lemmas.Result.{IfErr-weaker}
use Rattle.rambo_names.specs.declared.refusal.Refusal.{Refusal}
use Rattle.rambo_names.specs.declared.refusal.Refusal.TheVariants.{OutOfMemory}
use Rattle.rambo_names.specs.Quorums.{QuorumSystem}
use Rattle.rambo_names.specs.Refusals.{IsRefusal}
use Rattle.rambo_names.proofs.Errors.{err_kept}
use Rattle.std.specs.FinMap as map
use Rattle.rambo_gossip.specs.Letters.{LetterState, kind_with, letter_with}
use Rattle.rambo_node.specs.Changes.{refusal_of}
use Rattle.rambo_node.specs.Nodes.{NodeState}
use Rattle.rambo_node.specs.Prepared.{IsHearing}
use Rattle.rambo_node.proofs.Memory.{IfErr-from_ok, OnOk-always}
use Rattle.rambo_node.proofs.Readiness.{copies_judged}
use Rattle.rambo_node.specs.Acts as act
use Rattle.rambo_node.proofs.Outlines.{letter_again}
use Rattle.rambo_node.proofs.node.Node.ready_letter.Goals as goal

pub may_hear-requires : goal.may_hear-requires
may_hear-requires g c = c.requires-raw.1.1

pub ready_hear-requires : goal.ready_hear-requires
ready_hear-requires g c = (c.requires-raw.1.1, c.in_ok-may_hear.ensures.ok)

-- a letter is refused as its outline is
abbrev alike : {Q : Type 0} (s : QuorumSystem Q) (x : NodeState Q) (l o : LetterState Q) → o ≡ letter_with l map.empty → refusal_of s x (act.Hear o) ≡ refusal_of s x (act.Hear l)
alike s x l o is = ap (λ (n : LetterState _). refusal_of s x (act.Hear n)) is ∙ copies_judged s x l map.empty

-- what is told of the one is told of the other
told_as : {o p : Option Refusal} {r : Refusal} → o ≡ p → o ≡ Some r → IsRefusal p r
told_as {r = r} same is = subst (λ p. IsRefusal p r) (sym (sym same ∙ is)) refl

pub returns-in_err-may_hear-clause-refused : goal.returns-in_err-may_hear-clause-refused
returns-in_err-may_hear-clause-refused g c =
    let s = g.Q.Quorums.system in
    let x = c.args.self.now.state in
    err_kept c.from_residual.result (IsRefusal (refusal_of s x (act.Hear c.args.letter.now))) _ c.from_residual.ensures.1
    (told_as (alike s x c.args.letter.now _ c.outline-outline.ensures) c.in_err-may_hear.ensures.refused)

pub returns-clause-judged : goal.returns-clause-judged
returns-clause-judged g c =
    OnOk-always c.ready_hear.result _ (sym (alike g.Q.Quorums.system c.args.self.now.state c.args.letter.now _ c.outline-outline.ensures) ∙ c.in_ok-may_hear.ensures.ok)

pub returns-clause-refused : goal.returns-clause-refused
returns-clause-refused g c =
    let none = sym (alike g.Q.Quorums.system c.args.self.now.state c.args.letter.now _ c.outline-outline.ensures) ∙ c.in_ok-may_hear.ensures.ok in
    IfErr-weaker c.ready_hear.result _ _ (λ r e. subst (λ o. IsRefusal o r) (sym none) e) c.ready_hear.ensures.refused

-- and where nothing else refuses it, want of memory is told
lacks : {p : Option Refusal} {r : Refusal} → p ≡ None → r ≡ OutOfMemory → IsRefusal p r
lacks {r = r} none out = subst (λ p. IsRefusal p r) (sym none) out

pub returns-in_err-copies-clause-refused : goal.returns-in_err-copies-clause-refused
returns-in_err-copies-clause-refused g c =
    let none = sym (alike g.Q.Quorums.system c.args.self.now.state c.args.letter.now _ c.outline-outline.ensures) ∙ c.in_ok-may_hear.ensures.ok in
    err_kept c.from_residual-in_err-copies.result (IsRefusal (refusal_of g.Q.Quorums.system c.args.self.now.state (act.Hear c.args.letter.now))) _ c.from_residual-in_err-copies.ensures.1
    (lacks none c.in_err-copies.ensures.refused)

pub returns-clause-hearing : goal.returns-clause-hearing
returns-clause-hearing g c =
    subst (λ l. IfOk c.ready_hear.result (IsHearing c.ready_hear.new.self l))
    ((λ i. letter_with (c.outline-outline.ensures i) (c.in_ok-copies.ensures.same i)) ∙ letter_again c.args.letter.now map.empty) c.ready_hear.ensures.hearing

-- a wish to join is one whatever its copies
pub returns-clause-join : goal.returns-clause-join
returns-clause-join g c = λ is.
    IfErr-from_ok c.ready_hear.result _ (c.ready_hear.ensures.join (ap (λ (l : LetterState _). l.kind) c.outline-outline.ensures ∙ ap (λ k. kind_with k map.empty) is))

pub returns-in_err-copies-clause-join : goal.returns-in_err-copies-clause-join
returns-in_err-copies-clause-join g c = λ is. absurd (true≢false (sym (c.in_err-copies.ensures.join is)))
