use Rattle.std.proofs.Common.{Some, sym, ap, ◌∙◌}
use Rattle.std.proofs.lemmas.Result.{IfOk-weaker}
use Rattle.rambo_gossip.specs.Letters.{letter_with}
use Rattle.rambo_node.specs.Changes.{made_by}
use Rattle.rambo_node.specs.Letters.{letter_for}
use Rattle.rambo_node.proofs.Telling.{with_own}
use Rattle.rambo_node.proofs.FirstHalves.{all_lack}
use Rattle.rambo_node.proofs.Memory.{OnOk-always}
use Rattle.rambo_node.proofs.node.Node.letter_for.Goals as goal

pub returns-clause-letter : goal.returns-clause-letter
unfolding made_by
returns-clause-letter g c =
    let x = c.args.self.now.state in
    let l = letter_for x c.args.to in
    IfOk-weaker c.letter_of.result _ _
    (λ m is. ap Some (sym (is ∙ ap (letter_with l) (c.in_ok-copies.ensures.all ∙ ap (λ v. v.state.registers) c.self.view_is) ∙ with_own x c.args.to))) c.letter_of.ensures.same

pub may_send-requires : goal.may_send-requires
may_send-requires g c = assumption

pub letter_of-requires : goal.letter_of-requires
letter_of-requires g c = assumption

pub pack-requires : goal.pack-requires
pack-requires g c = assumption

pub returns-clause-judged : goal.returns-clause-judged
returns-clause-judged g c = OnOk-always c.letter_of.result _ c.in_ok-may_send.ensures.ok

pub returns-clause-refused : goal.returns-clause-refused
returns-clause-refused g c = all_lack c.letter_of.result c.in_ok-may_send.ensures.ok c.letter_of.ensures.refused
