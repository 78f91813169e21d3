use Rattle.std.proofs.Common.{◌≡◌, sym, ap, ◌∙◌, subst}
use Rattle.std.specs.Option.{option_copied}
use Rattle.rambo_node.specs.Changes.{made_by, refusal_of}
use Rattle.rambo_node.specs.FullNodes.{beside_after}
use Rattle.rambo_node.specs.declared.half.Going.{Going}
use Rattle.rambo_node.specs.Halves.{IsReadyAdvance, IsReadyCall, IsReadyStep, event_in, event_of, letter_of, mark_in, mark_of, outline_of}
use Rattle.rambo_node.proofs.node.Node.end.Goals as goal

pub returns-in-Send-clause-node : goal.returns-in-Send-clause-node
unfolding made_by
returns-in-Send-clause-node g c = λ a given.
    let v = c.args.self.now in
    let ready = subst (IsReadyStep g.Q.Quorums.system v (outline_of (option_copied c.args.letter)) a) c.in-Send.is given in
    sym (ap (λ a. (made_by v.state a).node) ready.half.1)

pub returns-in-Send-clause-beside : goal.returns-in-Send-clause-beside
returns-in-Send-clause-beside g c = λ a given.
    let v = c.args.self.now in
    let ready = subst (IsReadyStep g.Q.Quorums.system v (outline_of (option_copied c.args.letter)) a) c.in-Send.is given in
    sym (ap (beside_after v.state v.beside) ready.half.1)

pub returns-in-Send-clause-effect : goal.returns-in-Send-clause-effect
unfolding made_by
returns-in-Send-clause-effect g c = λ a given.
    let v = c.args.self.now in
    let ready = subst (IsReadyStep g.Q.Quorums.system v (outline_of (option_copied c.args.letter)) a) c.in-Send.is given in
    sym (ap (λ a. (made_by v.state a).deed.effect) ready.half.1)

pub returns-in-Send-clause-letter : goal.returns-in-Send-clause-letter
returns-in-Send-clause-letter g c = sym (ap letter_of c.in-Send.is)

pub returns-in-Send-clause-event : goal.returns-in-Send-clause-event
returns-in-Send-clause-event g c = sym (ap event_of c.in-Send.is)

pub returns-in-Send-clause-mark : goal.returns-in-Send-clause-mark
returns-in-Send-clause-mark g c = sym (ap mark_of c.in-Send.is)

pub end_hearing-requires : goal.end_hearing-requires
end_hearing-requires g c =
    let v = c.args.self.now in
    let a = c.requires.0 in
    let ready = subst (IsReadyStep g.Q.Quorums.system v (outline_of (option_copied c.args.letter)) a) c.in-Hear.is c.requires.1 in
    (c.requires-raw.1.1.0, (a, ready.half))

pub returns-in-Hear-clause-node : goal.returns-in-Hear-clause-node
returns-in-Hear-clause-node g c = λ a given.
    let ready = subst (IsReadyStep g.Q.Quorums.system c.args.self.now (outline_of (option_copied c.args.letter)) a) c.in-Hear.is given in
    c.end_hearing.ensures.node a ready.half

pub returns-in-Hear-clause-beside : goal.returns-in-Hear-clause-beside
returns-in-Hear-clause-beside g c = λ a given.
    let ready = subst (IsReadyStep g.Q.Quorums.system c.args.self.now (outline_of (option_copied c.args.letter)) a) c.in-Hear.is given in
    c.end_hearing.ensures.beside a ready.half

pub returns-in-Hear-clause-effect : goal.returns-in-Hear-clause-effect
unfolding made_by
returns-in-Hear-clause-effect g c = λ a given.
    let v = c.args.self.now in
    let ready = subst (IsReadyStep g.Q.Quorums.system v (outline_of (option_copied c.args.letter)) a) c.in-Hear.is given in
    ap (λ e. e.effect) c.alone.ensures ∙ sym (ap (λ a. (made_by v.state a).deed.effect) ready.half.delivers)

pub returns-in-Hear-clause-letter : goal.returns-in-Hear-clause-letter
returns-in-Hear-clause-letter g c = ap (λ e. e.letter) c.alone.ensures ∙ sym (ap letter_of c.in-Hear.is)

pub end_call-effect-requires : goal.end_call-effect-requires
end_call-effect-requires g c =
    let v = c.args.self.now in
    let a = c.requires.0 in
    let ready = subst (IsReadyStep g.Q.Quorums.system v (outline_of (option_copied c.args.letter)) a) c.in-Call.is c.requires.1 in
    (c.requires-raw.1.1.0, (a, ready.accepted, subst (IsReadyCall v a) (sym c.deref_mut.ensures.value) ready.half))

pub end_advance-effect-requires : goal.end_advance-effect-requires
end_advance-effect-requires g c =
    let v = c.args.self.now in
    let a = c.requires.0 in
    let ready = subst (IsReadyStep g.Q.Quorums.system v (outline_of (option_copied c.args.letter)) a) c.in-Advance.is c.requires.1 in
    (c.requires-raw.1.1.0, (a, subst (IsReadyAdvance g.Q.Quorums.system v a) (sym c.deref_mut-in-Advance.ensures.value) ready.half))

pub do_quiet-requires : goal.do_quiet-requires
do_quiet-requires g c =
    let v = c.args.self.now in
    let ready = subst (IsReadyStep g.Q.Quorums.system v (outline_of (option_copied c.args.letter)) c.requires.0) c.in-Quiet.is c.requires.1 in
    (c.requires-raw.1.1.0, ap (refusal_of g.Q.Quorums.system v.state) (sym ready.half) ∙ ready.accepted)

pub returns-in-Call-clause-node : goal.returns-in-Call-clause-node
returns-in-Call-clause-node g c = λ a given.
    let v = c.args.self.now in
    let ready = subst (IsReadyStep g.Q.Quorums.system v (outline_of (option_copied c.args.letter)) a) c.in-Call.is given in
    c.end_call-effect.ensures.node a (subst (IsReadyCall v a) (sym c.deref_mut.ensures.value) ready.half)

pub returns-in-Call-clause-beside : goal.returns-in-Call-clause-beside
returns-in-Call-clause-beside g c = λ a given.
    let v = c.args.self.now in
    let ready = subst (IsReadyStep g.Q.Quorums.system v (outline_of (option_copied c.args.letter)) a) c.in-Call.is given in
    c.end_call-effect.ensures.beside a (subst (IsReadyCall v a) (sym c.deref_mut.ensures.value) ready.half)

pub returns-in-Call-clause-effect : goal.returns-in-Call-clause-effect
returns-in-Call-clause-effect g c = λ a given.
    let v = c.args.self.now in
    let ready = subst (IsReadyStep g.Q.Quorums.system v (outline_of (option_copied c.args.letter)) a) c.in-Call.is given in
    ap (λ e. e.effect) c.gone_on.ensures ∙ c.end_call-effect.ensures.effect a (subst (IsReadyCall v a) (sym c.deref_mut.ensures.value) ready.half)

pub returns-in-Advance-clause-node : goal.returns-in-Advance-clause-node
returns-in-Advance-clause-node g c = λ a given.
    let v = c.args.self.now in
    let ready = subst (IsReadyStep g.Q.Quorums.system v (outline_of (option_copied c.args.letter)) a) c.in-Advance.is given in
    c.end_advance-effect.ensures.node a (subst (IsReadyAdvance g.Q.Quorums.system v a) (sym c.deref_mut-in-Advance.ensures.value) ready.half)

pub returns-in-Advance-clause-beside : goal.returns-in-Advance-clause-beside
returns-in-Advance-clause-beside g c = λ a given.
    let v = c.args.self.now in
    let ready = subst (IsReadyStep g.Q.Quorums.system v (outline_of (option_copied c.args.letter)) a) c.in-Advance.is given in
    c.end_advance-effect.ensures.beside a (subst (IsReadyAdvance g.Q.Quorums.system v a) (sym c.deref_mut-in-Advance.ensures.value) ready.half)

pub returns-in-Advance-clause-effect : goal.returns-in-Advance-clause-effect
returns-in-Advance-clause-effect g c = λ a given.
    let v = c.args.self.now in
    let ready = subst (IsReadyStep g.Q.Quorums.system v (outline_of (option_copied c.args.letter)) a) c.in-Advance.is given in
    ap (λ e. e.effect) c.gone_on-in-Advance.ensures ∙ c.end_advance-effect.ensures.effect a (subst (IsReadyAdvance g.Q.Quorums.system v a) (sym c.deref_mut-in-Advance.ensures.value) ready.half)

pub returns-in-Quiet-clause-node : goal.returns-in-Quiet-clause-node
returns-in-Quiet-clause-node g c = λ a given.
    let v = c.args.self.now in
    let ready = subst (IsReadyStep g.Q.Quorums.system v (outline_of (option_copied c.args.letter)) a) c.in-Quiet.is given in
    c.do_quiet.ensures.node ∙ ap (λ a. (made_by v.state a).node) (sym ready.half)

pub returns-in-Quiet-clause-beside : goal.returns-in-Quiet-clause-beside
returns-in-Quiet-clause-beside g c = λ a given.
    let v = c.args.self.now in
    let ready = subst (IsReadyStep g.Q.Quorums.system v (outline_of (option_copied c.args.letter)) a) c.in-Quiet.is given in
    c.do_quiet.ensures.beside ∙ ap (beside_after v.state v.beside) (sym ready.half)

pub returns-in-Quiet-clause-effect : goal.returns-in-Quiet-clause-effect
returns-in-Quiet-clause-effect g c = λ a given.
    let v = c.args.self.now in
    let ready = subst (IsReadyStep g.Q.Quorums.system v (outline_of (option_copied c.args.letter)) a) c.in-Quiet.is given in
    ap (λ e. e.effect) c.alone-in-Quiet.ensures ∙ c.do_quiet.ensures.effect ∙ ap (λ a. (made_by v.state a).deed.effect) (sym ready.half)

pub returns-in-Call-clause-event : goal.returns-in-Call-clause-event
returns-in-Call-clause-event g c = ap (λ e. event_in e.going) c.gone_on.ensures ∙ c.end_call-effect.ensures.event ∙ ap (λ (w : Going _). w.deed.event) c.deref_mut.ensures.value ∙ sym (ap event_of c.in-Call.is)

pub returns-in-Call-clause-mark : goal.returns-in-Call-clause-mark
returns-in-Call-clause-mark g c = ap (λ e. mark_in e.going) c.gone_on.ensures ∙ c.end_call-effect.ensures.mark ∙ ap (λ (w : Going _). w.deed.mark) c.deref_mut.ensures.value ∙ sym (ap mark_of c.in-Call.is)

pub returns-in-Advance-clause-event : goal.returns-in-Advance-clause-event
returns-in-Advance-clause-event g c = ap (λ e. event_in e.going) c.gone_on-in-Advance.ensures ∙ c.end_advance-effect.ensures.event ∙ ap (λ (w : Going _). w.deed.event) c.deref_mut-in-Advance.ensures.value ∙ sym (ap event_of c.in-Advance.is)

pub returns-in-Advance-clause-mark : goal.returns-in-Advance-clause-mark
returns-in-Advance-clause-mark g c = ap (λ e. mark_in e.going) c.gone_on-in-Advance.ensures ∙ c.end_advance-effect.ensures.mark ∙ ap (λ (w : Going _). w.deed.mark) c.deref_mut-in-Advance.ensures.value ∙ sym (ap mark_of c.in-Advance.is)
