use Rattle.std.proofs.Common.{◌∙◌, refl, sym, ap}
use Rattle.rambo_names.specs.Refusals.{least}
use Rattle.rambo_node.specs.Changes.{made_by}
use Rattle.rambo_node.specs.Acts as act
use Rattle.rambo_run.specs.Steps.{causes_at, turn_at}
use Rattle.rambo_run.specs.Worlds.{node_at}
use Rattle.rambo_world.specs.Kept.{with_node}
use Rattle.rambo_names.proofs.Errors.{err_kept, on_err}
use Rattle.rambo_names.proofs.Sizes.{up_fits, back_fits, next}
use Rattle.rambo_world.proofs.Changing.{changed_world, same_world}
use Rattle.rambo_world.proofs.Lent.{lent_state, lent_moved, lent_same, lent_grows}
use Rattle.rambo_run.proofs.QuietKeeps.{quiet_keeps}
use Rattle.rambo_world.proofs.Stepping.{kept_stays, letters_stay}
use Rattle.rambo_world.proofs.state.State.quiet.Goals as goal

pub node_mut-requires : goal.node_mut-requires
node_mut-requires g c =
    let nodes = back_fits _ _ _ (next _ _ _ _ (next _ _ _ _ (next _ _ _ _ (up_fits _ _ _ c.requires-raw.1.1)))) in
    (nodes, back_fits _ _ _ (up_fits _ _ _ nodes))

pub quietly-requires : goal.quietly-requires
quietly-requires g c =
    let nodes = back_fits _ _ _ (next _ _ _ _ (next _ _ _ _ (next _ _ _ _ (up_fits _ _ _ c.requires-raw.1.1)))) in
    back_fits _ _ _ (up_fits _ _ _ nodes)

pub invariant_of-self : goal.invariant_of-self
invariant_of-self g c =
    let ks = c.self.inside.nodes in
    let n = c.args.name in
    let lent = c.node_mut in
    let same = c.in_err-effect.ensures.err in
    kept_stays ks (with_node ks n c.quietly.new.self)
    (lent_grows ks n lent.result.now c.quietly.new.self lent.ensures.kept lent.ensures.named.0 (ap (λ y. y.name) same) (ap (λ y. y.registers) same)) c.self.inside.letters c.self.inside.merged c.self.invariant

pub returns-in_err-effect-clause-err : goal.returns-in_err-effect-clause-err
returns-in_err-effect-clause-err g c =
    let ks = c.self.inside.nodes in
    let n = c.args.name in
    let lent = c.node_mut in
    on_err c.from_residual.result
    (same_world ks (with_node ks n c.quietly.new.self) c.self.inside.letters c.self.inside.chronicle.events _ c.self.inside.chronicle.marks _
    (lent_same ks n lent.result.now c.quietly.new.self lent.ensures.kept lent.ensures.named.0 c.in_err-effect.ensures.err) c.self.invariant.sent refl refl
    ∙ c.self.view_is)

pub returns-in_err-effect-clause-refused : goal.returns-in_err-effect-clause-refused
returns-in_err-effect-clause-refused g c =
    let s = g.Q.Quorums.system in
    let ks = c.self.inside.nodes in
    let n = c.args.name in
    let lent = c.node_mut in
    let ch = act.Quietly c.args.quiet in
    err_kept c.from_residual.result _ _ c.from_residual.ensures.1
    (ap (λ w. least (causes_at s (node_at w n) ch)) (sym c.self.view_is) ∙ ap (λ o. least (causes_at s o ch)) (lent_state ks n lent.result.now lent.result.now lent.ensures.kept lent.ensures.named.0) ∙ c.in_err-effect.ensures.refused)

pub invariant_of-self-2 : goal.invariant_of-self-2
unfolding made_by
invariant_of-self-2 g c =
    let ks = c.self.inside.nodes in
    let n = c.args.name in
    let lent = c.node_mut in
    let x = lent.result.now.state in
    let made = c.in_ok-effect.ensures.node in
    let keeps = quiet_keeps x c.args.quiet in
    kept_stays ks (with_node ks n c.quietly.new.self)
    (lent_grows ks n lent.result.now c.quietly.new.self lent.ensures.kept lent.ensures.named.0 (ap (λ y. y.name) made ∙ keeps.name) (ap (λ y. y.registers) made ∙ keeps.registers))
    c.self.inside.letters c.self.inside.merged c.self.invariant

pub returns-clause-ok : goal.returns-clause-ok
unfolding made_by
returns-clause-ok g c =
    let ks = c.self.inside.nodes in
    let ss = c.self.inside.letters in
    let h = c.self.inside.chronicle.events in
    let ms = c.self.inside.chronicle.marks in
    let n = c.args.name in
    let lent = c.node_mut in
    let x = lent.result.now.state in
    let y = c.quietly.new.self in
    let ch = act.Quietly c.args.quiet in
    let made = c.in_ok-effect.ensures.node in
    let keeps = quiet_keeps x c.args.quiet in
    let grow = lent_grows ks n lent.result.now y lent.ensures.kept lent.ensures.named.0 (ap (λ y. y.name) made ∙ keeps.name) (ap (λ y. y.registers) made ∙ keeps.registers) in
    ap (λ w. turn_at w n (node_at w n) ch) (sym c.self.view_is)
    ∙ changed_world ks (with_node ks n y) ss h h ms ms n ch c.in_ok-effect.effect x
    (lent_moved ks n lent.result.now y lent.ensures.kept lent.ensures.named.0 (λ z. (made_by z ch).node) made) (letters_stay ks (with_node ks n y) grow ss c.self.invariant.sent)
    (lent_state ks n lent.result.now y lent.ensures.kept lent.ensures.named.0) refl c.in_ok-effect.ensures.effect refl refl

pub returns-clause-accepted : goal.returns-clause-accepted
returns-clause-accepted g c =
    let s = g.Q.Quorums.system in
    let ks = c.self.inside.nodes in
    let n = c.args.name in
    let lent = c.node_mut in
    let ch = act.Quietly c.args.quiet in
    ap (λ w. least (causes_at s (node_at w n) ch)) (sym c.self.view_is) ∙ ap (λ o. least (causes_at s o ch)) (lent_state ks n lent.result.now lent.result.now lent.ensures.kept lent.ensures.named.0) ∙ c.in_ok-effect.ensures.judged
