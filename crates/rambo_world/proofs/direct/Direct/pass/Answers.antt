use Rattle.std.proofs.Common.{◌≡◌, ◌∙◌, [], max, None, Some, IfOk, OnErr, refl, sym, ap, subst}
use Rattle.rambo_run.specs.Ongoing.{RunningOf}
use Rattle.rambo_world.specs.Deliveries.{world_of}
use Rattle.rambo_world.specs.Direct.{passed, pass_refusal, told_refusal, IsReachedBare}
use Rattle.rambo_world.specs.Hearing.{IsHeard}
use Rattle.rambo_world.specs.Kept.{KeptNode, kept_at, outline, IsKept, SameBarRoom}
use Rattle.rambo_names.proofs.Errors.{on_err}
use Rattle.rambo_names.proofs.Sizes.{up_fits, back_fits, next}
use Rattle.rambo_world.proofs.Bare.{bare_passed, unpassed}
use Rattle.rambo_world.proofs.Changing.{same_world}
use Rattle.rambo_world.proofs.Passing.{all_named, not_sent, away, judged_passing, own_kept, kept_passed, has_passed}
use Rattle.rambo_world.proofs.Stepping.{kept_stays}
use Rattle.rambo_world.proofs.direct.Direct.pass.Goals as goal

pub node-requires : goal.node-requires
node-requires g c =
    let nodes = back_fits _ _ _ (next _ _ _ _ (up_fits _ _ _ c.requires-raw.1.1)) in
    (nodes, back_fits _ _ _ (up_fits _ _ _ nodes))

pub may_send-requires : goal.may_send-requires
may_send-requires g c = back_fits _ _ _ (up_fits _ _ _ (back_fits _ _ _ (next _ _ _ _ (up_fits _ _ _ c.requires-raw.1.1))))

-- the sender refuses it
unsent : (g : _) (c : goal.In-Err g) → pass_refusal g.Q.Quorums.system (world_of c.self.inside.nodes [] [] []) c.args.from c.args.to ≡ Some c.in-Err.refusal
unsent g c =
    not_sent g.Q.Quorums.system c.self.inside.nodes c.self.inside.merged c.self.invariant.1 c.args.from c.args.to c.node.result.now.state c.node.ensures c.in-Err.refusal c.in-Err.ensures.refused

pub returns-in-Err-clause-told : goal.returns-in-Err-clause-told
returns-in-Err-clause-told g c =
    subst (λ (v : RunningOf _). Some c.in-Err.refusal ≡ pass_refusal g.Q.Quorums.system v.state c.args.from c.args.to) c.self.view_is (sym (unsent g c))

pub returns-in-Err-clause-after : goal.returns-in-Err-clause-after
returns-in-Err-clause-after g c =
    let s = g.Q.Quorums.system in
    subst (λ (v : RunningOf _). v ≡ record v { state = passed s v.state c.args.from c.args.to }) c.self.view_is
    (λ i. record { founders = c.self.inside.founders; state = sym (unpassed s (world_of c.self.inside.nodes [] [] []) c.args.from c.args.to c.in-Err.refusal refl (unsent g c)) i })

pub pass-requires : goal.pass-requires
pass-requires g c =
    let s = g.Q.Quorums.system in
    let i = c.self.inside in
    let x = c.node.result.now.state in (
      back_fits _ _ _ (next _ _ _ _ (up_fits _ _ _ c.requires-raw.1.1)),
      (
        away s i.nodes i.merged c.self.invariant.1 c.args.from c.args.to x c.node.ensures c.in_default.ensures.ok,
        all_named s i.nodes i.merged c.self.invariant.1 c.args.from c.args.to x c.node.ensures,
      ),
    )

-- there is no room
pub invariant_of-self : goal.invariant_of-self
invariant_of-self g c =
    let ks = c.self.inside.nodes in
    let new = c.pass.new.self in (
      subst (IsReachedBare g.Q.Quorums.system c.self.inside.founders) (sym (same_world ks new [] [] [] [] [] c.in_err-heard.ensures.err c.self.invariant.1.sent refl refl)) c.self.invariant.0,
      kept_stays ks new c.pass.ensures.grow [] c.self.inside.merged c.self.invariant.1,
    )

pub returns-in_err-heard-clause-accepted : goal.returns-in_err-heard-clause-accepted
returns-in_err-heard-clause-accepted g c =
    let s = g.Q.Quorums.system in
    let i = c.self.inside in
    let x = c.node.result.now.state in
    let may = c.in_default.ensures.ok in
    let k = own_kept s i.nodes i.merged c.self.invariant.1 c.args.from c.args.to x c.node.ensures may in
    on_err c.from_residual.result
    (subst (λ (v : RunningOf _). pass_refusal s v.state c.args.from c.args.to ≡ None) c.self.view_is
    (judged_passing s i.nodes i.merged c.self.invariant.1 c.args.from c.args.to x c.node.ensures may k.0 k.1 ∙ c.in_err-heard.ensures.accepted k.0 k.1))

pub returns-in_err-heard-clause-err : goal.returns-in_err-heard-clause-err
returns-in_err-heard-clause-err g c =
    on_err c.from_residual.result
    ((λ i. record {
      founders = c.self.inside.founders;
      state = same_world c.self.inside.nodes c.pass.new.self [] [] [] [] [] c.in_err-heard.ensures.err c.self.invariant.1.sent refl refl i;
    })
    ∙ c.self.view_is)

-- the addressee refuses it
unheard : (g : _) (c : goal.In-Err-2 g) → pass_refusal g.Q.Quorums.system (world_of c.self.inside.nodes [] [] []) c.args.from c.args.to ≡ Some c.in-Err-2.refusal
unheard g c =
    let s = g.Q.Quorums.system in
    let i = c.self.inside in
    let x = c.node.result.now.state in
    let may = c.in_default.ensures.ok in
    let k = own_kept s i.nodes i.merged c.self.invariant.1 c.args.from c.args.to x c.node.ensures may in
    judged_passing s i.nodes i.merged c.self.invariant.1 c.args.from c.args.to x c.node.ensures may k.0 k.1 ∙ sym (c.in_ok-heard.ensures.refusal k.0 k.1) ∙ ap told_refusal c.in-Err-2.is

stays : (g : _) (c : goal.In-Err-2 g) → world_of c.pass.new.self [] [] [] ≡ world_of c.self.inside.nodes [] [] []
stays g c =
    let same = subst (λ r. OnErr r (SameBarRoom c.self.inside.nodes c.pass.new.self)) c.in-Err-2.is c.in_ok-heard.ensures.stays in
    same_world c.self.inside.nodes c.pass.new.self [] [] [] [] [] same c.self.invariant.1.sent refl refl

pub invariant_of-self-in-Err-2 : goal.invariant_of-self-in-Err-2
invariant_of-self-in-Err-2 g c = (
  subst (IsReachedBare g.Q.Quorums.system c.self.inside.founders) (sym (stays g c)) c.self.invariant.0,
  kept_stays c.self.inside.nodes c.pass.new.self c.pass.ensures.grow [] c.self.inside.merged c.self.invariant.1,
)

pub returns-in-Err-2-clause-told : goal.returns-in-Err-2-clause-told
returns-in-Err-2-clause-told g c =
    subst (λ (v : RunningOf _). Some c.in-Err-2.refusal ≡ pass_refusal g.Q.Quorums.system v.state c.args.from c.args.to) c.self.view_is (sym (unheard g c))

pub returns-in-Err-2-clause-after : goal.returns-in-Err-2-clause-after
returns-in-Err-2-clause-after g c =
    let s = g.Q.Quorums.system in
    let is = stays g c ∙ sym (unpassed s (world_of c.self.inside.nodes [] [] []) c.args.from c.args.to c.in-Err-2.refusal refl (unheard g c)) in
    λ i. record { founders = (c.self.view_is i).founders; state = (is ∙ ap (λ (v : RunningOf _). passed s v.state c.args.from c.args.to) c.self.view_is) i }

-- it hears it
heard : (g : _) (c : goal.After-raise g) → pass_refusal g.Q.Quorums.system (world_of c.self.inside.nodes [] [] []) c.args.from c.args.to ≡ None
heard g c =
    let s = g.Q.Quorums.system in
    let i = c.self.inside in
    let x = c.node.result.now.state in
    let may = c.in_default.ensures.ok in
    let k = own_kept s i.nodes i.merged c.self.invariant.1 c.args.from c.args.to x c.node.ensures may in
    judged_passing s i.nodes i.merged c.self.invariant.1 c.args.from c.args.to x c.node.ensures may k.0 k.1 ∙ sym (c.in_ok-heard.ensures.refusal k.0 k.1) ∙ ap told_refusal c.in-Ok.is

comes : (g : _) (c : goal.After-raise g) → world_of c.pass.new.self [] [] [] ≡ passed g.Q.Quorums.system (world_of c.self.inside.nodes [] [] []) c.args.from c.args.to
comes g c =
    let i = c.self.inside in
    let told = c.in-Ok.heard in
    has_passed g.Q.Quorums.system i.nodes i.merged c.self.invariant.1 c.args.from c.args.to c.node.result.now.state c.node.ensures c.in_default.ensures.ok
    c.pass.new.self c.pass.ensures.grow c.of-before.result told c.of-before.ensures.to c.of-before.ensures.from c.of-before.ensures.count
    (λ k found. sym (c.in_ok-heard.ensures.refusal k found) ∙ ap told_refusal c.in-Ok.is)
    (subst (λ r. IfOk r (λ told. (k : KeptNode _) → kept_at i.nodes c.args.from ≡ Some k → told ≡ (outline k c.args.to).told)) c.in-Ok.is c.in_ok-heard.ensures.told)
    (subst (λ r. IfOk r (λ told. (k : KeptNode _) → kept_at i.nodes c.args.from ≡ Some k → IsHeard i.nodes c.pass.new.self (outline k c.args.to).letter c.of-before.result (max c.of-before.result told))) c.in-Ok.is c.in_ok-heard.ensures.heard)

pub invariant_of-self-in-Ok : goal.invariant_of-self-in-Ok
invariant_of-self-in-Ok g c =
    let s = g.Q.Quorums.system in
    let i = c.self.inside in
    let told = c.in-Ok.heard in (
      bare_passed s i.founders (world_of i.nodes [] [] []) (world_of c.pass.new.self [] [] []) c.args.from c.args.to c.self.invariant.0 (comes g c),
      subst (IsKept c.pass.new.self []) (sym c.raise.ensures)
          (kept_passed s i.nodes i.merged c.self.invariant.1 c.args.from c.args.to c.node.result.now.state c.node.ensures c.in_default.ensures.ok
          c.pass.new.self c.pass.ensures.grow c.of-before.result told c.of-before.ensures.to c.of-before.ensures.from c.of-before.ensures.count
          (λ k found. sym (c.in_ok-heard.ensures.refusal k found) ∙ ap told_refusal c.in-Ok.is)
          (subst (λ r. IfOk r (λ told. (k : KeptNode _) → kept_at i.nodes c.args.from ≡ Some k → told ≡ (outline k c.args.to).told)) c.in-Ok.is c.in_ok-heard.ensures.told)
          (subst (λ r. IfOk r (λ told. (k : KeptNode _) → kept_at i.nodes c.args.from ≡ Some k → IsHeard i.nodes c.pass.new.self (outline k c.args.to).letter c.of-before.result (max c.of-before.result told))) c.in-Ok.is c.in_ok-heard.ensures.heard)),
    )

pub returns-in-Ok-clause-told : goal.returns-in-Ok-clause-told
returns-in-Ok-clause-told g c =
    subst (λ (v : RunningOf _). None ≡ pass_refusal g.Q.Quorums.system v.state c.args.from c.args.to) c.self.view_is (sym (heard g c))

pub returns-in-Ok-clause-after : goal.returns-in-Ok-clause-after
returns-in-Ok-clause-after g c =
    let s = g.Q.Quorums.system in
    λ i. record { founders = (c.self.view_is i).founders; state = (comes g c ∙ ap (λ (v : RunningOf _). passed s v.state c.args.from c.args.to) c.self.view_is) i }
