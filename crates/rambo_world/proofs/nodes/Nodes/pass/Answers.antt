use Rattle.std.proofs.lemmas.List.{length-set}
use Rattle.std.proofs.Common.{max, ◌≡◌, ◌≤◌, ◌-◌, ◌++◌, ◌∙◌, length, take, drop, Some, OnErr, IfOk, slice_get, slice_set, sym, ap, subst, arith}
use Rattle.rambo_names.proofs.Sizes.{up_fits, back_fits}
use Rattle.rambo_node.specs.Nodes.{RoomyNode}
use Rattle.rambo_world.specs.Hearing.{told_by, HasMet, IsHeard}
use Rattle.rambo_world.specs.Kept.{KeptNode, kept_of, kept_at, outline, SameBarRoom, AllGrow}
use Rattle.rambo_world.proofs.Cutting.{written_over}
use Rattle.rambo_world.proofs.Heard.{met_refusal, met_told, met_heard, met_stays, met_accepted, met_err, met_grow, met_count}
use Rattle.rambo_world.proofs.Meeting.{item}
use Rattle.rambo_world.proofs.Zipping.{kept_of-at}
use Rattle.rambo_world.proofs.nodes.Nodes.pass.Goals as goal

pub meet-requires : goal.meet-requires
meet-requires g c =
    let xs = c.self.inside.list.items in
    let same = c.as_mut_slice-nodes.ensures.value in (
      back_fits _ _ _ (up_fits _ _ _ c.requires-raw.1.1.0),
      (
        ap length same ∙ c.self.invariant.0,
        (
          c.requires.apart,
          λ x at. c.requires.named _ (ap (λ ks. kept_at ks c.args.from) (sym c.self.view_is) ∙ kept_of-at xs c.self.inside.logs.logs (c.args.from - 1) x (ap (λ l. slice_get l (c.args.from - 1)) (sym same) ∙ at)),
        ),
      ),
    )

-- the two nodes, and the one that heard
met : (g : _) (c : goal.After-self-1 g) → (x : RoomyNode _) × (y : RoomyNode _) × (z : RoomyNode _)
    × (slice_get c.self.inside.list.items (c.args.from - 1) ≡ Some x) × (slice_get c.self.inside.list.items (c.args.to - 1) ≡ Some y)
    × (take c.self.inside.list.len (c.meet.new.nodes ++ drop (length c.meet.new.nodes) c.self.inside.list.items) ≡ slice_set c.self.inside.list.items (c.args.to - 1) z)
    × HasMet g.Q.Quorums.system y z c.self.inside.logs.logs c.meet.new.logs.logs (told_by x.state c.args.to c.self.inside.logs.logs) c.args.start c.meet.result
met g c =
    let xs = c.self.inside.list.items in
    let ys = c.meet.new.nodes in
    let same = c.as_mut_slice-nodes.ensures.value in
    let from = c.meet.ensures.from in
    let to = c.meet.ensures.to in
    let low_from : 1 ≤ c.args.from = from.0 in
    let high_from : c.args.from ≤ 64 = from.1 in
    let low_to : 1 ≤ c.args.to = to.0 in
    let high_to : c.args.to ≤ 64 = to.1 in
    let x = item xs (c.args.from - 1) (omega (arith, low_from, high_from, c.self.invariant.0)) in
    let y = item xs (c.args.to - 1) (omega (arith, low_to, high_to, c.self.invariant.0)) in
    let m = c.meet.ensures.met x.0 y.0 (ap (λ l. slice_get l (c.args.from - 1)) same ∙ x.1) (ap (λ l. slice_get l (c.args.to - 1)) same ∙ y.1) in
    let back : take c.self.inside.list.len (ys ++ drop (length ys) xs) ≡ ys = written_over xs ys c.self.inside.list.len c.self.inside.list.ok.0 (c.meet.auto.nodes ∙ ap length same) in
    (x.0, y.0, m.0, x.1, y.1, back ∙ m.1 ∙ ap (λ l. slice_set l (c.args.to - 1) m.0) same, m.2)

pub invariant_of-self : goal.invariant_of-self
invariant_of-self g c =
    let m = met g c in
    (ap length m.5 ∙ length-set c.self.inside.list.items (c.args.to - 1) m.2 ∙ c.self.invariant.0, met_count g.Q.Quorums.system c.self.inside.list.items c.self.inside.logs.logs c.args.self.now c.self.view_is c.self.invariant.0 c.self.invariant.1 c.args.from c.args.to c.meet.ensures.to.0 c.requires.named m.0 m.1 m.2 m.3 m.4 c.meet.new.logs.logs c.args.start c.meet.result m.6)

pub returns-clause-refusal : goal.returns-clause-refusal
returns-clause-refusal g c = let m = met g c in met_refusal g.Q.Quorums.system c.self.inside.list.items c.self.inside.logs.logs c.args.self.now c.self.view_is c.self.invariant.0 c.self.invariant.1 c.args.from c.args.to c.meet.ensures.to.0 c.requires.named m.0 m.1 m.2 m.3 m.4 c.meet.new.logs.logs c.args.start c.meet.result m.6

pub returns-clause-told : goal.returns-clause-told
returns-clause-told g c = let m = met g c in met_told g.Q.Quorums.system c.self.inside.list.items c.self.inside.logs.logs c.args.self.now c.self.view_is c.self.invariant.0 c.self.invariant.1 c.args.from c.args.to c.meet.ensures.to.0 c.requires.named m.0 m.1 m.2 m.3 m.4 c.meet.new.logs.logs c.args.start c.meet.result m.6

pub returns-clause-accepted : goal.returns-clause-accepted
returns-clause-accepted g c = let m = met g c in met_accepted g.Q.Quorums.system c.self.inside.list.items c.self.inside.logs.logs c.args.self.now c.self.view_is c.self.invariant.0 c.self.invariant.1 c.args.from c.args.to c.meet.ensures.to.0 c.requires.named m.0 m.1 m.2 m.3 m.4 c.meet.new.logs.logs c.args.start c.meet.result m.6

pub returns-clause-heard : goal.returns-clause-heard
returns-clause-heard g c =
    let m = met g c in
    subst (λ l. IfOk c.meet.result (λ r. IfOk r (λ told. (k : KeptNode _) → kept_at c.args.self.now c.args.from ≡ Some k → IsHeard c.args.self.now (kept_of l c.meet.new.logs.logs) (outline k c.args.to).letter c.args.start (max c.args.start told)))) (sym m.5)
    (met_heard g.Q.Quorums.system c.self.inside.list.items c.self.inside.logs.logs c.args.self.now c.self.view_is c.self.invariant.0 c.self.invariant.1 c.args.from c.args.to c.meet.ensures.to.0 c.requires.named m.0 m.1 m.2 m.3 m.4 c.meet.new.logs.logs c.args.start c.meet.result m.6)

pub returns-clause-stays : goal.returns-clause-stays
returns-clause-stays g c =
    let m = met g c in
    subst (λ l. IfOk c.meet.result (λ r. OnErr r (SameBarRoom c.args.self.now (kept_of l c.meet.new.logs.logs)))) (sym m.5)
    (met_stays g.Q.Quorums.system c.self.inside.list.items c.self.inside.logs.logs c.args.self.now c.self.view_is c.self.invariant.0 c.self.invariant.1 c.args.from c.args.to c.meet.ensures.to.0 c.requires.named m.0 m.1 m.2 m.3 m.4 c.meet.new.logs.logs c.args.start c.meet.result m.6)

pub returns-clause-err : goal.returns-clause-err
returns-clause-err g c =
    let m = met g c in
    subst (λ l. OnErr c.meet.result (SameBarRoom c.args.self.now (kept_of l c.meet.new.logs.logs))) (sym m.5)
    (met_err g.Q.Quorums.system c.self.inside.list.items c.self.inside.logs.logs c.args.self.now c.self.view_is c.self.invariant.0 c.self.invariant.1 c.args.from c.args.to c.meet.ensures.to.0 c.requires.named m.0 m.1 m.2 m.3 m.4 c.meet.new.logs.logs c.args.start c.meet.result m.6)

pub returns-clause-grow : goal.returns-clause-grow
returns-clause-grow g c =
    let m = met g c in
    subst (λ l. AllGrow c.args.self.now (kept_of l c.meet.new.logs.logs)) (sym m.5)
    (met_grow g.Q.Quorums.system c.self.inside.list.items c.self.inside.logs.logs c.args.self.now c.self.view_is c.self.invariant.0 c.self.invariant.1 c.args.from c.args.to c.meet.ensures.to.0 c.requires.named m.0 m.1 m.2 m.3 m.4 c.meet.new.logs.logs c.args.start c.meet.result m.6)
