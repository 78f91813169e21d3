use Rattle.std.proofs.Common.{◌≡◌, ◌+◌, ◌<◌, ◌++◌, ◌∷◌, [], take, length, sym, ap, ◌∙◌, cond, arith}
use Rattle.std.proofs.lemmas.List.{take_more}
use Rattle.rambo_atomic.proofs.Seen.{seen-none, seen-again, seen-new}
use Rattle.rambo_atomic.specs.Scopes.{within}
use Rattle.rambo_atomic.proofs.repeats.looked_for.Goals as goal
use Rattle.rambo_atomic.proofs.repeats.looked_for.Goals.{then-not-branch+then-is_answered_call, then-not-branch+else-is_answered_call, else-not-branch}

pub loop-id-init : goal.loop-id-init
loop-id-init c = seen-none c.args.history.now.events (within c.args.scope) c.in_ok-seen.seen.keys c.in_ok-seen.ensures.empty

pub loop-id-preserved : goal.loop-id-preserved
loop-id-preserved c =
    let h = c.args.history.now.events in
    let order = c.args.order.now in
    let i = c.loop-id.id-index in
    let id = c.id-item.result in
    let below : i < length order = omega arith in
    let more : take (i + 1) order ≡ take i order ++ id ∷ [] = take_more order i id below ∙ ap (λ x. take i order ++ x ∷ []) (sym c.id-item.is) in
    elim c.if-not-branch.branch [
      | then-not-branch+then-is_answered_call w ↦ seen-again h (within c.args.scope) _ _ c.loop-id.seen.keys c.insert.new.self.keys c.loop-id.answered _ c.loop-id.are_none _ _ id c.loop-id.invariant more
          c.in_ok-insert.ensures.updates.0 c.in_ok-insert.ensures.added w.if-not-branch.true
          (w.answered-is ∙ sym (ap (λ t. c.loop-id.answered + cond t 1 0) (sym w.is_answered_call.ensures ∙ w.if-is_answered_call.true))) w.are_none-is
      | then-not-branch+else-is_answered_call w ↦ seen-again h (within c.args.scope) _ _ c.loop-id.seen.keys c.insert.new.self.keys c.loop-id.answered _ c.loop-id.are_none _ _ id c.loop-id.invariant more
          c.in_ok-insert.ensures.updates.0 c.in_ok-insert.ensures.added w.if-not-branch.true
          (w.answered-is ∙ sym (ap (λ t. c.loop-id.answered + cond t 1 0) (sym w.is_answered_call.ensures ∙ w.if-is_answered_call.false) ∙ omega arith)) w.are_none-is
      | else-not-branch w ↦ seen-new h (within c.args.scope) _ _ c.loop-id.seen.keys c.insert.new.self.keys c.loop-id.answered _ c.loop-id.are_none _ _ id c.loop-id.invariant more
          c.in_ok-insert.ensures.updates.0 c.in_ok-insert.ensures.added c.requires.calls_once w.if-not-branch.false w.answered-is w.are_none-is
    ]
