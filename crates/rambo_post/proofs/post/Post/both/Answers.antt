use Rattle.std.proofs.lemmas.Grind.{common_steps}
use Rattle.std.proofs.Common.{◌≡◌, false, ap, ◌∙◌, subst, arith}
use Rattle.rambo_names.proofs.Sizes.{up_fits, back_fits, variant_fits}
use Rattle.std.specs.Sync.Mutex.{mutex_guard_value}
use Rattle.rambo_book.specs.Kept.{KeeperView, IsServedBy, state}
use Rattle.rambo_book.specs.Windows.{delivers_gone, gone_of}
use Rattle.rambo_post.proofs.post.Post.both.Goals as goal

pub loop-init : goal.loop-init
loop-init g c = tt

pub loop-preserved : goal.loop-preserved
loop-preserved g c = tt

pub name-requires : goal.name-requires
name-requires g c = back_fits _ _ _ (up_fits _ _ _ (back_fits _ _ _ (up_fits _ _ _ (variant_fits _ _ _ _ (back_fits _ _ _ (up_fits _ _ _ c.requires-raw.1.1.1.1.0))))))

pub drop-keeper-requires-room-T-Destruct : goal.drop-keeper-requires-room-T-Destruct
drop-keeper-requires-room-T-Destruct g c κs within = back_fits _ _ _ (up_fits _ _ _ (back_fits _ _ _ (up_fits _ _ _ (variant_fits _ _ _ _ (back_fits _ _ _ (up_fits _ _ _ c.requires-raw.1.1.1.1.0))))))

pub returns-then-serves : goal.returns-then-serves
returns-then-serves g c =
    let s = g.Q.Quorums.system in
    let st = c.args.step.now in
    subst (λ n. delivers_gone (gone_of g.J.Terms.endless g.J.Terms.capacity (state s (mutex_guard_value c.lock-book.result))) st ≡ false → IsServedBy (state s (mutex_guard_value c.lock-book.result)) st n) (c.name.ensures ∙ ap (λ (k : KeeperView _). k.name) c.deref-in-loop-2.ensures)
    (subst (λ b. delivers_gone (gone_of g.J.Terms.endless g.J.Terms.capacity (state s b)) st ≡ false → IsServedBy (state s b) st c.name.result) c.deref-in-loop.ensures (c.serves.ensures.served c.if-serves.true))

pub index-requires : goal.index-requires
index-requires g c = omega arith

pub unreachable-requires : goal.unreachable-requires
unreachable-requires g c = grind (arith, common_steps)
