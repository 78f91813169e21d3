use Rattle.std.proofs.lemmas.Grind.{common_steps}
use Rattle.std.proofs.Common.{◌≡◌, ◌+◌, suc, [], refl, sym, ap, ◌∙◌, subst, arith}
use Rattle.rambo_names.specs.declared.refusal.Refusal.TheVariants.{OutOfMemory}
use Rattle.rambo_names.specs.Names.{IsName}
use Rattle.rambo_names.specs.Refusals.{IsRefusal}
use Rattle.rambo_names.proofs.Sizes.{up_fits, back_fits, variant_fits}
use Rattle.rambo_mail.specs.Waiting.{MailState}
use Rattle.rambo_post.proofs.post.Post.with_boxes.Goals as goal

pub drop-keepers-requires-room-T-Destruct : goal.drop-keepers-requires-room-T-Destruct
drop-keepers-requires-room-T-Destruct g c κs within = back_fits _ _ _ (up_fits _ _ _ (back_fits _ _ _ (up_fits _ _ _ (variant_fits _ _ _ _ (back_fits _ _ _ (up_fits _ _ _ c.requires-raw.1.1.1.0))))))

pub drop-keepers-requires-in_err-name-room-T-Destruct : goal.drop-keepers-requires-in_err-name-room-T-Destruct
drop-keepers-requires-in_err-name-room-T-Destruct g c κs within = back_fits _ _ _ (up_fits _ _ _ (back_fits _ _ _ (up_fits _ _ _ (variant_fits _ _ _ _ (back_fits _ _ _ (up_fits _ _ _ c.requires-raw.1.1.1.0))))))

pub from_residual-requires-in_err-push-room-F-From : goal.from_residual-requires-in_err-push-room-F-From
from_residual-requires-in_err-push-room-F-From g c κs within = back_fits _ _ _ (up_fits _ _ _ (back_fits _ _ _ (up_fits _ _ _ (variant_fits _ _ _ _ (back_fits _ _ _ (up_fits _ _ _ c.requires-raw.1.1.1.0))))))

pub drop-keepers-requires-in_err-push-room-T-Destruct : goal.drop-keepers-requires-in_err-push-room-T-Destruct
drop-keepers-requires-in_err-push-room-T-Destruct g c κs within = back_fits _ _ _ (up_fits _ _ _ (back_fits _ _ _ (up_fits _ _ _ (variant_fits _ _ _ _ (back_fits _ _ _ (up_fits _ _ _ c.requires-raw.1.1.1.0))))))

pub loop-place-init : goal.loop-place-init
loop-place-init g c = record { made = c.keeper.ensures.roll ∙ ap (λ r. (suc r.0, [])) c.named-roll.ensures; each = c.in_ok-reserve.ensures.len ∙ c.new-keepers.ensures.len }

pub keeper-requires-in-loop-place : goal.keeper-requires-in-loop-place
keeper-requires-in-loop-place g c = ap (λ r. r.1) c.loop-place.invariant.made

pub new-keeper-requires : goal.new-keeper-requires
new-keeper-requires g c =
    let made = c.in_ok-name.ensures.made in
    let holder = c.keeper-in-loop-place.ensures.keeper ∙ (λ i. ((ap (λ r. r.0) c.loop-place.invariant.made ∙ sym made.0) i, [])) in
    (back_fits _ _ _ (up_fits _ _ _ (back_fits _ _ _ (up_fits _ _ _ (variant_fits _ _ _ _ (back_fits _ _ _ (up_fits _ _ _ c.requires-raw.1.1.1.0)))))), (subst IsName (sym made.0) made.1, (c.in-Ok.ensures.empty, (c.in-Ok.ensures.unstamped, (holder, c.requires.founders)))))

pub loop-place-preserved : goal.loop-place-preserved
loop-place-preserved g c = record {
  made = c.keeper-in-loop-place.ensures.roll ∙ λ i. (let n : suc c.loop-place.roll.0 ≡ c.loop-place.place + 1 + 1 = omega (arith, ap (λ r. r.0) c.loop-place.invariant.made) in n i, []);
  each = c.in_ok-push.ensures.len ∙ ap (λ n. n + 1) c.loop-place.invariant.each;
}

pub new-requires-2 : goal.new-requires-2
new-requires-2 g c = record {
  roll = ap (λ r. r.1) c.loop-place.invariant.made;
  founders = c.requires.founders;
  capacity = c.requires.capacity;
  keeps_all = c.requires.keeps_all;
  lose = ap (λ (m : MailState). m.lose) c.in_ok-mails.ensures.none ∙ c.requires.lose;
  twice = ap (λ (m : MailState). m.twice) c.in_ok-mails.ensures.none ∙ c.requires.twice;
}

pub invariant_of-result : goal.invariant_of-result
invariant_of-result g c = record { names = omega (arith, c.loop-place.invariant.each, c.loop-place-test.false, c.loop-place.auto.place-end); boxes = c.requires.boxes }

pub drop-keepers-requires-in_default-room-T-Destruct : goal.drop-keepers-requires-in_default-room-T-Destruct
drop-keepers-requires-in_default-room-T-Destruct g c κs within = back_fits _ _ _ (up_fits _ _ _ (back_fits _ _ _ (up_fits _ _ _ (variant_fits _ _ _ _ (back_fits _ _ _ (up_fits _ _ _ c.requires-raw.1.1.1.0))))))

pub returns-in_default-clause-refused : goal.returns-in_default-clause-refused
returns-in_default-clause-refused g c = subst (λ o. IsRefusal o OutOfMemory) (sym c.in_ok-may_found.ensures.ok) refl

pub named-roll-requires : goal.named-roll-requires
named-roll-requires g c = assumption

pub overflow_add-place : goal.overflow_add-place
overflow_add-place g c = omega arith

pub keeper-requires : goal.keeper-requires
keeper-requires g c = grind (arith, common_steps)

pub returns-in_err-name-clause-founded : goal.returns-in_err-name-clause-founded
returns-in_err-name-clause-founded g c = grind (arith, common_steps)

pub returns-in_err-name-clause-refused : goal.returns-in_err-name-clause-refused
returns-in_err-name-clause-refused g c = grind (arith, common_steps)

pub returns-in_err-mails-clause-founded : goal.returns-in_err-mails-clause-founded
returns-in_err-mails-clause-founded g c = grind (arith, common_steps)

pub returns-in_err-mails-clause-refused : goal.returns-in_err-mails-clause-refused
returns-in_err-mails-clause-refused g c = grind (arith, common_steps)

pub returns-in_err-may_found-clause-refused : goal.returns-in_err-may_found-clause-refused
returns-in_err-may_found-clause-refused g c = grind (arith, common_steps)

pub returns-in_err-may_found-clause-founded : goal.returns-in_err-may_found-clause-founded
returns-in_err-may_found-clause-founded g c = grind (arith, common_steps)

pub returns-in_err-reserve-clause-founded : goal.returns-in_err-reserve-clause-founded
returns-in_err-reserve-clause-founded g c = grind (arith, common_steps)
