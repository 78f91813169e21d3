use Rattle.std.proofs.Common.{◌≡◌, ◌+◌, suc, [], ◌∷◌, length, slice_get, refl, sym, ap, ◌∙◌, subst, arith}
use Rattle.std.proofs.lemmas.List.{length-append}
use Rattle.rambo_names.proofs.Sizes.{back_fits, up_fits, variant_fits}
use Rattle.rambo_names.specs.declared.refusal.Refusal.TheVariants.{OutOfMemory}
use Rattle.rambo_names.specs.Names.{IsName}
use Rattle.rambo_names.specs.Refusals.{IsRefusal}
use Rattle.rambo_run.proofs.Lists.{none-some}
use Rattle.rambo_book.specs.Kept.{KeeperView}
use Rattle.rambo_recovery.specs.Recoveries.{AreNamed}
use Rattle.rambo_recovery.proofs.Holding.{named_more}
use Rattle.rambo_recovery.proofs.founding.found.Goals as goal

pub drop-keepers-requires-room-T-Destruct : goal.drop-keepers-requires-room-T-Destruct
drop-keepers-requires-room-T-Destruct g c κs within = variant_fits _ _ _ _ (back_fits _ _ _ (up_fits _ _ _ (back_fits _ _ _ (up_fits _ _ _ c.requires-raw.1.1.1.0))))

pub drop-keepers-requires-in_default-room-T-Destruct : goal.drop-keepers-requires-in_default-room-T-Destruct
drop-keepers-requires-in_default-room-T-Destruct g c κs within = variant_fits _ _ _ _ (back_fits _ _ _ (up_fits _ _ _ (back_fits _ _ _ (up_fits _ _ _ c.requires-raw.1.1.1.0))))

pub drop-keepers-requires-in_default-push-room-T-Destruct : goal.drop-keepers-requires-in_default-push-room-T-Destruct
drop-keepers-requires-in_default-push-room-T-Destruct g c κs within = variant_fits _ _ _ _ (back_fits _ _ _ (up_fits _ _ _ (back_fits _ _ _ (up_fits _ _ _ c.requires-raw.1.1.1.0))))

pub loop-place-init : goal.loop-place-init
loop-place-init g c = record {
  made = c.keeper.ensures.roll ∙ ap (λ r. (suc r.0, [])) c.named-roll.ensures;
  each = ap length c.new-keepers.ensures.items;
  named = λ place k e. absurd (none-some k (sym (ap (λ l. slice_get l place) c.new-keepers.ensures.items) ∙ e));
}

pub new-keeper-requires : goal.new-keeper-requires
new-keeper-requires g c =
    let made = c.in_ok-name.ensures.made in
    let holder = c.keeper-in-loop-place.ensures.keeper ∙ (λ i. ((ap (λ r. r.0) c.loop-place.invariant.made ∙ sym made.0) i, [])) in
    (variant_fits _ _ _ _ (back_fits _ _ _ (up_fits _ _ _ (back_fits _ _ _ (up_fits _ _ _ c.requires-raw.1.1.1.0)))), (subst IsName (sym made.0) made.1, (c.in-Ok.ensures.empty, (c.in-Ok.ensures.unstamped, (holder, c.requires.founders)))))

pub loop-place-preserved : goal.loop-place-preserved
loop-place-preserved g c =
    let ks = c.loop-place.keepers.items in
    let k = c.new-keeper.result in
    let next = ap (λ (k : KeeperView _). k.name) c.new-keeper.ensures ∙ c.in_ok-name.ensures.made.0 ∙ ap (λ n. n + 1) (sym c.loop-place.invariant.each) in
    let long = length-append ks (k ∷ []) in
    record {
      made = c.keeper-in-loop-place.ensures.roll ∙ λ i. (let n : suc c.loop-place.roll.0 ≡ c.loop-place.place + 1 + 1 = omega (arith, ap (λ r. r.0) c.loop-place.invariant.made) in n i, []);
      each = ap length c.in-Ok-push.ensures.items ∙ long ∙ ap (λ n. n + 1) c.loop-place.invariant.each;
      named = subst AreNamed (sym c.in-Ok-push.ensures.items) (named_more ks k c.loop-place.invariant.named next);
    }

pub returns-in_default-push-clause-refused : goal.returns-in_default-push-clause-refused
returns-in_default-push-clause-refused g c = subst (λ o. IsRefusal o OutOfMemory) (sym c.in_ok-may_found.ensures.ok) refl

pub drop-requires : goal.drop-requires
drop-requires g c = variant_fits _ _ _ _ (back_fits _ _ _ (up_fits _ _ _ (back_fits _ _ _ (up_fits _ _ _ c.requires-raw.1.1.1.0))))
