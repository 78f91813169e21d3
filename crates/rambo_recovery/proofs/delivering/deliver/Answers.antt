use Rattle.std.proofs.Common.{◌<◌, length, slice_get, sym, ap, ◌∙◌, subst, inr, arith}
use Rattle.std.proofs.lemmas.Option.{slice_get_read}
use Rattle.rambo_names.proofs.Sizes.{back_fits, up_fits, variant_fits}
use Rattle.rambo_node.specs.declared.step.StepOf.TheVariants as step
use Rattle.rambo_node.specs.Acts.{delivery}
use Rattle.rambo_run.proofs.Lists.{none-some}
use Rattle.rambo_book.specs.Kept.{IsServedBy, state}
use Rattle.rambo_recovery.specs.Recoveries.{IsInSome}
use Rattle.rambo_recovery.proofs.Holding.{held_delivered, named_on}
use Rattle.rambo_recovery.proofs.Owning.{err_first, err_left}
use Rattle.rambo_recovery.proofs.delivering.deliver.Goals as goal

pub deliver_kept-requires : goal.deliver_kept-requires
deliver_kept-requires g c =
    let ks = c.args.keepers.now.all.items in
    let k = c.index_mut.result.now in
    let here = slice_get_read ks 64 c.place_of.result k (sym c.requires.many) c.place_of.ensures.within c.index_mut.ensures.value in
    let own = c.requires.named c.place_of.result k here ∙ c.place_of.ensures.next in (
      variant_fits _ _ _ _ (back_fits _ _ _ (up_fits _ _ _ c.requires-raw.1.1.1.0)),
      (c.in-Some.ensures.there, subst (λ n. IsServedBy (state g.Q.Quorums.system c.args.book.now) (step.Deliver c.args.number) n) (sym own) c.in-Some.ensures.kept),
    )

pub returns-in-Some-clause-named : goal.returns-in-Some-clause-named
returns-in-Some-clause-named g c =
    let ks = c.args.keepers.now.all.items in
    let k = c.index_mut.result.now in
    let here = slice_get_read ks 64 c.place_of.result k (sym c.requires.many) c.place_of.ensures.within c.index_mut.ensures.value in
    named_on ks c.place_of.result k c.deliver_kept.new.keeper c.requires.named here c.deliver_kept.ensures.name

pub returns-in-Some-clause-held : goal.returns-in-Some-clause-held
returns-in-Some-clause-held g c =
    let ks = c.args.keepers.now.all.items in
    let k = c.index_mut.result.now in
    let here = slice_get_read ks 64 c.place_of.result k (sym c.requires.many) c.place_of.ensures.within c.index_mut.ensures.value in
    let done = c.deliver_kept.ensures in
    λ held. held_delivered g.Q.Quorums.system c.args.book.now c.deliver_kept.new.book ks c.place_of.result k c.deliver_kept.new.keeper c.args.number c.deliver_kept.result c.facts.ensures.legal here done.accepted done.book done.tray done.same held

pub returns-in-Some-clause-same : goal.returns-in-Some-clause-same
returns-in-Some-clause-same g c = err_first _ _ c.deliver_kept.result c.deliver_kept.ensures.same

pub returns-in-Some-clause-told : goal.returns-in-Some-clause-told
returns-in-Some-clause-told g c = err_left _ _ c.deliver_kept.result c.deliver_kept.ensures.told

pub place_with-requires : goal.place_with-requires
place_with-requires g c = variant_fits _ _ _ _ (back_fits _ _ _ (up_fits _ _ _ c.requires-raw.1.1.1.0))

pub deliver_held-requires : goal.deliver_held-requires
deliver_held-requires g c =
    let ks = c.args.keepers.now.all.items in
    let k = c.index_mut-in-Some-place_with.result.now in
    let at = c.in-Some-place_with.place in
    let here = slice_get_read ks (length ks) at k (λ i. length ks) (subst (λ l. at < length l) c.as_slice.ensures.value c.in-Some-place_with.ensures.0) c.index_mut-in-Some-place_with.ensures.value in
    (variant_fits _ _ _ _ (back_fits _ _ _ (up_fits _ _ _ c.requires-raw.1.1.1.0)), c.in-Some-place_with.ensures.1 k (ap (λ l. slice_get l at) c.as_slice.ensures.value ∙ here))

pub returns-in-Some-place_with-clause-named : goal.returns-in-Some-place_with-clause-named
returns-in-Some-place_with-clause-named g c =
    let ks = c.args.keepers.now.all.items in
    let k = c.index_mut-in-Some-place_with.result.now in
    let at = c.in-Some-place_with.place in
    let here = slice_get_read ks (length ks) at k (λ i. length ks) (subst (λ l. at < length l) c.as_slice.ensures.value c.in-Some-place_with.ensures.0) c.index_mut-in-Some-place_with.ensures.value in
    named_on ks at k c.deliver_held.new.keeper c.requires.named here c.deliver_held.ensures.name

pub returns-in-Some-place_with-clause-held : goal.returns-in-Some-place_with-clause-held
returns-in-Some-place_with-clause-held g c =
    let ks = c.args.keepers.now.all.items in
    let k = c.index_mut-in-Some-place_with.result.now in
    let at = c.in-Some-place_with.place in
    let here = slice_get_read ks (length ks) at k (λ i. length ks) (subst (λ l. at < length l) c.as_slice.ensures.value c.in-Some-place_with.ensures.0) c.index_mut-in-Some-place_with.ensures.value in
    let done = c.deliver_held.ensures in
    λ held. held_delivered g.Q.Quorums.system c.args.book.now c.deliver_held.new.book ks at k c.deliver_held.new.keeper c.args.number c.deliver_held.result c.facts.ensures.legal here done.accepted done.book done.tray done.same held

pub returns-in-Some-place_with-clause-same : goal.returns-in-Some-place_with-clause-same
returns-in-Some-place_with-clause-same g c = err_first _ _ c.deliver_held.result c.deliver_held.ensures.same

pub returns-in-Some-place_with-clause-told : goal.returns-in-Some-place_with-clause-told
returns-in-Some-place_with-clause-told g c = err_left _ _ c.deliver_held.result c.deliver_held.ensures.told

pub returns-then-is_gone_in-clause-told : goal.returns-then-is_gone_in-clause-told
returns-then-is_gone_in-clause-told g c = inr (sym c.is_gone_in.ensures ∙ c.if-is_gone_in.true, subst (λ l. IsInSome l c.args.number → ⊥) c.as_slice.ensures.value c.in_default-place_with.ensures, c.gone_so.ensures)

pub deliver_kept-requires-2 : goal.deliver_kept-requires-2
deliver_kept-requires-2 g c =
    let there = sym c.is_gone_in.ensures ∙ c.if-is_gone_in.false in
    let none = c.addressee_in.ensures.none c.in_default.is there in
    (variant_fits _ _ _ _ (back_fits _ _ _ (up_fits _ _ _ c.requires-raw.1.1.1.0)), (there, λ m e. absurd (none-some m (sym (ap delivery none) ∙ e))))

pub returns-clause-named : goal.returns-clause-named
returns-clause-named g c =
    let ks = c.args.keepers.now.all.items in
    let k = c.index_mut-2.result.now in
    let here = slice_get_read ks 64 0 k (sym c.requires.many) (omega arith) c.index_mut-2.ensures.value in
    named_on ks 0 k c.deliver_kept-2.new.keeper c.requires.named here c.deliver_kept-2.ensures.name

pub returns-clause-held : goal.returns-clause-held
returns-clause-held g c =
    let ks = c.args.keepers.now.all.items in
    let k = c.index_mut-2.result.now in
    let here = slice_get_read ks 64 0 k (sym c.requires.many) (omega arith) c.index_mut-2.ensures.value in
    let done = c.deliver_kept-2.ensures in
    λ held. held_delivered g.Q.Quorums.system c.args.book.now c.deliver_kept-2.new.book ks 0 k c.deliver_kept-2.new.keeper c.args.number c.deliver_kept-2.result c.facts.ensures.legal here done.accepted done.book done.tray done.same held

pub returns-clause-same : goal.returns-clause-same
returns-clause-same g c = err_first _ _ c.deliver_kept-2.result c.deliver_kept-2.ensures.same

pub returns-clause-told : goal.returns-clause-told
returns-clause-told g c = err_left _ _ c.deliver_kept-2.result c.deliver_kept-2.ensures.told
