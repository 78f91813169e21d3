use Rattle.std.proofs.Common.{◌-◌, ◌<◌, Some, length, slice_set, Result, Ok, Err, OnErr, sym, ap, ◌∙◌, subst, arith}
use Rattle.std.proofs.lemmas.List.{length-set}
use Rattle.std.proofs.lemmas.Option.{slice_get_read}
use Rattle.rambo_names.proofs.Sizes.{back_fits, up_fits, variant_fits}
use Rattle.rambo_run.specs.Actors.{sent_by}
use Rattle.rambo_book.specs.Kept.{state}
use Rattle.rambo_book.specs.Mailing.{comes_to, waiting_after}
use Rattle.rambo_book.specs.Windows.{gone_of}
use Rattle.rambo_recovery.specs.Recoveries.{AreHeld}
use Rattle.rambo_recovery.proofs.Holding.{held_quiet, held_same, held_sent, named_on}
use Rattle.rambo_recovery.proofs.Owning.{names_one}
use Rattle.rambo_recovery.proofs.Trays.{as_many}
use Rattle.rambo_recovery.proofs.acting.act.Goals as goal

always_err : {A E P : Type 0} (r : Result A E) → P → OnErr r P
always_err (Ok a) p = tt
always_err (Err e) p = p

pub unreachable-requires : goal.unreachable-requires
unreachable-requires g c = names_one c.args.step c.requires.delivers (sym c.in_default.ensures)

pub commit_uncalled-requires : goal.commit_uncalled-requires
commit_uncalled-requires g c =
    let ks = c.args.keepers.now.all.items in
    let k = c.index_mut.result.now in
    let here = slice_get_read ks 64 c.place_of.result k (sym c.requires.many) c.place_of.ensures.within c.index_mut.ensures.value in
    (variant_fits _ _ _ _ (back_fits _ _ _ (up_fits _ _ _ c.requires-raw.1.1.1.0)), (c.requires.delivers, sym c.in-Some.ensures ∙ ap Some (sym c.place_of.ensures.next ∙ sym (c.requires.named c.place_of.result k here))))

pub returns-in_err-commit_uncalled-clause-named : goal.returns-in_err-commit_uncalled-clause-named
returns-in_err-commit_uncalled-clause-named g c =
    let ks = c.args.keepers.now.all.items in
    let k = c.index_mut.result.now in
    let here = slice_get_read ks 64 c.place_of.result k (sym c.requires.many) c.place_of.ensures.within c.index_mut.ensures.value in
    named_on ks c.place_of.result k c.commit_uncalled.new.keeper c.requires.named here c.commit_uncalled.ensures.name

pub returns-in_err-commit_uncalled-clause-trays : goal.returns-in_err-commit_uncalled-clause-trays
returns-in_err-commit_uncalled-clause-trays g c =
    let ks = c.args.keepers.now.all.items in
    let k = c.index_mut.result.now in
    let here = slice_get_read ks 64 c.place_of.result k (sym c.requires.many) c.place_of.ensures.within c.index_mut.ensures.value in
    always_err c.from_residual.result
    (λ held. subst (λ b. AreHeld g.Q.Quorums.system b (slice_set ks c.place_of.result c.commit_uncalled.new.keeper)) (sym c.in_err-commit_uncalled.ensures.same)
    (held_same g.Q.Quorums.system c.args.book.now ks c.place_of.result k c.commit_uncalled.new.keeper here c.commit_uncalled.ensures.tray held))

pub fetch-requires : goal.fetch-requires
fetch-requires g c = variant_fits _ _ _ _ (back_fits _ _ _ (up_fits _ _ _ c.requires-raw.1.1.1.0))

pub returns-in-Some-to-clause-lists : goal.returns-in-Some-to-clause-lists
returns-in-Some-to-clause-lists g c =
    c.fetch.ensures.lists ∙ ap length c.in_ok-commit_uncalled.ensures.waiting ∙ as_many c.args.book.now (sent_by c.args.step) _ _ ∙ c.requires.lists

pub returns-in-Some-to-clause-named : goal.returns-in-Some-to-clause-named
returns-in-Some-to-clause-named g c =
    let ks = c.args.keepers.now.all.items in
    let k = c.index_mut.result.now in
    let mid = c.commit_uncalled.new.keeper in
    let m = c.index_mut-in-Some-to.result.now in
    let here = slice_get_read ks 64 c.place_of.result k (sym c.requires.many) c.place_of.ensures.within c.index_mut.ensures.value in
    let ls = slice_set ks c.place_of.result mid in
    let there = slice_get_read ls 64 c.place_of-in-Some-to.result m (sym (length-set ks c.place_of.result mid ∙ c.requires.many)) c.place_of-in-Some-to.ensures.within c.index_mut-in-Some-to.ensures.value in
    named_on ls c.place_of-in-Some-to.result m c.fetch.new.keeper (named_on ks c.place_of.result k mid c.requires.named here c.commit_uncalled.ensures.name) there c.fetch.ensures.name

pub returns-in-Some-to-clause-held : goal.returns-in-Some-to-clause-held
returns-in-Some-to-clause-held g c = λ yes held.
    let s = g.Q.Quorums.system in
    let b = c.args.book.now in
    let mid = c.commit_uncalled.new.keeper in
    let ks = c.args.keepers.now.all.items in
    let k = c.index_mut.result.now in
    let m = c.index_mut-in-Some-to.result.now in
    let done = c.in_ok-commit_uncalled.ensures in
    let here = slice_get_read ks 64 c.place_of.result k (sym c.requires.many) c.place_of.ensures.within c.index_mut.ensures.value in
    let ls = slice_set ks c.place_of.result mid in
    let there = slice_get_read ls 64 c.place_of-in-Some-to.result m (sym (length-set ks c.place_of.result mid ∙ c.requires.many)) c.place_of-in-Some-to.ensures.within c.index_mut-in-Some-to.ensures.value in
    let names = named_on ks c.place_of.result k mid c.requires.named here c.commit_uncalled.ensures.name in
    let own = names c.place_of-in-Some-to.result m there ∙ c.place_of-in-Some-to.ensures.next in
    let room : c.in-Some-to.to - 1 < length b.waiting = omega (arith, c.place_of-in-Some-to.ensures.next, c.place_of-in-Some-to.ensures.within, c.requires.lists) in
    held_sent s g.J.Terms.capacity b c.commit_uncalled.new.book c.fetch.new.book c.args.step c.in-Some-to.to ks c.place_of.result k mid c.place_of-in-Some-to.result m c.fetch.new.keeper
    c.facts.ensures.legal done.accepted done.book c.fetch.ensures.book here c.commit_uncalled.ensures.tray there own room (sym c.in-Some-to.ensures)
    (done.waiting ∙ ap (λ e. waiting_after b (sent_by c.args.step) (gone_of e g.J.Terms.capacity (state s c.commit_uncalled.new.book)) (length (state s c.commit_uncalled.new.book).letters)) c.requires.endless)
    c.fetch.ensures.kept
    (λ place n e comes. c.fetch.ensures.come yes place n e (ap (λ e. comes_to (state s c.commit_uncalled.new.book) (gone_of e g.J.Terms.capacity (state s c.commit_uncalled.new.book)) m.name n) c.requires.endless ∙ comes))
    held

pub returns-in-None-clause-named : goal.returns-in-None-clause-named
returns-in-None-clause-named g c =
    let ks = c.args.keepers.now.all.items in
    let k = c.index_mut.result.now in
    let here = slice_get_read ks 64 c.place_of.result k (sym c.requires.many) c.place_of.ensures.within c.index_mut.ensures.value in
    named_on ks c.place_of.result k c.commit_uncalled.new.keeper c.requires.named here c.commit_uncalled.ensures.name

pub returns-in-None-clause-held : goal.returns-in-None-clause-held
returns-in-None-clause-held g c = λ yes held.
    let ks = c.args.keepers.now.all.items in
    let k = c.index_mut.result.now in
    let done = c.in_ok-commit_uncalled.ensures in
    let here = slice_get_read ks 64 c.place_of.result k (sym c.requires.many) c.place_of.ensures.within c.index_mut.ensures.value in
    held_quiet g.Q.Quorums.system c.args.book.now c.commit_uncalled.new.book c.args.step ks c.place_of.result k c.commit_uncalled.new.keeper c.facts.ensures.legal done.accepted done.book here c.commit_uncalled.ensures.tray
    (sym c.in-None.ensures) held

pub index_mut-requires-in-Some-to : goal.index_mut-requires-in-Some-to
index_mut-requires-in-Some-to g c =
    omega (arith, c.place_of-in-Some-to.ensures.within, length-set c.args.keepers.now.all.items c.place_of.result c.commit_uncalled.new.keeper, c.requires.many)
