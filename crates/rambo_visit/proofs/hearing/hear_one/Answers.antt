use Rattle.std.proofs.Common.{length, slice_get, refl, sym, ap, ◌∙◌}
use Rattle.std.proofs.lemmas.Option.{slice_get_read}
use Rattle.rambo_mail.specs.declared.mail.Mail.{Mail}
use Rattle.rambo_outbox.specs.Outboxes.{heard_by}
use Rattle.rambo_run.proofs.Lists.{some_inj}
use Rattle.rambo_visit.proofs.Visits.{no_letter, same_number}
use Rattle.rambo_visit.proofs.hearing.hear_one.Goals as goal

pub ready-requires : goal.ready-requires
ready-requires g c =
    let place = c.args.place in
    let mail = c.in-Some.mail.now in
    let found = c.in-Some.ensures.lookup in
    let there = sym (ap (λ tray. slice_get tray place) c.tray.ensures) ∙ slice_get_read c.tray.result.now (length c.tray.result.now) place mail refl found.3.0 found.1 in
    (c.requires-raw.1.1.1.1, (λ f e m is. no_letter mail.number m is, λ number e. (place, mail, there, same_number mail.number number e)))

pub forget-requires : goal.forget-requires
forget-requires g c = c.requires-raw.1.1.1.1

pub returns-clause-heard : goal.returns-clause-heard
returns-clause-heard g c = λ m e.
    let place = c.args.place in
    let mail = c.in-Some.mail.now in
    let found = c.in-Some.ensures.lookup in
    let there = sym (ap (λ tray. slice_get tray place) c.tray.ensures) ∙ slice_get_read c.tray.result.now (length c.tray.result.now) place mail refl found.3.0 found.1 in
    let same = some_inj mail m (sym there ∙ e) in
    c.heard.ensures ∙ (λ i. heard_by c.args.outbox.now ((c.sender-from.ensures ∙ ap (λ (m : Mail _). m.letter.sender) same) i) (same i).asks)
