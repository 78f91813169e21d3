use Rattle.std.proofs.Common.{None, Some, ap, ◌∙◌}
use Rattle.rambo_mail.specs.Queues.{QueueState}
use Rattle.rambo_mail.specs.Waiting.{MailState}
use Rattle.rambo_mail.proofs.Lists.{lists_kept}
use Rattle.rambo_mail.proofs.mails.Mails.make_room.Goals as goal

pub returns-in_err-make_room-clause-same : goal.returns-in_err-make_room-clause-same
returns-in_err-make_room-clause-same g c =
    let m = c.self.inside in
    let waiting = lists_kept m.queues.items c.place_of.result c.make_room.new.self c.index_mut.result.now (c.make_room.ensures.same ∙ ap (λ (q : QueueState). q.entries) c.index_mut.ensures.value) in
    (λ i. record { waiting = waiting i; lose = m.lose; twice = m.twice; ready = None })
    ∙ ap (λ (m : MailState). record m { ready = None }) c.self.view_is

pub returns-clause-same : goal.returns-clause-same
returns-clause-same g c =
    let m = c.self.inside in
    let waiting = lists_kept m.queues.items c.place_of.result c.make_room.new.self c.index_mut.result.now (c.make_room.ensures.same ∙ ap (λ (q : QueueState). q.entries) c.index_mut.ensures.value) in
    (λ i. record { waiting = waiting i; lose = m.lose; twice = m.twice; ready = Some c.in-Send.to })
    ∙ ap (λ (m : MailState). record m { ready = Some c.in-Send.to }) c.self.view_is
