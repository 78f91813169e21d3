use Rattle.std.proofs.Common.{◌<◌, length, drop, [], ap, ◌∙◌, arith, slice_set, slice_index_or}
use Rattle.rambo_mail.specs.Queues.{lists_of}
use Rattle.rambo_mail.specs.Waiting.{MailState, waiting_for, with_waiting}
use Rattle.rambo_mail.proofs.Lists.{lists_put}
use Rattle.rambo_mail.proofs.mails.Mails.drop_first.Goals as goal

pub returns : goal.returns
returns c =
    let m = c.self.inside in
    let w = lists_of m.queues.items in
    let lt : c.place_of.result < length m.queues.items = omega (arith, c.place_of.ensures.within, c.self.invariant.queues) in
    let waiting = lists_put m.queues.items c.place_of.result c.drop_first.new.self c.index_mut.result.now (drop 1) (c.drop_first.ensures.rest ∙ ap (λ q. drop 1 q.entries) c.index_mut.ensures.value) lt
    ∙ ap (λ p. slice_set w p (drop 1 (slice_index_or w p []))) c.place_of.ensures.place in
    (λ i. record { waiting = waiting i; lose = m.lose; twice = m.twice; ready = m.ready })
    ∙ ap (λ (m : MailState). record m { waiting = with_waiting m.waiting c.args.name (drop 1 (waiting_for m.waiting c.args.name)) }) c.self.view_is
