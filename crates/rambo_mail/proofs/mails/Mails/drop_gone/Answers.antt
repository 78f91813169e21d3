use Rattle.std.proofs.Common.{◌<◌, length, [], ap, ◌∙◌, arith, slice_set, slice_index_or}
use Rattle.rambo_mail.specs.Queues.{lists_of}
use Rattle.rambo_mail.specs.Waiting.{MailState, drop_gone, left}
use Rattle.rambo_mail.proofs.Lists.{lists_put}
use Rattle.rambo_mail.proofs.mails.Mails.drop_gone.Goals as goal

pub returns : goal.returns
returns c =
    let m = c.self.inside in
    let w = lists_of m.queues.items in
    let gone = c.args.gone in
    let lt : c.place_of.result < length m.queues.items = omega (arith, c.place_of.ensures.within, c.self.invariant.queues) in
    let waiting = lists_put m.queues.items c.place_of.result c.drop_gone.new.self c.index_mut.result.now (drop_gone gone) (c.drop_gone.ensures.rest ∙ ap (λ q. drop_gone gone q.entries) c.index_mut.ensures.value) lt
    ∙ ap (λ p. slice_set w p (drop_gone gone (slice_index_or w p []))) c.place_of.ensures.place in
    (λ i. record { waiting = waiting i; lose = m.lose; twice = m.twice; ready = m.ready })
    ∙ ap (λ (m : MailState). left m c.args.to gone) c.self.view_is
