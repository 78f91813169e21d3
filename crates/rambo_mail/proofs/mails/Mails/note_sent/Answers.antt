use Rattle.std.proofs.Common.{◌<◌, ◌++◌, [], None, length, slice_set, slice_index_or, sym, ap, ◌∙◌, arith}
use Rattle.rambo_mail.specs.Queues.{QueueState, lists_of}
use Rattle.rambo_mail.specs.Waiting.{MailState, sent}
use Rattle.rambo_mail.proofs.Lists.{set_found, once_more, twice_more}
use Rattle.rambo_mail.proofs.Sendings.{once_times, twice_times, roomy}
use Rattle.rambo_mail.proofs.mails.Mails.note_sent.Goals as goal

pub returns-then-twice : goal.returns-then-twice
returns-then-twice c = λ ready.
    let m = c.self.inside in
    let qs = m.queues.items in
    let p = c.place_of-place.result in
    let n = c.args.entry in
    let e = ap (λ (m : MailState). m.ready) c.self.view_is ∙ ready in
    let lt : p < length qs = omega (arith, c.place_of-place.ensures.within, c.self.invariant.queues) in
    let room = roomy qs m.ready c.args.to p c.index_mut.result.now c.self.invariant.room e c.place_of-place.ensures.place lt c.index_mut.ensures.value in
    let first = c.push.ensures (omega (arith, room)) in
    let there = c.index_mut-then-twice.ensures.value ∙ set_found qs p c.push.new.self c.index_mut-then-twice.result.now lt ∙ first in
    let second = c.push-then-twice.ensures (omega (arith, room, ap (λ (q : QueueState). q.room) there)) in
    let waiting = twice_more qs p n c.push.new.self c.push-then-twice.new.self c.index_mut.result.now c.index_mut-then-twice.result.now c.index_mut.ensures.value c.index_mut-then-twice.ensures.value lt
    (ap (λ (q : QueueState). q.entries) first) (ap (λ (q : QueueState). q.entries) second)
    ∙ (λ i. slice_set (lists_of qs) (c.place_of-place.ensures.place i) (slice_index_or (lists_of qs) (c.place_of-place.ensures.place i) [] ++ sym (twice_times m.lose m.twice n (sym c.divides.ensures ∙ c.if-divides.false) (sym c.divides-twice.ensures ∙ c.if-twice.true)) i)) in
    (λ i. record { waiting = waiting i; lose = m.lose; twice = m.twice; ready = None })
    ∙ ap (λ (m : MailState). sent m c.args.to n) c.self.view_is

pub returns-else-twice : goal.returns-else-twice
returns-else-twice c = λ ready.
    let m = c.self.inside in
    let qs = m.queues.items in
    let p = c.place_of-place.result in
    let n = c.args.entry in
    let e = ap (λ (m : MailState). m.ready) c.self.view_is ∙ ready in
    let lt : p < length qs = omega (arith, c.place_of-place.ensures.within, c.self.invariant.queues) in
    let room = roomy qs m.ready c.args.to p c.index_mut.result.now c.self.invariant.room e c.place_of-place.ensures.place lt c.index_mut.ensures.value in
    let first = c.push.ensures (omega (arith, room)) in
    let waiting = once_more qs p n c.push.new.self c.index_mut.result.now c.index_mut.ensures.value lt (ap (λ (q : QueueState). q.entries) first)
    ∙ (λ i. slice_set (lists_of qs) (c.place_of-place.ensures.place i) (slice_index_or (lists_of qs) (c.place_of-place.ensures.place i) [] ++ sym (once_times m.lose m.twice n (sym c.divides.ensures ∙ c.if-divides.false) (sym c.divides-twice.ensures ∙ c.if-twice.false)) i)) in
    (λ i. record { waiting = waiting i; lose = m.lose; twice = m.twice; ready = None })
    ∙ ap (λ (m : MailState). sent m c.args.to n) c.self.view_is
