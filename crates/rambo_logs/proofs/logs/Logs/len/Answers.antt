use Rattle.std.proofs.Common.{◌≡◌, ◌-◌, ◌<◌, length, get_or, sym, ap, ◌∙◌, arith}
use Rattle.rambo_logs.specs.NodeLogs.{log_at}
use Rattle.rambo_logs.proofs.Storing.{length_seen, length-entries_of}
use Rattle.rambo_logs.proofs.logs.Logs.len.Goals as goal

pub returns-clause-count : goal.returns-clause-count
returns-clause-count c =
    let l = c.self.inside in
    let logs = l.logs.items in
    let nodes : length logs ≡ 64 = sym (length-entries_of logs) ∙ c.self.invariant.stored.nodes in
    let place : c.place_of.result ≡ c.args.name - 1 = c.place_of.ensures.place in
    let below : c.place_of.result < 64 = c.place_of.ensures.within in
    c.len.ensures ∙ c.index.result.now.ok.0
    ∙ length_seen l.puts.items logs c.args.name c.index.result.now (omega (arith, nodes, place, below)) (c.index.ensures ∙ ap (λ n. get_or logs n c.index.result.now) place)
    ∙ ap (λ s. length (log_at s.logs c.args.name)) c.self.view_is
