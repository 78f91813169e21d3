use Rattle.std.proofs.Common.{◌≡◌, ◌-◌, ◌<◌, ◌++◌, map, set, length, get_or, sym, ap, ◌∙◌, subst, arith}
use Rattle.std.specs.Option.{IsSomeAnd}
use Rattle.rambo_logs.specs.NodeLogs.{extended, settled}
use Rattle.rambo_logs.specs.Stored.{copies_of, entries_of, all_raised}
use Rattle.rambo_logs.specs.Inside.{HasBrought}
use Rattle.rambo_logs.proofs.Storing.{stored_logged, seen_logged, length-entries_of}
use Rattle.rambo_logs.proofs.Rooms.{brought_to, brought_copies}
use Rattle.rambo_logs.proofs.logs.Logs.take_on.Goals as goal

pub invariant_of-self : goal.invariant_of-self
invariant_of-self c =
    let l = c.self.inside in
    let node = c.place_of-node.result in
    let ready : HasBrought l c.args.to =
    brought_to l l.pending c.args.to c.self.invariant.ready (subst (λ o. IsSomeAnd o (λ b. b.to ≡ c.args.to)) (sym (ap (λ s. s.brought) c.self.view_is)) c.requires) in
    record {
      stored = stored_logged l.puts.items l.logs.items c.index_mut.result.now c.log_entries.new.log l.lacked.items l.keys l.hints.items c.log_entries.new.hints.items node
          c.self.invariant.stored c.place_of-node.ensures.within ready.entries c.index_mut.ensures.value
          (c.log_entries.ensures.log ∙ ap (λ e. c.index_mut.result.now.items ++ e) c.as_slice-2.ensures.value)
          (c.log_entries.ensures.hints ∙ (λ i. all_raised (c.as_slice.ensures.value i) node l.hints.items (c.as_slice-2.ensures.value i)));
      ready = tt;
    }

pub returns : goal.returns
returns c b is =
    let l = c.self.inside in
    let logs = l.logs.items in
    let next = c.log_entries.new.log in
    let nodes : length logs ≡ 64 = sym (length-entries_of logs) ∙ c.self.invariant.stored.nodes in
    let place : c.place_of-node.result ≡ c.args.to - 1 = c.place_of-node.ensures.place in
    let below : c.place_of-node.result < 64 = c.place_of-node.ensures.within in
    ap settled
    (ap (λ n. map (copies_of l.puts.items) (entries_of (set logs n next))) place
    ∙ seen_logged l.puts.items logs c.index_mut.result.now next l.lacked.items c.args.to (omega (arith, nodes, place, below))
    (c.index_mut.ensures.value ∙ ap (λ n. get_or logs n c.index_mut.result.now) place)
    (c.log_entries.ensures.log ∙ ap (λ e. c.index_mut.result.now.items ++ e) c.as_slice-2.ensures.value)
    ∙ (λ i. extended (c.self.view_is i).logs c.args.to (brought_copies l l.pending b (ap (λ s. s.brought) c.self.view_is ∙ is) i)))
