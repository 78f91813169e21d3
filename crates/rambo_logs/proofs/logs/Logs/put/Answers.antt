use Rattle.std.proofs.Common.{◌≡◌, ◌-◌, ◌<◌, [], ◌∷◌, map, set, get_or, Some, ap, ◌∙◌, subst}
use Rattle.rambo_logs.specs.declared.pending.Pending.TheVariants.{Put}
use Rattle.rambo_logs.specs.NodeLogs.{extended, settled}
use Rattle.rambo_logs.specs.Stored.{copies_of, entries_of, raised}
use Rattle.rambo_logs.specs.Inside.{room_in, HasRoom}
use Rattle.rambo_logs.proofs.Storing.{stored_put, seen_put}
use Rattle.rambo_logs.proofs.Rooms.{room_of, room_key}
use Rattle.rambo_logs.proofs.logs.Logs.put.Goals as goal

pub invariant_of-self : goal.invariant_of-self
invariant_of-self c =
    let l = c.self.inside in
    let is : l.pending ≡ Put c.in-Put.field-0 c.in-Put.number = c.in-Put.is in
    let room : room_in l.keys l.pending ≡ Some (record { name = c.args.name; key = c.args.copy.key }) = ap (λ s. s.room) c.self.view_is ∙ c.requires in
    let ready : HasRoom l c.in-Put.field-0 c.in-Put.number = room_of l l.pending c.in-Put.field-0 c.in-Put.number c.self.invariant.ready is in
    record {
      stored = stored_put l.puts.items c.args.copy l.keys l.hints.items l.logs.items c.index_mut.result.now c.log_entry.new.log (record { place = c.len.result; number = c.in-Put.number })
          c.self.invariant.stored (c.len.ensures ∙ l.puts.ok.0) c.push_reserved.new.self.items c.log_entry.new.hints.items c.place_of-node.result c.place_of-node.ensures.within
          c.push_reserved.ensures.items ready.known (room_key l.keys l.pending c.in-Put.field-0 c.in-Put.number c.args.name c.args.copy.key is room) ready.row
          c.index_mut.ensures.value c.log_entry.ensures.log (c.log_entry.ensures.hints ∙ ap (λ p. raised p c.place_of-node.result l.hints.items (record { place = c.len.result; number = c.in-Put.number })) c.as_slice.ensures.value);
      ready = tt;
    }

pub returns : goal.returns
returns c =
    let l = c.self.inside in
    let logs = l.logs.items in
    let next = c.log_entry.new.log in
    let all = c.push_reserved.new.self.items in
    let place : c.place_of-node.result ≡ c.args.name - 1 = c.place_of-node.ensures.place in
    let below : c.args.name - 1 < 64 = subst (λ n. n < 64) place c.place_of-node.ensures.within in
    ap settled
    (ap (λ n. map (copies_of all) (entries_of (set logs n next))) place
    ∙ seen_put l.puts.items c.args.copy l.keys l.hints.items logs c.index_mut.result.now next (record { place = c.len.result; number = c.in-Put.number })
    c.self.invariant.stored (c.len.ensures ∙ l.puts.ok.0) all c.args.name below c.push_reserved.ensures.items
    (c.index_mut.ensures.value ∙ ap (λ n. get_or logs n c.index_mut.result.now) place) c.log_entry.ensures.log
    ∙ ap (λ s. extended s.logs c.args.name (c.args.copy ∷ [])) c.self.view_is)
