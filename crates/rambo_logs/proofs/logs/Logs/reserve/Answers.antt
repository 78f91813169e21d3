use Rattle.std.proofs.Common.{◌≡◌, ◌∙◌, ◌-◌, ◌+◌, ◌<◌, ◌≤◌, List, Vec, Global, length, map, set, sym, ap, subst, arith}
use Rattle.std.specs.Prelude.{slice_index_or}
use Rattle.std.specs.Vec.{vec_len, vec_capacity}
use Rattle.rambo_logs.specs.declared.entry.Entry.{Entry}
use Rattle.rambo_logs.specs.NodeLogs.{settled, with_room}
use Rattle.rambo_logs.specs.Stored.{copies_of, entries_of, AreStored}
use Rattle.rambo_logs.proofs.Bringing.{stored_same, entries_of-same, room_there}
use Rattle.rambo_logs.proofs.Storing.{length-entries_of}
use Rattle.rambo_logs.proofs.Reserving.{stored_keys, stored_rows, stored_puts}
use Rattle.rambo_names.proofs.Errors.{on_err}
use Rattle.rambo_logs.proofs.logs.Logs.reserve.Goals as goal

pub invariant_of-self : goal.invariant_of-self
invariant_of-self c =
    let l = c.self.inside in
    let logs = entries_of l.logs.items in
    let numbered : AreStored l.puts.items c.number_of.new.self l.hints.items logs =
    stored_keys l.puts.items l.keys l.hints.items logs c.self.invariant.stored c.number_of.new.self c.number_of.ensures.grows c.number_of.ensures.distinct in
    record { stored = numbered; ready = tt }

pub invariant_of-self-in_err-make_rows : goal.invariant_of-self-in_err-make_rows
invariant_of-self-in_err-make_rows c =
    let l = c.self.inside in
    let logs = entries_of l.logs.items in
    let numbered : AreStored l.puts.items c.number_of.new.self l.hints.items logs =
    stored_keys l.puts.items l.keys l.hints.items logs c.self.invariant.stored c.number_of.new.self c.number_of.ensures.grows c.number_of.ensures.distinct in
    let rowed : AreStored l.puts.items c.number_of.new.self c.make_rows.new.hints.items logs =
    stored_rows l.puts.items c.number_of.new.self l.hints.items logs numbered c.make_rows.new.hints.items (length c.make_rows.new.hints.items - length l.hints.items) c.in_ok-number.number
    c.in_ok-number.ensures.known c.make_rows.ensures.grows c.make_rows.ensures.rows in
    record { stored = rowed; ready = tt }

pub invariant_of-self-in_err-reserve : goal.invariant_of-self-in_err-reserve
invariant_of-self-in_err-reserve c =
    let l = c.self.inside in
    let logs = entries_of l.logs.items in
    let numbered : AreStored l.puts.items c.number_of.new.self l.hints.items logs =
    stored_keys l.puts.items l.keys l.hints.items logs c.self.invariant.stored c.number_of.new.self c.number_of.ensures.grows c.number_of.ensures.distinct in
    let rowed : AreStored l.puts.items c.number_of.new.self c.make_rows.new.hints.items logs =
    stored_rows l.puts.items c.number_of.new.self l.hints.items logs numbered c.make_rows.new.hints.items (length c.make_rows.new.hints.items - length l.hints.items) c.in_ok-number.number
    c.in_ok-number.ensures.known c.make_rows.ensures.grows c.make_rows.ensures.rows in
    let put : AreStored c.reserve.new.self.items c.number_of.new.self c.make_rows.new.hints.items logs =
    stored_puts l.puts.items c.number_of.new.self c.make_rows.new.hints.items logs rowed c.reserve.new.self.items c.reserve.ensures.items in
    record { stored = put; ready = tt }

pub invariant_of-self-in_err-reserve-2 : goal.invariant_of-self-in_err-reserve-2
invariant_of-self-in_err-reserve-2 c =
    let l = c.self.inside in
    let logs = entries_of l.logs.items in
    let numbered : AreStored l.puts.items c.number_of.new.self l.hints.items logs =
    stored_keys l.puts.items l.keys l.hints.items logs c.self.invariant.stored c.number_of.new.self c.number_of.ensures.grows c.number_of.ensures.distinct in
    let rowed : AreStored l.puts.items c.number_of.new.self c.make_rows.new.hints.items logs =
    stored_rows l.puts.items c.number_of.new.self l.hints.items logs numbered c.make_rows.new.hints.items (length c.make_rows.new.hints.items - length l.hints.items) c.in_ok-number.number
    c.in_ok-number.ensures.known c.make_rows.ensures.grows c.make_rows.ensures.rows in
    let put : AreStored c.reserve.new.self.items c.number_of.new.self c.make_rows.new.hints.items logs =
    stored_puts l.puts.items c.number_of.new.self c.make_rows.new.hints.items logs rowed c.reserve.new.self.items c.reserve.ensures.items in
    record { stored = stored_same c.reserve.new.self.items c.number_of.new.self c.make_rows.new.hints.items l.logs.items c.place_of.result c.index_mut.result.now c.reserve-2.new.self c.place_of.ensures.within c.index_mut.ensures.value c.reserve-2.ensures.items put; ready = tt }

pub returns-in_err-reserve-2-clause-err : goal.returns-in_err-reserve-2-clause-err
returns-in_err-reserve-2-clause-err c =
    let l = c.self.inside in
    let nodes : length l.logs.items ≡ 64 = sym (length-entries_of l.logs.items) ∙ c.self.invariant.stored.nodes in
    let below : c.place_of.result < 64 = c.place_of.ensures.within in
    let same : entries_of (set l.logs.items c.place_of.result c.reserve-2.new.self) ≡ entries_of l.logs.items =
    entries_of-same l.logs.items c.place_of.result c.index_mut.result.now c.reserve-2.new.self (omega (arith, nodes, below)) c.index_mut.ensures.value c.reserve-2.ensures.items in
    on_err c.from_residual-in_err-reserve-2.result
    ((λ i. settled (map (copies_of (c.reserve.ensures.items i)) (same i))) ∙ ap (λ s. settled s.logs) c.self.view_is)

pub invariant_of-self-2 : goal.invariant_of-self-2
invariant_of-self-2 c =
    let l = c.self.inside in
    let logs = entries_of l.logs.items in
    let numbered : AreStored l.puts.items c.number_of.new.self l.hints.items logs =
    stored_keys l.puts.items l.keys l.hints.items logs c.self.invariant.stored c.number_of.new.self c.number_of.ensures.grows c.number_of.ensures.distinct in
    let rowed : AreStored l.puts.items c.number_of.new.self c.make_rows.new.hints.items logs =
    stored_rows l.puts.items c.number_of.new.self l.hints.items logs numbered c.make_rows.new.hints.items (length c.make_rows.new.hints.items - length l.hints.items) c.in_ok-number.number
    c.in_ok-number.ensures.known c.make_rows.ensures.grows c.make_rows.ensures.rows in
    let put : AreStored c.reserve.new.self.items c.number_of.new.self c.make_rows.new.hints.items logs =
    stored_puts l.puts.items c.number_of.new.self c.make_rows.new.hints.items logs rowed c.reserve.new.self.items c.reserve.ensures.items in
    let nodes : length l.logs.items ≡ 64 = sym (length-entries_of l.logs.items) ∙ c.self.invariant.stored.nodes in
    let below : c.place_of.result < 64 = c.place_of.ensures.within in
    let room : vec_len c.reserve.new.self + 1 ≤ vec_capacity c.reserve.new.self = c.in_ok-reserve.ensures.ok in
    let next : List (Vec Entry Global) = set l.logs.items c.place_of.result c.reserve-2.new.self in
    record {
      stored = stored_same c.reserve.new.self.items c.number_of.new.self c.make_rows.new.hints.items l.logs.items c.place_of.result c.index_mut.result.now c.reserve-2.new.self c.place_of.ensures.within c.index_mut.ensures.value c.reserve-2.ensures.items put;
      ready = record {
        put = omega (arith, room);
        known = c.in_ok-number.ensures.known;
        row = c.in_ok-make_rows.ensures.row;
        log = subst (λ n. (d : Vec Entry Global) → vec_len (slice_index_or next n d) < vec_capacity (slice_index_or next n d)) c.place_of.ensures.place
            (λ d.
            let own : vec_len (slice_index_or next c.place_of.result d) + 1 ≤ vec_capacity (slice_index_or next c.place_of.result d) =
            room_there l.logs.items c.place_of.result c.reserve-2.new.self 1 (omega (arith, nodes, below)) c.in_ok-reserve-2.ensures.ok d in
            omega (arith, own));
      };
    }

pub returns-clause-ok : goal.returns-clause-ok
returns-clause-ok c =
    let l = c.self.inside in
    let nodes : length l.logs.items ≡ 64 = sym (length-entries_of l.logs.items) ∙ c.self.invariant.stored.nodes in
    let below : c.place_of.result < 64 = c.place_of.ensures.within in
    let same : entries_of (set l.logs.items c.place_of.result c.reserve-2.new.self) ≡ entries_of l.logs.items =
    entries_of-same l.logs.items c.place_of.result c.index_mut.result.now c.reserve-2.new.self (omega (arith, nodes, below)) c.index_mut.ensures.value c.reserve-2.ensures.items in
    (λ i. with_room (map (copies_of (c.reserve.ensures.items i)) (same i)) c.args.name (c.in_ok-number.ensures.number i)) ∙ ap (λ s. with_room s.logs c.args.name c.args.key.now) c.self.view_is
