use Rattle.std.proofs.lemmas.Grind.{common_steps}
use Rattle.std.proofs.Common.{◌≡◌, ◌∙◌, ◌-◌, ◌+◌, ◌<◌, ◌≤◌, [], Vec, Global, length, filter, map, set, sym, ap, subst, true≢false, arith}
use Rattle.std.specs.Prelude.{All, slice_index_or}
use Rattle.std.specs.Vec.{vec_len, vec_capacity}
use Rattle.std.proofs.lemmas.List.Elements.{All-weaker}
use Rattle.rambo_tag.specs.Logs.{greatest_of}
use Rattle.rambo_logs.specs.declared.entry.Entry.{Entry}
use Rattle.rambo_logs.specs.NodeLogs.{log_at, part, lacked, settled, with_brought}
use Rattle.rambo_logs.specs.Stored.{copies_of, is_lacked, entries_of, IsEntry, IsWithin}
use Rattle.rambo_logs.proofs.Lacking.{joined-lacked}
use Rattle.rambo_logs.proofs.Bringing.{part_entries, more_entries, more_seen, none_picked, stored_same, entries_of-same, room_there}
use Rattle.rambo_logs.proofs.Storing.{length-entries_of}
use Rattle.rambo_names.proofs.Errors.{on_err}
use Rattle.rambo_logs.proofs.logs.Logs.bring.Goals as goal

pub list_lacked-requires-clause-within : goal.list_lacked-requires-clause-within
list_lacked-requires-clause-within c =
    let l = c.self.inside in
    let es = c.between.result.now in
    let is : es ≡ part c.index.result.now.items c.args.start c.args.end = c.between.ensures ∙ ap (λ l. part l c.args.start c.args.end) c.as_slice-3.ensures.value in
    All-weaker (IsEntry l.puts.items l.keys l.hints.items) (IsWithin c.as_slice.result.now c.as_slice-2.result.now)
    (λ e h. subst (λ p. IsWithin p c.as_slice-2.result.now e) (sym c.as_slice.ensures.value) (subst (λ a. IsWithin l.puts.items a e) (sym c.as_slice-2.ensures.value) h.within))
    es (part_entries l.puts.items l.keys l.hints.items l.logs.items c.args.to c.args.from c.args.start c.args.end c.index.result.now es []
    c.self.invariant.stored c.place_of-node.result c.place_of.result c.place_of-node.ensures.place c.place_of.ensures.place c.place_of-node.ensures.within c.place_of.ensures.within c.index.ensures is)

pub returns-in_err-list_lacked-clause-enough : goal.returns-in_err-list_lacked-clause-enough
returns-in_err-list_lacked-clause-enough c =
    joined-lacked (greatest_of (log_at c.args.self.now.logs c.args.to)) (part (log_at c.args.self.now.logs c.args.from) c.args.start c.args.end)

pub returns-in_err-pack-clause-enough : goal.returns-in_err-pack-clause-enough
returns-in_err-pack-clause-enough c =
    joined-lacked (greatest_of (log_at c.args.self.now.logs c.args.to)) (part (log_at c.args.self.now.logs c.args.from) c.args.start c.args.end)

pub returns-in_err-reserve-clause-enough : goal.returns-in_err-reserve-clause-enough
returns-in_err-reserve-clause-enough c =
    joined-lacked (greatest_of (log_at c.args.self.now.logs c.args.to)) (part (log_at c.args.self.now.logs c.args.from) c.args.start c.args.end)

pub returns-clause-enough : goal.returns-clause-enough
returns-clause-enough c =
    joined-lacked (greatest_of (log_at c.args.self.now.logs c.args.to)) (part (log_at c.args.self.now.logs c.args.from) c.args.start c.args.end)

pub returns-in_err-list_lacked-clause-idle : goal.returns-in_err-list_lacked-clause-idle
returns-in_err-list_lacked-clause-idle c none =
    let l = c.self.inside in
    let es = c.between.result.now in
    let is : es ≡ part c.index.result.now.items c.args.start c.args.end = c.between.ensures ∙ ap (λ l. part l c.args.start c.args.end) c.as_slice-3.ensures.value in
    let seen = subst (λ s. lacked (greatest_of (log_at s.logs c.args.to)) (part (log_at s.logs c.args.from) c.args.start c.args.end) ≡ []) (sym c.self.view_is) none in
    let empty = none_picked l.puts.items l.keys l.hints.items l.logs.items c.args.to c.args.from c.args.start c.args.end c.index.result.now es []
    c.self.invariant.stored c.place_of-node.result c.place_of.result c.place_of-node.ensures.place c.place_of.ensures.place c.place_of-node.ensures.within c.place_of.ensures.within c.index.ensures is seen in
    absurd (true≢false (sym (c.in_err-list_lacked.ensures.idle ((λ i. filter (is_lacked (c.as_slice.ensures.value i) (c.as_slice-2.ensures.value i) c.place_of-node.result) es) ∙ empty))))

pub returns-in_err-pack-clause-idle : goal.returns-in_err-pack-clause-idle
returns-in_err-pack-clause-idle c none =
    let l = c.self.inside in
    let es = c.between.result.now in
    let is : es ≡ part c.index.result.now.items c.args.start c.args.end = c.between.ensures ∙ ap (λ l. part l c.args.start c.args.end) c.as_slice-3.ensures.value in
    let picked : c.list_lacked.new.lacked.items ≡ filter (is_lacked l.puts.items l.hints.items c.place_of-node.result) es =
    c.in_ok-list_lacked.ensures.ok ∙ (λ i. filter (is_lacked (c.as_slice.ensures.value i) (c.as_slice-2.ensures.value i) c.place_of-node.result) es) in
    let seen = subst (λ s. lacked (greatest_of (log_at s.logs c.args.to)) (part (log_at s.logs c.args.from) c.args.start c.args.end) ≡ []) (sym c.self.view_is) none in
    let empty = none_picked l.puts.items l.keys l.hints.items l.logs.items c.args.to c.args.from c.args.start c.args.end c.index.result.now es []
    c.self.invariant.stored c.place_of-node.result c.place_of.result c.place_of-node.ensures.place c.place_of.ensures.place c.place_of-node.ensures.within c.place_of.ensures.within c.index.ensures is seen in
    absurd (true≢false (sym (c.in_err-pack.ensures.idle (c.as_slice-4.ensures.value ∙ picked ∙ empty))))

pub returns-in_err-reserve-clause-idle : goal.returns-in_err-reserve-clause-idle
returns-in_err-reserve-clause-idle c none =
    let l = c.self.inside in
    let es = c.between.result.now in
    let is : es ≡ part c.index.result.now.items c.args.start c.args.end = c.between.ensures ∙ ap (λ l. part l c.args.start c.args.end) c.as_slice-3.ensures.value in
    let picked : c.list_lacked.new.lacked.items ≡ filter (is_lacked l.puts.items l.hints.items c.place_of-node.result) es =
    c.in_ok-list_lacked.ensures.ok ∙ (λ i. filter (is_lacked (c.as_slice.ensures.value i) (c.as_slice-2.ensures.value i) c.place_of-node.result) es) in
    let seen = subst (λ s. lacked (greatest_of (log_at s.logs c.args.to)) (part (log_at s.logs c.args.from) c.args.start c.args.end) ≡ []) (sym c.self.view_is) none in
    let empty = none_picked l.puts.items l.keys l.hints.items l.logs.items c.args.to c.args.from c.args.start c.args.end c.index.result.now es []
    c.self.invariant.stored c.place_of-node.result c.place_of.result c.place_of-node.ensures.place c.place_of.ensures.place c.place_of-node.ensures.within c.place_of.ensures.within c.index.ensures is seen in
    let none_left : length c.list_lacked.new.lacked.items ≡ 0 = ap length (picked ∙ empty) in
    let count : c.len.result ≡ length c.list_lacked.new.lacked.items = c.len.ensures ∙ c.list_lacked.new.lacked.ok.0 in
    let within : vec_len c.index_mut.result.now ≤ vec_capacity c.index_mut.result.now = c.index_mut.result.now.ok.1 in
    let full : vec_capacity c.index_mut.result.now < vec_len c.index_mut.result.now + c.len.result = c.in_err-reserve.ensures.full in
    absurd (omega (arith, none_left, count, within, full))

pub pack_of-requires : goal.pack_of-requires
pack_of-requires c =
    let l = c.self.inside in
    let es = c.between.result.now in
    let is : es ≡ part c.index.result.now.items c.args.start c.args.end = c.between.ensures ∙ ap (λ l. part l c.args.start c.args.end) c.as_slice-3.ensures.value in
    let picked : c.list_lacked.new.lacked.items ≡ filter (is_lacked l.puts.items l.hints.items c.place_of-node.result) es =
    c.in_ok-list_lacked.ensures.ok ∙ (λ i. filter (is_lacked (c.as_slice.ensures.value i) (c.as_slice-2.ensures.value i) c.place_of-node.result) es) in
    All-weaker (IsEntry l.puts.items l.keys l.hints.items) (λ e. e.place < length l.puts.items) (λ e h. h.within.place) c.as_slice-4.result.now
    (subst (All (IsEntry l.puts.items l.keys l.hints.items)) (sym c.as_slice-4.ensures.value) (more_entries l.puts.items l.keys l.hints.items l.logs.items c.args.to c.args.from c.args.start c.args.end c.index.result.now es c.list_lacked.new.lacked.items
    c.self.invariant.stored c.place_of-node.result c.place_of.result c.place_of-node.ensures.place c.place_of.ensures.place c.place_of-node.ensures.within c.place_of.ensures.within c.index.ensures is picked))

pub invariant_of-self-in_err-reserve : goal.invariant_of-self-in_err-reserve
invariant_of-self-in_err-reserve c =
    let l = c.self.inside in
    record {
      stored = stored_same l.puts.items l.keys l.hints.items l.logs.items c.place_of-node.result c.index_mut.result.now c.reserve.new.self c.place_of-node.ensures.within c.index_mut.ensures.value c.reserve.ensures.items c.self.invariant.stored;
      ready = tt;
    }

pub returns-in_err-reserve-clause-err : goal.returns-in_err-reserve-clause-err
returns-in_err-reserve-clause-err c =
    let l = c.self.inside in
    let nodes : length l.logs.items ≡ 64 = sym (length-entries_of l.logs.items) ∙ c.self.invariant.stored.nodes in
    let below : c.place_of-node.result < 64 = c.place_of-node.ensures.within in
    let same : entries_of (set l.logs.items c.place_of-node.result c.reserve.new.self) ≡ entries_of l.logs.items =
    entries_of-same l.logs.items c.place_of-node.result c.index_mut.result.now c.reserve.new.self (omega (arith, nodes, below)) c.index_mut.ensures.value c.reserve.ensures.items in
    on_err c.from_residual-in_err-reserve.result (ap (λ ls. settled (map (copies_of l.puts.items) ls)) same ∙ ap (λ s. settled s.logs) c.self.view_is)

pub invariant_of-self-2 : goal.invariant_of-self-2
invariant_of-self-2 c =
    let l = c.self.inside in
    let es = c.between.result.now in
    let is : es ≡ part c.index.result.now.items c.args.start c.args.end = c.between.ensures ∙ ap (λ l. part l c.args.start c.args.end) c.as_slice-3.ensures.value in
    let picked : c.list_lacked.new.lacked.items ≡ filter (is_lacked l.puts.items l.hints.items c.place_of-node.result) es =
    c.in_ok-list_lacked.ensures.ok ∙ (λ i. filter (is_lacked (c.as_slice.ensures.value i) (c.as_slice-2.ensures.value i) c.place_of-node.result) es) in
    let nodes : length l.logs.items ≡ 64 = sym (length-entries_of l.logs.items) ∙ c.self.invariant.stored.nodes in
    let place : c.place_of-node.result ≡ c.args.to - 1 = c.place_of-node.ensures.place in
    let below : c.place_of-node.result < 64 = c.place_of-node.ensures.within in
    record {
      stored = stored_same l.puts.items l.keys l.hints.items l.logs.items c.place_of-node.result c.index_mut.result.now c.reserve.new.self below c.index_mut.ensures.value c.reserve.ensures.items c.self.invariant.stored;
      ready = record {
        entries = more_entries l.puts.items l.keys l.hints.items l.logs.items c.args.to c.args.from c.args.start c.args.end c.index.result.now es c.list_lacked.new.lacked.items
            c.self.invariant.stored c.place_of-node.result c.place_of.result c.place_of-node.ensures.place c.place_of.ensures.place c.place_of-node.ensures.within c.place_of.ensures.within c.index.ensures is picked;
        log = subst (λ n. (d : Vec Entry Global) → vec_len (slice_index_or (set l.logs.items c.place_of-node.result c.reserve.new.self) n d) + length c.list_lacked.new.lacked.items ≤ vec_capacity (slice_index_or (set l.logs.items c.place_of-node.result c.reserve.new.self) n d)) place
            (room_there l.logs.items c.place_of-node.result c.reserve.new.self (length c.list_lacked.new.lacked.items) (omega (arith, nodes, below))
            (subst (λ n. vec_len c.reserve.new.self + n ≤ vec_capacity c.reserve.new.self) (c.len.ensures ∙ c.list_lacked.new.lacked.ok.0) c.in_ok-reserve.ensures.ok));
      };
    }

pub returns-clause-ok : goal.returns-clause-ok
returns-clause-ok c =
    let l = c.self.inside in
    let es = c.between.result.now in
    let is : es ≡ part c.index.result.now.items c.args.start c.args.end = c.between.ensures ∙ ap (λ l. part l c.args.start c.args.end) c.as_slice-3.ensures.value in
    let picked : c.list_lacked.new.lacked.items ≡ filter (is_lacked l.puts.items l.hints.items c.place_of-node.result) es =
    c.in_ok-list_lacked.ensures.ok ∙ (λ i. filter (is_lacked (c.as_slice.ensures.value i) (c.as_slice-2.ensures.value i) c.place_of-node.result) es) in
    let nodes : length l.logs.items ≡ 64 = sym (length-entries_of l.logs.items) ∙ c.self.invariant.stored.nodes in
    let below : c.place_of-node.result < 64 = c.place_of-node.ensures.within in
    let same : entries_of (set l.logs.items c.place_of-node.result c.reserve.new.self) ≡ entries_of l.logs.items =
    entries_of-same l.logs.items c.place_of-node.result c.index_mut.result.now c.reserve.new.self (omega (arith, nodes, below)) c.index_mut.ensures.value c.reserve.ensures.items in
    (λ i. with_brought (map (copies_of l.puts.items) (same i)) c.args.to (more_seen l.puts.items l.keys l.hints.items l.logs.items c.args.to c.args.from c.args.start c.args.end c.index.result.now es c.list_lacked.new.lacked.items
    c.self.invariant.stored c.place_of-node.result c.place_of.result c.place_of-node.ensures.place c.place_of.ensures.place c.place_of-node.ensures.within c.place_of.ensures.within c.index.ensures is picked i))
    ∙ ap (λ s. with_brought s.logs c.args.to (lacked (greatest_of (log_at s.logs c.args.to)) (part (log_at s.logs c.args.from) c.args.start c.args.end))) c.self.view_is

pub returns-clause-given : goal.returns-clause-given
returns-clause-given c =
    let l = c.self.inside in
    let es = c.between.result.now in
    let is : es ≡ part c.index.result.now.items c.args.start c.args.end = c.between.ensures ∙ ap (λ l. part l c.args.start c.args.end) c.as_slice-3.ensures.value in
    let picked : c.list_lacked.new.lacked.items ≡ filter (is_lacked l.puts.items l.hints.items c.place_of-node.result) es =
    c.in_ok-list_lacked.ensures.ok ∙ (λ i. filter (is_lacked (c.as_slice.ensures.value i) (c.as_slice-2.ensures.value i) c.place_of-node.result) es) in
    c.in_ok-pack.ensures.ok ∙ ap (λ e. greatest_of (copies_of l.puts.items e)) c.as_slice-4.ensures.value
    ∙ ap greatest_of (more_seen l.puts.items l.keys l.hints.items l.logs.items c.args.to c.args.from c.args.start c.args.end c.index.result.now es c.list_lacked.new.lacked.items
    c.self.invariant.stored c.place_of-node.result c.place_of.result c.place_of-node.ensures.place c.place_of.ensures.place c.place_of-node.ensures.within c.place_of.ensures.within c.index.ensures is picked)
    ∙ ap (λ s. greatest_of (lacked (greatest_of (log_at s.logs c.args.to)) (part (log_at s.logs c.args.from) c.args.start c.args.end))) c.self.view_is

pub index-requires : goal.index-requires
index-requires c = grind (arith, common_steps)

pub list_lacked-requires-clause-empty : goal.list_lacked-requires-clause-empty
list_lacked-requires-clause-empty c = assumption

pub list_lacked-requires-clause-node : goal.list_lacked-requires-clause-node
list_lacked-requires-clause-node c = assumption

pub list_lacked-requires-clause-hints : goal.list_lacked-requires-clause-hints
list_lacked-requires-clause-hints c = grind (arith, common_steps)

pub invariant_of-self : goal.invariant_of-self
invariant_of-self c = assumption

pub returns-in_err-list_lacked-clause-ok : goal.returns-in_err-list_lacked-clause-ok
returns-in_err-list_lacked-clause-ok c = grind (arith, common_steps)

pub returns-in_err-list_lacked-clause-err : goal.returns-in_err-list_lacked-clause-err
returns-in_err-list_lacked-clause-err c = grind (arith, common_steps)

pub returns-in_err-list_lacked-clause-refused : goal.returns-in_err-list_lacked-clause-refused
returns-in_err-list_lacked-clause-refused c = grind (arith, common_steps)

pub invariant_of-self-in_err-pack : goal.invariant_of-self-in_err-pack
invariant_of-self-in_err-pack c = assumption

pub returns-in_err-pack-clause-ok : goal.returns-in_err-pack-clause-ok
returns-in_err-pack-clause-ok c = grind (arith, common_steps)

pub returns-in_err-pack-clause-err : goal.returns-in_err-pack-clause-err
returns-in_err-pack-clause-err c = grind (arith, common_steps)

pub returns-in_err-pack-clause-refused : goal.returns-in_err-pack-clause-refused
returns-in_err-pack-clause-refused c = grind (arith, common_steps)

pub index_mut-requires : goal.index_mut-requires
index_mut-requires c = grind (arith, common_steps)

pub returns-in_err-reserve-clause-ok : goal.returns-in_err-reserve-clause-ok
returns-in_err-reserve-clause-ok c = grind (arith, common_steps)

pub returns-in_err-reserve-clause-refused : goal.returns-in_err-reserve-clause-refused
returns-in_err-reserve-clause-refused c = grind (arith, common_steps)

pub returns-clause-idle : goal.returns-clause-idle
returns-clause-idle c = assumption

pub returns-clause-err : goal.returns-clause-err
returns-clause-err c = assumption

pub returns-clause-refused : goal.returns-clause-refused
returns-clause-refused c = assumption
