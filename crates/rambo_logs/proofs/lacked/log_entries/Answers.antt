use Rattle.std.proofs.lemmas.Grind.{common_steps}
use Rattle.std.proofs.Common.{◌≡◌, ◌+◌, ◌-◌, ◌<◌, ◌≤◌, ◌++◌, ◌∷◌, [], get_or, length, drop, take, vec_len, vec_capacity, sym, ap, ◌∙◌, subst, append_assoc, arith}
use Rattle.std.proofs.lemmas.List.{take_more, drop_more}
use Rattle.std.proofs.lemmas.List.Elements.{All-weaker}
use Rattle.rambo_logs.specs.declared.entry.Entry.{Entry}
use Rattle.rambo_logs.specs.Stored.{all_raised, IsWithin, AreHints}
use Rattle.rambo_logs.proofs.Hinting.{IsWithin-raised, AreHints-raised}
use Rattle.rambo_logs.proofs.lacked.log_entries.Goals as goal

pub loop-entry-preserved : goal.loop-entry-preserved
loop-entry-preserved c =
    let puts = c.args.puts.now in
    let node = c.args.node in
    let entries = c.args.entries.now in
    let i = c.loop-entry.entry-index in
    let hints = c.loop-entry.hints.items in
    let none : Entry = record { place = 0; number = 0 } in
    let e = get_or entries i none in
    let test : i < length entries = c.loop-entry-test.true in
    let its : IsWithin puts hints e = c.loop-entry.invariant.within i none test in
    let raises = c.log_entry.ensures.hints in
    let room : vec_len c.loop-entry.log + (length entries - i) ≤ vec_capacity c.loop-entry.log = c.loop-entry.invariant.room in
    let longer : vec_len c.log_entry.new.log ≡ vec_len c.loop-entry.log + 1 = c.log_entry.ensures.room in
    let same : vec_capacity c.log_entry.new.log ≡ vec_capacity c.loop-entry.log = c.log_entry.ensures.capacity in
    record {
      room = omega (arith, test, room, longer, same);
      within = All-weaker (IsWithin puts hints) (IsWithin puts c.log_entry.new.hints.items) (λ x h. subst (λ a. IsWithin puts a x) (sym raises) (IsWithin-raised puts node hints e x h)) entries c.loop-entry.invariant.within;
      told = subst (AreHints puts) (sym raises) (AreHints-raised puts node hints e c.loop-entry.invariant.told its.place);
      log = c.log_entry.ensures.log ∙ ap (λ l. l ++ e ∷ []) c.loop-entry.invariant.log ∙ append_assoc c.args.log.now.items (take i entries) (e ∷ []) ∙ ap (λ l. c.args.log.now.items ++ l) (sym (take_more entries i none test));
      raises = ap (λ a. all_raised puts node a (drop (i + 1) entries)) raises ∙ sym (ap (all_raised puts node hints) (drop_more entries i none test)) ∙ c.loop-entry.invariant.raises;
    }

pub loop-entry-init : goal.loop-entry-init
loop-entry-init c = grind (arith, common_steps)

pub offset_bounds-entries-entry-index : goal.offset_bounds-entries-entry-index
offset_bounds-entries-entry-index c = grind (arith, common_steps)

pub log_entry-requires-clause-room : goal.log_entry-requires-clause-room
log_entry-requires-clause-room c = grind (arith, common_steps)

pub log_entry-requires-clause-node : goal.log_entry-requires-clause-node
log_entry-requires-clause-node c = assumption

pub log_entry-requires-clause-within : goal.log_entry-requires-clause-within
log_entry-requires-clause-within c = grind (arith, common_steps)

pub log_entry-requires-clause-hints : goal.log_entry-requires-clause-hints
log_entry-requires-clause-hints c = assumption

pub returns-clause-log : goal.returns-clause-log
returns-clause-log c = grind (arith, common_steps)

pub returns-clause-hints : goal.returns-clause-hints
returns-clause-hints c = grind (arith, common_steps)
