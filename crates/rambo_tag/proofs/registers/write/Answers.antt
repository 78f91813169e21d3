use Rattle.std.proofs.Common.{ℕ, ◌*◌, ◌<◌, ◌≤◌, true≢false, length, sym, ◌∙◌, subst, arith}
use Rattle.std.specs.Prelude.{min}
use Rattle.indexmap.specs.IndexMap.{spare}
use Rattle.rambo_tag.specs.declared.slot.Slot.{Slot}
use Rattle.rambo_tag.specs.Rows.{room_behind}
use Rattle.rambo_tag.proofs.Slots.{place_found, written_over, length-set, keys_apart, written-copies, written-stamps, written-told, found_told, found_not_told, none_told}
use Rattle.rambo_tag.proofs.Rows.{written-row, written-again}
use Rattle.rambo_tag.proofs.registers.write.Goals as goal

-- room for a change is room in the log
in_log : (s r : ℕ) → 0 < min s r → 0 < r
in_log s r h = omega (arith, h)

-- ---- the key stands there, and its last change was under another number
pub returns-then-not-told-clause-copies : goal.returns-then-not-told-clause-copies
returns-then-not-told-clause-copies g c =
    let t = c.args.table.now.entries in
    let s : Slot = record { version = c.args.copy.version; number = c.args.now } in
    written-copies t _ c.args.copy.key s (written_over t c.args.copy.key s c.index.result.now c.in-Some.place (sym c.in-Some.is ∙ c.requires.place) c.index.ensures)

pub returns-then-not-told-clause-stamps : goal.returns-then-not-told-clause-stamps
returns-then-not-told-clause-stamps g c =
    let t = c.args.table.now.entries in
    let s : Slot = record { version = c.args.copy.version; number = c.args.now } in
    written-stamps t _ c.args.copy.key s (written_over t c.args.copy.key s c.index.result.now c.in-Some.place (sym c.in-Some.is ∙ c.requires.place) c.index.ensures)

pub returns-then-not-told-clause-told : goal.returns-then-not-told-clause-told
returns-then-not-told-clause-told g c =
    let t = c.args.table.now.entries in
    let s : Slot = record { version = c.args.copy.version; number = c.args.now } in
    written-told t _ c.args.copy.key s (written_over t c.args.copy.key s c.index.result.now c.in-Some.place (sym c.in-Some.is ∙ c.requires.place) c.index.ensures)

pub returns-then-not-told-clause-indexed : goal.returns-then-not-told-clause-indexed
returns-then-not-told-clause-indexed g c =
    let t = c.args.table.now.entries in
    record { distinct = keys_apart t c.in-Some.place (record { version = c.args.copy.version; number = c.args.now }) c.requires.indexed.distinct; logged = c.write_row.ensures.logged; short = c.write_row.ensures.short }

pub write_row-requires-clause-logged : goal.write_row-requires-clause-logged
write_row-requires-clause-logged g c =
    let t = c.args.table.now.entries in
    let key = c.args.copy.key in
    let s : Slot = record { version = c.args.copy.version; number = c.args.now } in
    let place = c.in-Some.place in
    let found = sym c.in-Some.is ∙ c.requires.place in
    written-row t _ c.args.log.now.items key s place c.requires.indexed c.requires.late (found_not_told t key c.index.result.now place c.args.now found c.index.ensures c.if-not-told.true)
    (written_over t key s c.index.result.now place found c.index.ensures) (place_found t key place found)

pub write_row-requires-clause-room : goal.write_row-requires-clause-room
write_row-requires-clause-room g c =
    let t = c.args.table.now.entries in
    let found = sym c.in-Some.is ∙ c.requires.place in
    in_log (spare c.args.table.now) (room_behind c.args.log.now) (c.requires.room (found_not_told t c.args.copy.key c.index.result.now c.in-Some.place c.args.now found c.index.ensures c.if-not-told.true))

pub returns-then-not-told-clause-again : goal.returns-then-not-told-clause-again
returns-then-not-told-clause-again g c told =
    let t = c.args.table.now.entries in
    let other = found_not_told t c.args.copy.key c.index.result.now c.in-Some.place c.args.now (sym c.in-Some.is ∙ c.requires.place) c.index.ensures c.if-not-told.true in
    absurd (true≢false (sym told ∙ other))

-- ---- or under this one
pub returns-in-Some-clause-copies : goal.returns-in-Some-clause-copies
returns-in-Some-clause-copies g c =
    let t = c.args.table.now.entries in
    let s : Slot = record { version = c.args.copy.version; number = c.args.now } in
    written-copies t _ c.args.copy.key s (written_over t c.args.copy.key s c.index.result.now c.in-Some.place (sym c.in-Some.is ∙ c.requires.place) c.index.ensures)

pub returns-in-Some-clause-stamps : goal.returns-in-Some-clause-stamps
returns-in-Some-clause-stamps g c =
    let t = c.args.table.now.entries in
    let s : Slot = record { version = c.args.copy.version; number = c.args.now } in
    written-stamps t _ c.args.copy.key s (written_over t c.args.copy.key s c.index.result.now c.in-Some.place (sym c.in-Some.is ∙ c.requires.place) c.index.ensures)

pub returns-in-Some-clause-told : goal.returns-in-Some-clause-told
returns-in-Some-clause-told g c =
    let t = c.args.table.now.entries in
    let s : Slot = record { version = c.args.copy.version; number = c.args.now } in
    written-told t _ c.args.copy.key s (written_over t c.args.copy.key s c.index.result.now c.in-Some.place (sym c.in-Some.is ∙ c.requires.place) c.index.ensures)

pub returns-in-Some-clause-indexed : goal.returns-in-Some-clause-indexed
returns-in-Some-clause-indexed g c =
    let t = c.args.table.now.entries in
    let key = c.args.copy.key in
    let s : Slot = record { version = c.args.copy.version; number = c.args.now } in
    let place = c.in-Some.place in
    let found = sym c.in-Some.is ∙ c.requires.place in
    let told = found_told t key c.index.result.now place c.args.now found c.index.ensures c.if-not-told.false in
    let logged = written-again t _ c.args.log.now.items key s c.requires.indexed.logged told (written_over t key s c.index.result.now place found c.index.ensures) in
    let short = subst (λ n. length c.args.log.now.items ≤ 2 * n) (sym (length-set t place s)) c.requires.indexed.short in
    record { distinct = keys_apart t place s c.requires.indexed.distinct; logged = logged; short = short }

-- ---- the key is a new one
pub returns-in-Ok-clause-copies : goal.returns-in-Ok-clause-copies
returns-in-Ok-clause-copies g c =
    written-copies c.args.table.now.entries _ c.args.copy.key (record { version = c.args.copy.version; number = c.args.now }) c.in-Ok.ensures.entries

pub returns-in-Ok-clause-stamps : goal.returns-in-Ok-clause-stamps
returns-in-Ok-clause-stamps g c =
    written-stamps c.args.table.now.entries _ c.args.copy.key (record { version = c.args.copy.version; number = c.args.now }) c.in-Ok.ensures.entries

pub returns-in-Ok-clause-told : goal.returns-in-Ok-clause-told
returns-in-Ok-clause-told g c =
    written-told c.args.table.now.entries _ c.args.copy.key (record { version = c.args.copy.version; number = c.args.now }) c.in-Ok.ensures.entries

pub returns-in-Ok-clause-indexed : goal.returns-in-Ok-clause-indexed
returns-in-Ok-clause-indexed g c =
    record { distinct = c.in-Ok.ensures.unique; logged = c.write_row-in-Ok.ensures.logged; short = c.write_row-in-Ok.ensures.short }

pub write_row-requires-in-Ok-clause-logged : goal.write_row-requires-in-Ok-clause-logged
write_row-requires-in-Ok-clause-logged g c =
    let t = c.args.table.now.entries in
    let key = c.args.copy.key in
    let s : Slot = record { version = c.args.copy.version; number = c.args.now } in
    written-row t _ c.args.log.now.items key s c.in-Ok.place c.requires.indexed c.requires.late (none_told t key c.args.now (sym c.in-None.is ∙ c.requires.place)) c.in-Ok.ensures.entries c.in-Ok.ensures.index

pub write_row-requires-in-Ok-clause-room : goal.write_row-requires-in-Ok-clause-room
write_row-requires-in-Ok-clause-room g c =
    in_log (spare c.args.table.now) (room_behind c.args.log.now) (c.requires.room (none_told c.args.table.now.entries c.args.copy.key c.args.now (sym c.in-None.is ∙ c.requires.place)))
