use Rattle.std.proofs.Common.{◌≡◌, ℕ, ◌+◌, ◌-◌, ◌<◌, ◌≤◌, nat_le, None, length, sym, ap, ◌∙◌, subst, arith}
use Rattle.std.specs.Prelude.{if◌then◌else◌}
use Rattle.std.specs.FinMap.{get}
use Rattle.std.proofs.lemmas.Option.{slice_get_read}
use Rattle.rambo_tag.specs.Stamps.{stamp_at, IsSince}
use Rattle.rambo_tag.specs.Changes.{IsLatestFirst}
use Rattle.rambo_tag.specs.Logs.{greatest_of}
use Rattle.rambo_tag.specs.Rows.{copies_of, stamps_of}
use Rattle.rambo_tag.proofs.Rows.{older_all}
use Rattle.rambo_tag.proofs.Slots.{some_inj, none-some}
use Rattle.rambo_tag.proofs.Lists.{Lists, Lists-start, Lists-stale, Lists-fresh}
use Rattle.rambo_tag.proofs.Tellings.{Tells, Tells-start, Tells-fresh, Tells-stale, Tells-end}
use Rattle.rambo_tag.proofs.registers.Registers.changes_since.Goals.{then-loop-left-test+else-index-base, else-loop-left-test}
use Rattle.rambo_tag.proofs.registers.Registers.changes_since.Goals as goal

pub loop-left-init : goal.loop-left-init
loop-left-init g c =
    let long : c.len-left.result ≡ length c.self.inside.log.items = c.len-left.ensures ∙ omega (arith, c.self.inside.log.ok.0) in
    record {
      within = omega (arith, long);
      tells = Tells-start c.self.inside.table.entries c.self.inside.log.items c.len-left.result c.args.base c.new-changes.result.items long c.new-changes.ensures.items;
      lists = Lists-start c.self.inside.table.entries c.self.inside.log.items c.len-left.result c.new-changes.result.items c.new-changes.ensures.items;
    }

one_less : (n : ℕ) → 0 < n → n ≡ (n - 1) + 1
one_less n h = omega (arith, h)

low : (n m l : ℕ) → 0 < n → n ≤ m → l ≡ m → n - 1 < l
low n m l h i e = omega (arith, h, i, e)

pub loop-left-preserved-in_ok-push : goal.loop-left-preserved-in_ok-push
loop-left-preserved-in_ok-push g c =
    let t = c.self.inside.table.entries in
    let log = c.self.inside.log.items in
    let left = c.loop-left.left in
    let long : c.self.inside.log.len ≡ length log = omega (arith, c.self.inside.log.ok.0) in
    let within = low left (length log) c.self.inside.log.len c.loop-left-test.true c.loop-left.invariant.within long in
    let row = c.index-row.result.now in
    let at = slice_get_read log c.self.inside.log.len (left - 1) row long within c.index-row.ensures in
    let tested = slice_get_read log c.self.inside.log.len (left - 1) c.index.result.now long within c.index.ensures in
    let same = ap (λ r. r.number) (some_inj c.index.result.now row (sym tested ∙ at)) in
    let current : c.in-Some.slot.now.number ≡ row.number = c.if-slot-row.true in
    let late : c.args.base ≤ c.in-Some.slot.now.number = omega (arith, c.if-index-base.true, same, c.if-slot-row.true) in
    record {
      within = omega (arith, c.loop-left.invariant.within);
      tells = Tells-fresh t log (left - 1) c.args.base c.loop-left.changes.items c.push.new.self.items row (c.in-Some.key.now, c.in-Some.slot.now)
          (record { key = c.in_ok-clone.field-0; version = c.in_ok-clone-2.field-0 }) c.self.invariant.distinct
          (subst (λ n. Tells t log n c.args.base c.loop-left.changes.items) (one_less left c.loop-left-test.true) c.loop-left.invariant.tells)
          at (sym c.in-Some.ensures.entry) late c.in_ok-clone.ensures.cases c.in_ok-clone-2.ensures.cases c.in_ok-push.ensures.items;
      lists = Lists-fresh t log (left - 1) c.loop-left.changes.items c.push.new.self.items row (c.in-Some.key.now, c.in-Some.slot.now)
          (record { key = c.in_ok-clone.field-0; version = c.in_ok-clone-2.field-0 }) c.self.invariant.distinct c.self.invariant.logged
          (subst (λ n. Lists t log n c.loop-left.changes.items) (one_less left c.loop-left-test.true) c.loop-left.invariant.lists)
          at (sym c.in-Some.ensures.entry) current c.in_ok-clone.ensures.cases c.in_ok-push.ensures.items;
    }

pub loop-left-preserved-else-slot-row : goal.loop-left-preserved-else-slot-row
loop-left-preserved-else-slot-row g c =
    let t = c.self.inside.table.entries in
    let log = c.self.inside.log.items in
    let left = c.loop-left.left in
    let long : c.self.inside.log.len ≡ length log = omega (arith, c.self.inside.log.ok.0) in
    let within = low left (length log) c.self.inside.log.len c.loop-left-test.true c.loop-left.invariant.within long in
    let row = c.index-row.result.now in
    let at = slice_get_read log c.self.inside.log.len (left - 1) row long within c.index-row.ensures in
    record {
      within = omega (arith, c.loop-left.invariant.within);
      tells = Tells-stale t log (left - 1) c.args.base c.loop-left.changes.items row (c.in-Some.key.now, c.in-Some.slot.now)
          (subst (λ n. Tells t log n c.args.base c.loop-left.changes.items) (one_less left c.loop-left-test.true) c.loop-left.invariant.tells)
          at (sym c.in-Some.ensures.entry) c.if-slot-row.false;
      lists = Lists-stale t log (left - 1) c.loop-left.changes.items (subst (λ n. Lists t log n c.loop-left.changes.items) (one_less left c.loop-left-test.true) c.loop-left.invariant.lists);
    }

pub loop-left-preserved : goal.loop-left-preserved
loop-left-preserved g c =
    let t = c.self.inside.table.entries in
    let log = c.self.inside.log.items in
    let left = c.loop-left.left in
    let long : c.self.inside.log.len ≡ length log = omega (arith, c.self.inside.log.ok.0) in
    let within = low left (length log) c.self.inside.log.len c.loop-left-test.true c.loop-left.invariant.within long in
    let row = c.index-row.result.now in
    let at = slice_get_read log c.self.inside.log.len (left - 1) row long within c.index-row.ensures in
    let told = c.self.invariant.logged.each (left - 1) row at in
    absurd (none-some told.0 (c.in_default.ensures.entry ∙ told.1))

pub returns-clause-since : goal.returns-clause-since
returns-clause-since g c =
    let t = c.self.inside.table.entries in
    let log = c.self.inside.log.items in
    let left = c.loop-left.left in
    let long : c.self.inside.log.len ≡ length log = omega (arith, c.self.inside.log.ok.0) in
    let end : IsSince (copies_of t) (stamps_of t) c.args.base (greatest_of c.loop-left.changes.items) = elim c.loop-left-test.branch [
      | then-loop-left-test+else-index-base w ↦
          let within = low left (length log) c.self.inside.log.len w.loop-left-test.true c.loop-left.invariant.within long in
          let at = slice_get_read log c.self.inside.log.len (left - 1) w.index.result.now long within w.index.ensures in
          Tells-end t log left c.args.base c.loop-left.changes.items c.self.invariant.logged c.loop-left.invariant.tells
          (older_all t log left c.args.base w.index.result.now c.self.invariant.logged w.loop-left-test.true at w.if-index-base.false)
      | else-loop-left-test w ↦
          Tells-end t log left c.args.base c.loop-left.changes.items c.self.invariant.logged c.loop-left.invariant.tells
          (λ i r below is. absurd (omega (arith, below, w.loop-left-test.false)))
    ] in
    λ key. end key ∙ ap (λ r. if nat_le c.args.base (stamp_at r.stamps key) then get r.copies key else None) c.self.view_is

pub returns-clause-once : goal.returns-clause-once
returns-clause-once g c = c.loop-left.invariant.lists.once

pub returns-clause-latest_first : goal.returns-clause-latest_first
returns-clause-latest_first g c = subst (λ r. IsLatestFirst r.stamps c.loop-left.changes.items) c.self.view_is c.loop-left.invariant.lists.latest_first
