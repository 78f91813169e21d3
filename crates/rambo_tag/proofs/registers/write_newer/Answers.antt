use Rattle.std.proofs.Common.{◌≡◌, sym, ap, ◌∙◌, subst}
use Rattle.std.specs.Prelude.{if◌then◌else◌}
use Rattle.std.specs.FinMap.{insert}
use Rattle.rambo_tag.specs.Logs.{greatest_after, greatest_of}
use Rattle.rambo_tag.specs.Stamps.{AreAtMost}
use Rattle.rambo_tag.specs.Rows.{copies_of, stamps_of, stamps_after, room_in}
use Rattle.rambo_tag.proofs.Rooms.{Wrote, Wrote-start, Wrote-room, Wrote-newer}
use Rattle.rambo_tag.proofs.StampLaws.{AreAtMost-put}
use Rattle.rambo_tag.proofs.registers.write_newer.Goals as goal

pub loop-copy-init : goal.loop-copy-init
loop-copy-init g c =
    let t = c.args.table.now.entries in
    let cs = c.args.copies.items in
    let room = room_in c.args.table.now c.args.log.now in
    let gives : c.into_iter-copy-iterator.result.rest.items ≡ cs = c.into_iter-copy-iterator.ensures.into_iter_gives.0 in
    record {
      can_next = tt;
      is_finite = tt;
      wrote = subst (λ xs. Wrote t c.args.now (greatest_of cs) xs room) (sym gives) (Wrote-start t c.args.now cs room c.requires.room);
      late = c.requires.late;
      indexed = c.requires.indexed;
      copies = ap (greatest_after (copies_of t)) gives;
      stamps = ap (stamps_after c.args.now (copies_of t) (stamps_of t)) gives;
    }

pub write-requires-clause-room : goal.write-requires-clause-room
write-requires-clause-room g c fresh =
    let t = c.loop-copy.table.entries in
    let all = greatest_of c.args.copies.items in
    let room = room_in c.loop-copy.table c.loop-copy.log in
    let wrote = subst (λ xs. Wrote t c.args.now all xs room) c.in-Some.ensures.steps.0 c.loop-copy.invariant.wrote in
    Wrote-room t c.args.now all c.in-Some.copy c.next.new.self.rest.items room wrote fresh

pub loop-copy-preserved-then-newer : goal.loop-copy-preserved-then-newer
loop-copy-preserved-then-newer g c =
    let t = c.loop-copy.table.entries in
    let u = c.write.new.table.entries in
    let copy = c.in-Some.copy in
    let next = c.next.new.self.rest.items in
    let all = greatest_of c.args.copies.items in
    let room = room_in c.loop-copy.table c.loop-copy.log in
    let left = room_in c.write.new.table c.write.new.log in
    let wrote = subst (λ xs. Wrote t c.args.now all xs room) c.in-Some.ensures.steps.0 c.loop-copy.invariant.wrote in
    let newer = sym c.find-place.ensures.newer ∙ c.if-newer.true in
    let put = c.write.ensures.copies ∙ sym (ap (λ b. if b then insert (copies_of t) copy.key copy.version else copies_of t) newer) in
    let mark = c.write.ensures.stamps ∙ sym (ap (λ b. if b then insert (stamps_of t) copy.key c.args.now else stamps_of t) newer) in
    record {
      can_next = tt;
      is_finite = tt;
      wrote = Wrote-newer t u c.args.now all copy next room left wrote c.write.ensures.told c.write.ensures.room c.write.ensures.again;
      late = subst (AreAtMost c.args.now) (sym c.write.ensures.stamps) (AreAtMost-put c.args.now (stamps_of t) copy.key c.loop-copy.invariant.late);
      indexed = c.write.ensures.indexed;
      copies = ap (λ m. greatest_after m next) put ∙ ap (greatest_after (copies_of t)) (sym c.in-Some.ensures.steps.0) ∙ c.loop-copy.invariant.copies;
      stamps = (λ i. stamps_after c.args.now (put i) (mark i) next)
          ∙ ap (stamps_after c.args.now (copies_of t) (stamps_of t)) (sym c.in-Some.ensures.steps.0) ∙ c.loop-copy.invariant.stamps;
    }
