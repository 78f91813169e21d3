use Rattle.std.proofs.Common.{◌+◌, ◌++◌, drop, ap, arith, ◌∙◌}
use Rattle.rambo_names.proofs.Errors.{on_err}
use Rattle.rambo_check.specs.Lines.{Happened, item_line}
use Rattle.rambo_outcome.specs.Notes.{events_text, event_bytes}
use Rattle.rambo_outcome.proofs.ByPieces.{event_on, most_at, moves_as, moves_on, stops_on}
use Rattle.rambo_outcome.proofs.pieces.write_events.Goals as goal

pub returns-in_err-write_if_long-clause-err : goal.returns-in_err-write_if_long-clause-err
returns-in_err-write_if_long-clause-err g c =
    on_err c.from_residual.result
    (stops_on (g.W.Sink.taken c.args.writer.now) (g.W.Sink.taken c.loop-event.writer) (g.W.Sink.taken c.write_if_long.new.writer) (c.args.piece.now.items ++ events_text c.args.events.now) c.loop-event.piece.items
    (events_text (drop c.loop-event.event-index c.args.events.now)) c.loop-event.invariant.moves c.in_err-write_if_long.ensures.err)

pub push_event-requires : goal.push_event-requires
push_event-requires g c =
    let spelt = most_at c.args.events.now c.loop-event.event-index c.event-item.result c.loop-event-test.true in
    let item = ap event_bytes c.event-item.is in
    omega (arith, spelt, item, c.in_ok-write_if_long.ensures.short, c.in_ok-write_if_long.ensures.capacity, c.loop-event.invariant.capacity, c.requires.room)

pub loop-event-preserved : goal.loop-event-preserved
loop-event-preserved g c =
    let old = g.W.Sink.taken c.args.writer.now in
    let next = g.W.Sink.taken c.write_if_long.new.writer in
    let events = c.args.events.now in
    let i = c.loop-event.event-index in
    let text = c.args.piece.now.items ++ events_text events in
    let left = c.write_if_long.new.piece.items in
    let longer = c.push_event.new.out.items in
    record {
      moves = moves_as old next text (left ++ events_text (drop i events)) (longer ++ events_text (drop (i + 1) events))
          (event_on events i c.event-item.result left longer c.loop-event-test.true (c.push_event.ensures.items ∙ ap (λ e. left ++ item_line (Happened e)) c.event-item.is))
          (moves_on old (g.W.Sink.taken c.loop-event.writer) next text c.loop-event.piece.items left (events_text (drop i events)) c.loop-event.invariant.moves c.in_ok-write_if_long.ensures.ok);
      capacity = omega (arith, c.loop-event.invariant.capacity, c.in_ok-write_if_long.ensures.capacity, c.push_event.ensures.capacity);
      fine = c.in_ok-write_if_long.ensures.fine ∙ c.loop-event.invariant.fine;
    }
