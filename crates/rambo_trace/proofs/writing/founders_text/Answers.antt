use Rattle.rambo_trace.proofs.Pieces.{head_written}
use Rattle.rambo_trace.proofs.writing.founders_text.Goals as goal

pub returns : goal.returns
returns c = record {
  ok = head_written c.args.founders c.args.out.now.items c.extend_from_slice.new.self.items c.write_conf.new.out.items c.push.new.self.items
      c.in_ok-extend_from_slice.ensures.items c.in_ok-write_conf.ensures.ok c.in_ok-push.ensures.items;
}
