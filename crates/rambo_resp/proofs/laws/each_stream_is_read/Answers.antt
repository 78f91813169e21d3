use Rattle.rambo_resp.proofs.Unique.{each_is_read}
use Rattle.rambo_resp.proofs.laws.each_stream_is_read.Goals as goal

pub returns : goal.returns
returns c = each_is_read
