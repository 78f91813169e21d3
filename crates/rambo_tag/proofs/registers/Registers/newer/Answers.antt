use Rattle.std.proofs.Common.{ap, ◌∙◌}
use Rattle.rambo_tag.specs.Copies.{joined}
use Rattle.rambo_tag.specs.Logs.{greatest_of}
use Rattle.rambo_tag.proofs.Logged.{joined-greatest_of, greatest_of-nil}
use Rattle.rambo_tag.proofs.StampLaws.{stamped_alike}
use Rattle.rambo_tag.proofs.registers.Registers.newer.Goals as goal

pub returns-clause-all : goal.returns-clause-all
returns-clause-all g c =
    let m = c.args.self.now.copies in
    ap (joined m) c.new.ensures ∙ joined-greatest_of m c.in_ok-newer.newer.items ∙ c.in_ok-newer.ensures.all

pub returns-clause-none : goal.returns-clause-none
returns-clause-none g c old = c.new.ensures ∙ ap greatest_of (c.in_ok-newer.ensures.none old) ∙ greatest_of-nil

pub returns-clause-stamped : goal.returns-clause-stamped
returns-clause-stamped g c =
    let m = c.args.self.now.copies in
    stamped_alike m c.new.result c.args.pack.now (ap (joined m) c.new.ensures ∙ joined-greatest_of m c.in_ok-newer.newer.items ∙ c.in_ok-newer.ensures.all)
