use Rattle.std.proofs.Common.{◌≤◌, length, arith, sym, ap, ◌∙◌}
use Rattle.rambo_resp.specs.Progresses.{ProgressState}
use Rattle.rambo_resp.proofs.Items.{item_on, line_on}
use Rattle.rambo_resp.proofs.progress.Progress.read_some.Goals as goal

pub returns-in_ok-read_item-in-Some-clause-ok : goal.returns-in_ok-read_item-in-Some-clause-ok
returns-in_ok-read_item-in-Some-clause-ok c =
    let few : length c.in-Some.item.now ≤ 4096 = omega (arith, c.in-Some.ensures.few) in
    item_on c.args.self.now c.read_item.new.self c.in-Dollar.left _ c.args.bytes.now c.in-Some.item.now c.in-Some.rest.now
    (ap (λ (s : ProgressState). s.rest.awaited) (sym c.self.view_is) ∙ c.in-Dollar.is) few c.in-Some.ensures.spelled (omega arith) c.in_ok-read_item-in-Some.ensures.ok

pub returns-in_ok-read_line-in-Some-count_line-clause-ok : goal.returns-in_ok-read_line-in-Some-count_line-clause-ok
returns-in_ok-read_line-in-Some-count_line-clause-ok c =
    let few : c.in-Some-count_line.items ≤ 128 = omega (arith, c.in-Some-count_line.ensures.few.1) in
    line_on c.args.self.now c.read_line.new.self c.in-Some-count_line.items _ c.args.bytes.now c.in-Some-count_line.rest.now
    (ap (λ (s : ProgressState). s.rest.awaited) (sym c.self.view_is) ∙ c.in-Star.is) c.in-Some-count_line.ensures.few.0 few c.in-Some-count_line.ensures.spelled (omega arith)
    c.in_ok-read_line-in-Some-count_line.ensures.ok
