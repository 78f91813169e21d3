use Rattle.std.proofs.Common.{◌≡◌, ◌++◌, sym, ap, ◌∙◌, subst, codes}
use Rattle.std.specs.Option.{option_copied}
use Rattle.rambo_check.specs.Reasons.{answer_line, later_text, placed_text, reason_text}
use Rattle.rambo_check.specs.Verdicts.{order_line_of}
use Rattle.rambo_check.proofs.Grown.{grown}
use Rattle.rambo_check.proofs.reasons.write_rule.Goals as goal

pub returns-in_ok-write_placed-in-Repeated-clause-ok : goal.returns-in_ok-write_placed-in-Repeated-clause-ok
returns-in_ok-write_placed-in-Repeated-clause-ok c =
    let old = c.args.out.now.items in
    let one = c.extend_from_slice-in-Repeated.new.self.items in
    let two = c.write_placed.new.out.items in
    subst (λ r. two ≡ old ++ reason_text c.args.evidence.now (option_copied c.args.key) r (record { call = c.args.id.now; other = option_copied c.args.other })) (sym c.in-Repeated.is)
    (grown old one two (codes " stands twice in the order") (placed_text (order_line_of c.args.evidence.now (option_copied c.args.key))) c.in_ok-extend_from_slice-in-Repeated.ensures.items
    (c.in_ok-write_placed-in-Repeated.ensures.ok ∙ ap (λ l. one ++ placed_text l) c.order_line-line.ensures))

pub returns-in_ok-write_placed-in-OutOfOrder-clause-ok : goal.returns-in_ok-write_placed-in-OutOfOrder-clause-ok
returns-in_ok-write_placed-in-OutOfOrder-clause-ok c =
    let s = c.args.evidence.now in
    let old = c.args.out.now.items in
    let one = c.extend_from_slice-in-OutOfOrder.new.self.items in
    let two = c.write_answer_line-in-OutOfOrder.new.out.items in
    let three = c.write_later.new.out.items in
    let four = c.extend_from_slice-in-OutOfOrder-2.new.self.items in
    let five = c.write_placed-in-OutOfOrder.new.out.items in
    let a = codes " was answered" in
    let b = answer_line s c.args.id.now in
    let d = later_text s (option_copied c.args.other) in
    let e = codes " and stands behind it" in
    subst (λ r. five ≡ old ++ reason_text s (option_copied c.args.key) r (record { call = c.args.id.now; other = option_copied c.args.other })) (sym c.in-OutOfOrder.is)
    (grown old four five (a ++ b ++ d ++ e) (placed_text (order_line_of s (option_copied c.args.key)))
    (grown old three four (a ++ b ++ d) e
    (grown old two three (a ++ b) d
    (grown old one two a b c.in_ok-extend_from_slice-in-OutOfOrder.ensures.items c.in_ok-write_answer_line-in-OutOfOrder.ensures.ok)
    c.in_ok-write_later-in-OutOfOrder.ensures.ok)
    c.in_ok-extend_from_slice-in-OutOfOrder-2.ensures.items)
    (c.in_ok-write_placed-in-OutOfOrder.ensures.ok ∙ ap (λ l. four ++ placed_text l) c.order_line-line.ensures))
