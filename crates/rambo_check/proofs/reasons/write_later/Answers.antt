use Rattle.std.proofs.Common.{◌≡◌, ◌++◌, sym, subst, codes}
use Rattle.std.specs.Option.{option_copied}
use Rattle.rambo_text.specs.Signs.{call_text}
use Rattle.rambo_check.specs.Reasons.{call_line, later_text}
use Rattle.rambo_check.proofs.Grown.{grown}
use Rattle.rambo_check.proofs.reasons.write_later.Goals as goal

pub returns-clause-ok : goal.returns-clause-ok
returns-clause-ok c =
    let old = c.args.out.now.items in
    let one = c.extend_from_slice.new.self.items in
    let two = c.write_call.new.out.items in
    let three = c.extend_from_slice-2.new.self.items in
    let four = c.write_call_line.new.out.items in
    let id = c.in-Some.id.now in
    subst (λ o. four ≡ old ++ later_text c.args.evidence.now (option_copied o)) (sym c.in-Some.is)
    (grown old three four (codes " before " ++ call_text id ++ codes " was called") (call_line c.args.evidence.now id)
    (grown old two three (codes " before " ++ call_text id) (codes " was called")
    (grown old one two (codes " before ") (call_text id) c.in_ok-extend_from_slice.ensures.items c.in_ok-write_call.ensures.ok)
    c.in_ok-extend_from_slice-2.ensures.items)
    c.in_ok-write_call_line.ensures.ok)
