use Rattle.std.proofs.Common.{◌++◌, codes, decimal, ap, ◌∙◌}
use Rattle.rambo_names.specs.Refusals.{number_of, word_of}
use Rattle.rambo_commands.proofs.Shapes.{in_four}
use Rattle.rambo_commands.proofs.replies.append_refused.Goals as goal

pub returns-clause-ok : goal.returns-clause-ok
returns-clause-ok c =
    in_four c.args.out.now.items c.extend_from_slice.new.self.items c.extend_from_slice-2.new.self.items c.extend_from_slice-3.new.self.items c.extend_from_slice-4.new.self.items
    (codes "ERR refused ") (decimal (number_of c.args.refusal)) (word_of c.args.refusal) c.in_ok-extend_from_slice.ensures.ok
    (c.in_ok-extend_from_slice-2.ensures.ok ∙ ap (λ n. c.extend_from_slice.new.self.items ++ n) (c.as_bytes.ensures.value ∙ c.format.ensures.text ∙ ap decimal c.number.ensures))
    c.in_ok-extend_from_slice-3.ensures.ok
    (c.in_ok-extend_from_slice-4.ensures.ok ∙ ap (λ w. c.extend_from_slice-3.new.self.items ++ w) (c.as_bytes-2.ensures.value ∙ c.word.ensures))
