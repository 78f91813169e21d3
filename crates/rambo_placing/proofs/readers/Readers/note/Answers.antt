use Rattle.std.proofs.Common.{◌≡◌, Some, refl, rules}
use Rattle.std.specs.Option.{option_copied}
use Rattle.rambo_history.specs.declared.operation.Answer.TheVariants as answer
use Rattle.rambo_placing.proofs.Told.{value-noted}
use Rattle.rambo_placing.proofs.readers.Readers.note.Goals as goal

pub returns-in_ok-add-in-Some-Value-clause-noted : goal.returns-in_ok-add-in-Some-Value-clause-noted
returns-in_ok-add-in-Some-Value-clause-noted c held =
    let w = c.in-Some-Value in
    let is : option_copied c.args.answer ≡ Some (answer.Value w.value) = search rules in
    value-noted c.args.self.now (record { nil = c.args.self.now.nil; told = c.add.new.table }) _ c.args.id refl c.in_ok-add-in-Some-Value.ensures.added
    (option_copied c.args.answer) is held
