use Rattle.std.proofs.Common.{◌∷◌, [], codes, refl, sym, arith}
use Rattle.std.specs.Option.{option_copied}
use Rattle.rambo_text.specs.Forms.{Num}
use Rattle.rambo_check.specs.Lines.{Refused}
use Rattle.rambo_check.proofs.Counts.{count_fault}
use Rattle.rambo_check.proofs.item.read_refused.Goals as goal

pub returns-in_default-clause-fault : goal.returns-in_default-clause-fault
returns-in_default-clause-fault c = count_fault (Num ∷ Num ∷ []) (option_copied c.args.more) 2 refl c.in_default.ensures.none

pub returns-clause-spelt : goal.returns-clause-spelt
returns-clause-spelt c =
    let step = c.in-Some-read_num._step in
    let number = c.in-Some-read_num-2._number in
    let first = sym c.in-Some-read_num.ensures.found in
    let second = sym c.in-Some-read_num-2.ensures.found in (
      Refused step number,
      tt,
      (
        (omega arith, omega arith),
        c.in-Some.step.now ∷ c.in-Some.number.now ∷ [],
        c.in-Some.ensures.found,
        λ i. codes "refused" ∷ first i ∷ second i ∷ [],
      ),
    )
