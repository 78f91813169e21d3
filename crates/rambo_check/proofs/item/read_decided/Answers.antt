use Rattle.std.proofs.Common.{◌∷◌, [], codes, refl, sym, ◌<◌, ◌^◌, arith}
use Rattle.std.specs.Option.{option_copied}
use Rattle.rambo_text.specs.Forms.{Name, Num, Standing}
use Rattle.rambo_check.specs.Lines.{Settled}
use Rattle.rambo_check.proofs.Counts.{count_fault}
use Rattle.rambo_check.proofs.item.read_decided.Goals as goal

pub returns-in_default-clause-fault : goal.returns-in_default-clause-fault
returns-in_default-clause-fault c = count_fault (Name ∷ Num ∷ Standing ∷ []) (option_copied c.args.more) 3 refl c.in_default.ensures.none

pub returns-clause-spelt : goal.returns-clause-spelt
returns-clause-spelt c =
    let name = c.in-Some-read_name.ensures.found in
    let first = sym name.1 in
    let second = sym c.in-Some-read_num.ensures.found in
    let third = sym c.in-Some-read_standing.ensures.found in
    let small : c.in-Some-read_num._place < 2 ^ 64 = omega arith in (
      Settled c.in-Some-read_name._name c.in-Some-read_num._place c.in-Some-read_standing._conf,
      tt,
      (
        (name.0, small),
        c.in-Some.name.now ∷ c.in-Some.place.now ∷ c.in-Some.standing.now ∷ [],
        c.in-Some.ensures.found,
        λ i. codes "decided" ∷ first i ∷ second i ∷ third i ∷ [],
      ),
    )
