use Rattle.std.proofs.lemmas.Grind.{common_steps}
use Rattle.std.proofs.Common.{Some, length, refl, ap, ◌∙◌, arith}
use Rattle.std.proofs.lemmas.Option.{slice_get_read}
use Rattle.rambo_letters.proofs.letters.is_told_at.Goals as goal

pub returns-in-Some : goal.returns-in-Some
returns-in-Some g c told =
    let standings = c.args.standings.now in
    let found = c.in-Some.ensures.lookup in
    slice_get_read standings (length standings) c.args.place c.in-Some.standing.now refl found.3.0 found.1 ∙ ap Some (c.is_told_by.ensures told)

pub get-requires : goal.get-requires
get-requires g c κs = assumption

pub is_told_by-requires : goal.is_told_by-requires
is_told_by-requires g c = assumption

pub returns-in-None : goal.returns-in-None
returns-in-None g c = grind (arith, common_steps)
