use Rattle.std.proofs.Common.{sym, ◌∙◌}
use Rattle.std.proofs.lemmas.Slice.Eq.{bytes_eq-Decides}
use Rattle.rambo_rows.proofs.Shown.{shows_replay, shows_local}
use Rattle.rambo_rows.proofs.judging.is_right.Goals as goal

pub returns-then-eq : goal.returns-then-eq
returns-then-eq c =
    shows_replay _ _ _ _ _ ((bytes_eq-Decides c.args.row.word.now c.as_slice.result.now).0 (sym c.if-eq.ensures) ∙ c.as_slice.ensures) c.is_right_replay.ensures.done

pub returns-in-Some : goal.returns-in-Some
returns-in-Some c = shows_local _ c.in-Some.founders _ _ _ _ c.in-Some.ensures.founders c.is_right_local.ensures.done
