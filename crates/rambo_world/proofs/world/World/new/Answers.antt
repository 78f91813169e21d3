use Rattle.std.proofs.Common.{◌∙◌, sym, ap, subst}
use Rattle.rambo_run.specs.Runs.{run}
use Rattle.rambo_names.proofs.Sizes.{up_fits, back_fits}
use Rattle.rambo_run.specs.Legal.{IsLegal}
use Rattle.rambo_run.proofs.GoingOn.{run_none}
use Rattle.rambo_run.proofs.Legal.{legal_none}
use Rattle.rambo_world.proofs.world.World.new.Goals as goal

pub new-requires-2 : goal.new-requires-2
new-requires-2 g c = back_fits _ _ _ (up_fits _ _ _ c.requires-raw.1.1)

pub invariant_of-result : goal.invariant_of-result
invariant_of-result g c =
    let s = g.Q.Quorums.system in (
      c.in_ok-new.ensures.first ∙ sym (run_none s c.args.founders) ∙ sym (ap (run s c.args.founders) c.new.ensures.items),
      subst (IsLegal s c.args.founders) (sym c.new.ensures.items) (legal_none s c.args.founders),
    )
