use Rattle.std.proofs.Common.{sym, subst}
use Rattle.std.specs.Option.{option_copied}
use Rattle.rambo_atomic.specs.declared.verdict.Rule.TheVariants.{OutOfOrder}
use Rattle.rambo_witness.specs.Witnesses.{Decides}
use Rattle.rambo_witness.proofs.witnesses.Witnesses.within.Goals as goal

pub returns-in-OutOfOrder-clause-found : goal.returns-in-OutOfOrder-clause-found
returns-in-OutOfOrder-clause-found c =
    subst (λ r. Decides r c.args.self.now (option_copied c.args.key) c.args.order.now c.first_out_of_order.result) (sym c.in-OutOfOrder.is)
    (subst (λ h. Decides OutOfOrder h (option_copied c.args.key) c.args.order.now c.first_out_of_order.result) c.self-in-OutOfOrder.view_is
    (c.first_out_of_order.ensures (option_copied c.args.key)))
