use Rattle.std.proofs.Common.{All, List, sym, subst}
use Rattle.rambo_run.specs.Runs.{run}
use Rattle.rambo_mail.specs.declared.mail.Mail.{Mail}
use Rattle.rambo_book.specs.Kept.{IsMailOf}
use Rattle.rambo_book.proofs.Clearing.{all_remove}
use Rattle.rambo_book.proofs.keeper.Keeper.forget.Goals as goal

pub invariant_of-self : goal.invariant_of-self
invariant_of-self g c =
    let s = g.Q.Quorums.system in
    let k = c.self.invariant in
    record {
      named = k.named;
      legal = k.legal;
      fits = k.fits;
      replays = k.replays;
      full = k.full;
      mail = λ f e.
          let P = λ (m : Mail _). IsMailOf (run s f c.self.inside.holder.1) c.self.inside.name m in
          subst (λ (l : List (Mail _)). All P l) (sym c.remove-mail.ensures.items) (all_remove P c.self.inside.tray.items c.in-Some.at (k.mail f e));
    }
