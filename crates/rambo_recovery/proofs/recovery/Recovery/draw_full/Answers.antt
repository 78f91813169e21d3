use Rattle.std.proofs.Common.{length, sym, ap, ◌∙◌, subst}
use Rattle.rambo_book.specs.Kept.{BookView}
use Rattle.rambo_recovery.specs.Recoveries.{AreHeld}
use Rattle.rambo_recovery.proofs.recovery.Recovery.draw_full.Goals as goal

pub invariant_of-self : goal.invariant_of-self
invariant_of-self g c =
    let i = c.self.invariant in
    let d = c.draw.ensures in
    let given = d.given (d.knows i.drawer) in
    record {
      endless = i.endless;
      drawer = ap length given.1 ∙ sym given.2;
      empty = c.clear.ensures.items;
      many = i.many;
      lists = ap (λ (b : BookView _). length b.waiting) d.book ∙ i.lists;
      named = i.named;
      held = λ short. subst (λ b. AreHeld g.Q.Quorums.system b c.self.inside.own.keepers.all.items) (sym d.book) (i.held short);
    }
