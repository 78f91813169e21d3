use Rattle.std.proofs.Common.{not, length, sym, ap, ◌∙◌}
use Rattle.rambo_names.proofs.Sizes.{back_fits, up_fits}
use Rattle.rambo_book.specs.Kept.{BookView}
use Rattle.rambo_recovery.proofs.Owning.{held_first}
use Rattle.rambo_recovery.proofs.recovery.Recovery.new.Goals as goal

pub found-requires : goal.found-requires
found-requires g c = (let r = c.requires in (back_fits _ _ _ (up_fits _ _ _ c.requires-raw.1.1.1.0), (r.name, (r.founders, (r.capacity, (r.lose, (r.twice, sym (ap not r.endless))))))))

pub invariant_of-result : goal.invariant_of-result
invariant_of-result g c =
    let made = c.in_ok-own.ensures in
    let same = c.drawing-drawn.ensures.book in
    record {
      endless = c.requires.endless;
      drawer = ap length c.drawing-drawn.ensures.drawn ∙ sym made.drawn ∙ sym (ap (λ (b : BookView _). b.drawn) same);
      empty = c.new.ensures.items;
      many = made.many;
      lists = ap (λ (b : BookView _). length b.waiting) same ∙ made.lists;
      named = made.named;
      held = λ short. held_first g.Q.Quorums.system c.drawing-drawn.new.self c.in_ok-own.own.keepers.all.items (ap (λ (b : BookView _). b.steps) same ∙ made.steps);
    }
