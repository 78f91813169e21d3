use Rattle.std.proofs.Common.{◌≡◌, Some, length, slice_set, sym, ap, ◌∙◌, subst}
use Rattle.std.proofs.lemmas.List.{length-set}
use Rattle.std.proofs.lemmas.Option.{slice_get_read}
use Rattle.rambo_names.proofs.Sizes.{back_fits, up_fits, variant_fits}
use Rattle.rambo_joiner.specs.Statuses.{is_stopped}
use Rattle.rambo_run.specs.Runs.{run}
use Rattle.rambo_run.specs.Worlds.{node_at}
use Rattle.rambo_run.proofs.Lists.{some_inj}
use Rattle.rambo_book.specs.Kept.{BookView, KeeperView}
use Rattle.rambo_recovery.specs.Recoveries.{AreHeld}
use Rattle.rambo_recovery.proofs.Holding.{held_same, named_on}
use Rattle.rambo_recovery.proofs.Owning.{stopped_is}
use Rattle.rambo_recovery.proofs.recovery.Recovery.has_stopped.Goals as goal

pub agree-requires : goal.agree-requires
agree-requires g c = variant_fits _ _ _ _ (back_fits _ _ _ (up_fits _ _ _ (back_fits _ _ _ (up_fits _ _ _ (back_fits _ _ _ (up_fits _ _ _ c.requires-raw.1.1.1))))))

pub has_stopped-requires : goal.has_stopped-requires
has_stopped-requires g c = variant_fits _ _ _ _ (back_fits _ _ _ (up_fits _ _ _ (back_fits _ _ _ (up_fits _ _ _ (back_fits _ _ _ (up_fits _ _ _ c.requires-raw.1.1.1))))))

pub invariant_of-self : goal.invariant_of-self
invariant_of-self g c =
    let s = g.Q.Quorums.system in
    let i = c.self.invariant in
    let b = c.self.inside.own.book in
    let ks = c.self.inside.own.keepers.all.items in
    let k = c.index_mut-keeper.result.now in
    let after = c.agree.new.keeper in
    let same = c.agree.ensures.same in
    let here = slice_get_read ks 64 c.place_of.result k (sym i.many) c.place_of.ensures.within c.index_mut-keeper.ensures.value in
    record {
      endless = i.endless;
      drawer = i.drawer ∙ sym (ap (λ (b : BookView _). b.drawn) same.0);
      empty = i.empty;
      many = length-set ks c.place_of.result after ∙ i.many;
      lists = ap (λ (b : BookView _). length b.waiting) same.0 ∙ i.lists;
      named = named_on ks c.place_of.result k after i.named here (ap (λ (k : KeeperView _). k.name) same.1);
      held = λ short. subst (λ b. AreHeld s b (slice_set ks c.place_of.result after)) (sym same.0) (held_same s b ks c.place_of.result k after here (ap (λ (k : KeeperView _). k.tray) same.1) (i.held short));
    }

pub returns-clause-stopped : goal.returns-clause-stopped
returns-clause-stopped g c = λ f founded.
    let s = g.Q.Quorums.system in
    let i = c.self.invariant in
    let ks = c.self.inside.own.keepers.all.items in
    let k = c.index_mut-keeper.result.now in
    let here = slice_get_read ks 64 c.place_of.result k (sym i.many) c.place_of.ensures.within c.index_mut-keeper.ensures.value in
    let own : k.name ≡ c.args.name = i.named c.place_of.result k here ∙ c.place_of.ensures.next in
    let first = some_inj c.self.inside.own.book.founders f (sym c.facts.ensures.founders ∙ founded) in
    let node : node_at (run s f c.args.self.now) c.args.name ≡ Some k.node = (λ j. node_at (run s (sym first j) (sym c.self.view_is j)) (sym own j)) ∙ c.agree.ensures.node in
    stopped_is (run s f c.args.self.now) c.args.name k.node c.has_stopped.result node (c.has_stopped.ensures ∙ ap (λ (k : KeeperView _). is_stopped k.node.status) c.agree.ensures.same.1)
