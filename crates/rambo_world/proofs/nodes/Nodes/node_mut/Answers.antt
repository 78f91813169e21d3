use Rattle.std.proofs.Common.{◌≡◌, ◌<◌, length, Some, refl, sym, ap, ◌∙◌, subst}
use Rattle.rambo_world.specs.Kept.{kept_at, log_at, with_node}
use Rattle.rambo_world.proofs.Zipping.{with_log, kept_with, log_here, log_is}
use Rattle.rambo_world.proofs.nodes.Nodes.node_mut.Goals as goal

pub returns : goal.returns
returns g c =
    let xs = c.self.inside.list.items in
    let ls = c.self.inside.logs.logs in
    let x = c.index_mut.result.now in
    let name = c.args.name in
    let same = c.self.invariant.0 ∙ sym c.self.invariant.1 in
    let below : c.place_of.result < length xs = subst (λ n. c.place_of.result < n) (sym c.self.invariant.0) c.place_of.ensures.within in (
      (
        refl,
        λ w. kept_with xs ls c.place_of.result name x w c.place_of.ensures.place c.place_of.ensures.named.0 below c.index_mut.ensures.value same ∙ ap (λ ks. with_node ks name w) c.self.view_is,
      ),
      record {
        lent = tt;
        kept = subst (λ ks. kept_at ks name ≡ Some (with_log x (log_at ks name))) c.self.view_is
            (log_here xs ls c.place_of.result name x x c.place_of.ensures.place c.place_of.ensures.named.0 below c.index_mut.ensures.value ∙ ap (λ l. Some (with_log x l)) (sym (log_is xs ls same name)));
        named = c.place_of.ensures.named;
      },
    )
