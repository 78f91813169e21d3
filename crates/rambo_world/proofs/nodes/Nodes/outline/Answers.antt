use Rattle.std.proofs.Common.{◌≡◌, ◌<◌, ◌-◌, ◌∙◌, [], length, Some, sym, ap, subst}
use Rattle.std.specs.Prelude.{slice_index_or}
use Rattle.rambo_world.specs.Kept.{kept_at, outline, outline_by}
use Rattle.rambo_names.proofs.Sizes.{up_fits, back_fits}
use Rattle.rambo_letters.proofs.Lists.{some_is}
use Rattle.rambo_world.proofs.Zipping.{with_log, log_here}
use Rattle.rambo_world.proofs.nodes.Nodes.outline.Goals as goal

pub returns-clause-sent : goal.returns-clause-sent
returns-clause-sent g c k found =
    let xs = c.self.inside.list.items in
    let ls = c.self.inside.logs.logs in
    let x = c.index.result.now in
    let log = slice_index_or ls (c.args.from - 1) [] in
    let below : c.place_of.result < length xs = subst (λ n. c.place_of.result < n) (sym c.self.invariant.0) c.place_of.ensures.within in
    let here = subst (λ now. kept_at now c.args.from ≡ Some (with_log x log)) c.self.view_is (log_here xs ls c.place_of.result c.args.from x x c.place_of.ensures.place c.place_of.ensures.named.0 below c.index.ensures) in
    c.outline_of.ensures ∙ ap (outline_by x.state c.args.to) c.len.ensures.count ∙ ap (λ k. outline k c.args.to) (some_is (with_log x log) k (sym here ∙ found))

pub outline_of-requires : goal.outline_of-requires
outline_of-requires g c = back_fits _ _ _ (up_fits _ _ _ c.requires-raw.1.1)
