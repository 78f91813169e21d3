use Rattle.std.proofs.Common.{◌∙◌, ◌++◌, map, length, slice_get, sym, ap, subst}
use Rattle.rambo_letters.specs.Shared.{sent_in, IsHeld, AreHeld}
use Rattle.rambo_names.proofs.Errors.{on_err}
use Rattle.rambo_letters.proofs.Lists.{sent_push}
use Rattle.rambo_names.proofs.Sizes.{up_fits, back_fits, variant_fits}
use Rattle.rambo_letters.proofs.Sharing.{all_held, all_stay, pushed_view}
use Rattle.rambo_letters.proofs.letters.Letters.push.Goals as goal

pub keep-requires : goal.keep-requires
keep-requires g c = variant_fits _ _ _ _ (back_fits _ _ _ (up_fits _ _ _ c.requires-raw.1))

pub invariant_of-self : goal.invariant_of-self
invariant_of-self g c = subst (AreHeld (length c.self.inside.standings.items)) (sym c.reserve.ensures.items) c.self.invariant

pub invariant_of-self-in_err-sent : goal.invariant_of-self-in_err-sent
invariant_of-self-in_err-sent g c =
    let standings = c.self.inside.standings.items in
    let grows = c.keep.ensures.grows in
    subst (λ ms. AreHeld (length ms) c.reserve.new.self.items) (sym grows.1)
    (subst (AreHeld (length (standings ++ grows.0))) (sym c.reserve.ensures.items) (all_held standings grows.0 c.self.inside.list.items c.self.invariant))

pub returns-in_err-sent-clause-err : goal.returns-in_err-sent-clause-err
returns-in_err-sent-clause-err g c =
    let standings = c.self.inside.standings.items in
    let grows = c.keep.ensures.grows in
    on_err c.from_residual-in_err-sent.result
    ((λ i. map (sent_in (grows.1 i)) (c.reserve.ensures.items i)) ∙ all_stay standings grows.0 c.self.inside.list.items c.self.invariant ∙ c.self.view_is)

pub invariant_of-self-2 : goal.invariant_of-self-2
invariant_of-self-2 g c place s found =
    let standings = c.self.inside.standings.items in
    let grows = c.keep.ensures.grows in
    let held : AreHeld (length c.keep.new.standings.items) c.reserve.new.self.items = subst (λ ms. AreHeld (length ms) c.reserve.new.self.items) (sym grows.1)
    (subst (AreHeld (length (standings ++ grows.0))) (sym c.reserve.ensures.items) (all_held standings grows.0 c.self.inside.list.items c.self.invariant)) in
    sent_push (IsHeld (length c.keep.new.standings.items)) c.reserve.new.self.items _ held c.in_ok-sent.ensures.held place s
    (ap (λ l. slice_get l place) (sym c.push_reserved.ensures.items) ∙ found)

pub returns-clause-ok : goal.returns-clause-ok
returns-clause-ok g c =
    let standings = c.self.inside.standings.items in
    let grows = c.keep.ensures.grows in
    pushed_view c.keep.new.standings.items c.reserve.new.self.items c.push_reserved.new.self.items _ c.args.self.now c.args.outline.now c.push_reserved.ensures.items
    ((λ i. map (sent_in (grows.1 i)) (c.reserve.ensures.items i)) ∙ all_stay standings grows.0 c.self.inside.list.items c.self.invariant ∙ c.self.view_is)
    c.in_ok-sent.ensures.kept
