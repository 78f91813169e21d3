use Rattle.std.proofs.Common.{◌≤◌, not, nat_eq, length, slice_get, arith, sym, ap, ◌∙◌}
use Rattle.std.specs.Option.{option_map}
use Rattle.std.proofs.lemmas.Bool.{true≢false}
use Rattle.std.proofs.lemmas.Option.{slice_get-map, slice_get_past}
use Rattle.rambo_calls.specs.Calls.{place_of, is_missing}
use Rattle.rambo_calls.specs.Kept.{call_of}
use Rattle.rambo_names.proofs.Sizes.{up_fits, back_fits, next, variant_fits}
use Rattle.rambo_node.proofs.Own.{other_call, own_call}
use Rattle.rambo_node.proofs.node.Node.place_of.Goals as goal

pub as_slice-requires : goal.as_slice-requires
as_slice-requires g c =
    let calls = back_fits _ _ _ (next _ _ _ _ (up_fits _ _ _ c.requires-raw.1.1)) in
    (calls, variant_fits _ _ _ _ (back_fits _ _ _ (up_fits _ _ _ calls)))

pub place_of-requires : goal.place_of-requires
place_of-requires g c = back_fits _ _ _ (next _ _ _ _ (up_fits _ _ _ c.requires-raw.1.1))

pub returns-then-ne-clause-found : goal.returns-then-ne-clause-found
returns-then-ne-clause-found g c =
    let x = c.args.self.now.state in
    let list = c.self.inside.calls.list in
    let other = sym (ap (λ v. not (nat_eq c.args.id.now.name v.state.name)) c.self.view_is) ∙ sym c.ne.ensures ∙ c.if-ne.true in
    let all = length c.as_slice.result.now in
    let is = ap length c.as_slice.ensures in
    let past : length list ≤ all = omega (arith, is) in
    ap (λ v. slice_get v.state.calls all) (sym c.self.view_is) ∙ slice_get-map call_of list all ∙ ap (option_map call_of) (slice_get_past list all past)
    ∙ sym (other_call x c.args.id.now other)

pub returns-then-ne-clause-own : goal.returns-then-ne-clause-own
returns-then-ne-clause-own g c = λ there.
    let x = c.args.self.now.state in
    let other = sym (ap (λ v. not (nat_eq c.args.id.now.name v.state.name)) c.self.view_is) ∙ sym c.ne.ensures ∙ c.if-ne.true in
    absurd (true≢false (sym (ap is_missing (other_call x c.args.id.now other)) ∙ there))

pub returns-clause-found : goal.returns-clause-found
returns-clause-found g c =
    let x = c.args.self.now.state in
    let own = sym (ap (λ v. not (nat_eq c.args.id.now.name v.state.name)) c.self.view_is) ∙ sym c.ne.ensures ∙ c.if-ne.false in
    ap (slice_get x.calls) (c.place_of.ensures ∙ ap (λ v. place_of c.args.id.now.number v.state.calls) c.self.view_is) ∙ sym (own_call x c.args.id.now own)

pub returns-clause-own : goal.returns-clause-own
returns-clause-own g c = λ there. c.place_of.ensures ∙ ap (λ v. place_of c.args.id.now.number v.state.calls) c.self.view_is
