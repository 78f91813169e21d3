use Rattle.std.proofs.Common.{ap, sym, ◌∙◌, length, nat_le}
use Rattle.std.proofs.lemmas.List.{length-map}
use Rattle.rambo_names.proofs.Sizes.{up_fits, back_fits, next, variant_fits}
use Rattle.rambo_node.proofs.node.Node.is_full.Goals as goal

pub as_slice-requires : goal.as_slice-requires
as_slice-requires g c =
    let calls = back_fits _ _ _ (next _ _ _ _ (up_fits _ _ _ c.requires-raw.1.1)) in
    (calls, variant_fits _ _ _ _ (back_fits _ _ _ (up_fits _ _ _ calls)))

pub returns : goal.returns
returns g c = ap (nat_le 64) (ap length c.as_slice.ensures ∙ sym (length-map _ _) ∙ ap (λ v. length v.state.calls) c.self.view_is)
