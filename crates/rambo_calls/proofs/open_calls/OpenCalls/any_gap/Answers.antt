use Rattle.rambo_names.proofs.Sizes.{up_fits, back_fits, variant_fits}
use Rattle.std.proofs.Common.{ap, ◌∙◌}
use Rattle.rambo_calls.specs.Hearing.{any_gap}
use Rattle.rambo_calls.specs.Kept.{calls_of}
use Rattle.rambo_calls.proofs.open_calls.OpenCalls.any_gap.Goals as goal

pub any_gap-requires : goal.any_gap-requires
any_gap-requires g c = (variant_fits _ _ _ _ (back_fits _ _ _ (up_fits _ _ _ c.requires-raw.1.0)), c.requires-raw.1.1)

pub returns : goal.returns
returns g c =
    c.any_gap.ensures ∙ ap (λ cs. any_gap c.args.heard c.args.map.now (calls_of cs)) (c.as_slice.ensures.value ∙ ap (λ k. k.list) c.self.view_is)
