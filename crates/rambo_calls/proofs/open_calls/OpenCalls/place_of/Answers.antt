use Rattle.rambo_names.proofs.Sizes.{up_fits, back_fits, variant_fits}
use Rattle.std.proofs.Common.{ap, ◌∙◌}
use Rattle.rambo_calls.specs.Calls.{place_of}
use Rattle.rambo_calls.specs.Kept.{calls_of}
use Rattle.rambo_calls.proofs.open_calls.OpenCalls.place_of.Goals as goal

pub place_of-requires : goal.place_of-requires
place_of-requires g c = variant_fits _ _ _ _ (back_fits _ _ _ (up_fits _ _ _ c.requires-raw.1))

pub returns : goal.returns
returns g c = c.place_of.ensures ∙ ap (λ cs. place_of c.args.number (calls_of cs)) (c.as_slice.ensures.value ∙ ap (λ k. k.list) c.self.view_is)
