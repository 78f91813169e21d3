use Rattle.rambo_names.proofs.Sizes.{up_fits, back_fits, variant_fits}
use Rattle.std.proofs.Common.{map, length, arith, take, drop, ◌++◌, sym, ap, ◌∙◌, subst}
use Rattle.std.proofs.Math.Seq.{take-append_seam}
use Rattle.rambo_calls.specs.Hearing.{heard_call}
use Rattle.rambo_calls.specs.Kept.{calls_of, IsRoomy}
use Rattle.rambo_calls.proofs.open_calls.OpenCalls.hear.Goals as goal

pub returns : goal.returns
returns g c =
    let whole = c.as_mut_slice.ensures.value ∙ ap (λ k. k.list) c.self.view_is in
    ap calls_of (ap (λ n. take n (c.hear.new.calls ++ drop (length c.hear.new.calls) c.self.inside.list.items)) (omega (arith, c.hear.auto.calls, c.as_mut_slice.ensures.len)) ∙ take-append_seam c.hear.new.calls _)
    ∙ c.hear.ensures
    ∙ ap (λ cs. map (heard_call c.args.heard c.args.from c.args.map.now c.args.number c.args.merged.now c.args.me) (calls_of cs)) whole

pub hear-requires : goal.hear-requires
hear-requires g c = (
  variant_fits _ _ _ _ (back_fits _ _ _ (up_fits _ _ _ c.requires-raw.1.0)),
  (c.requires-raw.1.1.0, subst (IsRoomy c.args.map.now) (sym (c.as_mut_slice.ensures.value ∙ ap (λ k. k.list) c.self.view_is)) c.requires),
)
