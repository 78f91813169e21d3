use Rattle.rambo_names.proofs.Sizes.{up_fits, back_fits, variant_fits}
use Rattle.std.proofs.Common.{◌≡◌, sym, ap, ◌∙◌, subst, length, slice_get, slice_set, get_or, arith}
use Rattle.rambo_calls.specs.Hearing.{restarted}
use Rattle.rambo_calls.specs.Kept.{call_of, calls_of, with_call}
use Rattle.rambo_calls.proofs.CallLists.{put_at, put_past}
use Rattle.rambo_calls.proofs.open_calls.OpenCalls.restart.Goals as goal

pub returns-then-place-len : goal.returns-then-place-len
returns-then-place-len g c =
    let f = restarted c.args.phase_number c.args.map.now c.args.me in
    let count : c.len.result ≡ length c.args.self.now.list = c.len.ensures ∙ c.self.inside.list.ok.0 ∙ ap (λ k. length k.list) c.self.view_is in
    put_past c.args.self.now.list c.args.place f (omega (arith, c.if-place-len.true, count))

pub returns : goal.returns
returns g c =
    let f = restarted c.args.phase_number c.args.map.now c.args.me in
    let count : c.len.result ≡ length c.args.self.now.list = c.len.ensures ∙ c.self.inside.list.ok.0 ∙ ap (λ k. length k.list) c.self.view_is in
    subst (λ cs. calls_of (slice_set cs c.args.place c.restart.new.self) ≡ with_call c.args.place (slice_get (calls_of c.args.self.now.list) c.args.place) f (calls_of c.args.self.now.list))
    (sym (ap (λ k. k.list) c.self.view_is)) (put_at c.args.self.now.list c.args.place f (omega (arith, c.if-place-len.false, count)) c.restart.new.self c.index_mut.result.now
    (c.restart.ensures ∙ ap (λ x. f (call_of x)) (c.index_mut.ensures.value ∙ ap (λ k. get_or k.list c.args.place c.index_mut.result.now) c.self.view_is)))

pub index_mut-requires : goal.index_mut-requires
index_mut-requires g c = omega arith

pub restart-requires : goal.restart-requires
restart-requires g c = (variant_fits _ _ _ _ (back_fits _ _ _ (up_fits _ _ _ c.requires-raw.1.0)), c.requires-raw.1.1)
