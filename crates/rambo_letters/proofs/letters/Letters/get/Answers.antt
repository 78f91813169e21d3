use Rattle.std.proofs.lemmas.Grind.{common_steps}
use Rattle.std.proofs.Common.{◌≡◌, refl, ◌∙◌, ◌-◌, length, Some, sym, ap, slice_get, arith}
use Rattle.std.specs.Option.{option_map}
use Rattle.std.proofs.lemmas.Option.{slice_get_past, slice_get_read, slice_get-map}
use Rattle.rambo_letters.specs.Shared.{sent_in}
use Rattle.rambo_letters.proofs.Sharing.{sent_here}
use Rattle.rambo_names.proofs.Sizes.{up_fits, back_fits, variant_fits}
use Rattle.rambo_letters.proofs.letters.Letters.get.Goals as goal

pub returns-then-place-len : goal.returns-then-place-len
returns-then-place-len g c =
    let xs = c.self.inside.list.items in
    let seen = sent_in c.self.inside.standings.items in
    let count : c.len.result ≡ length xs = c.len.ensures ∙ c.self.inside.list.ok.0 in
    sym (sym (sent_here c.args.self.now c.args.number c.if-number-eq0.false) ∙ ap (λ xs. slice_get xs (c.args.number - 1)) (sym c.self.view_is)
    ∙ slice_get-map seen xs (c.args.number - 1) ∙ ap (option_map seen) (slice_get_past xs (c.args.number - 1) (omega (arith, c.if-place-len.true, count))))

pub returns : goal.returns
returns g c =
    let xs = c.self.inside.list.items in
    let seen = sent_in c.self.inside.standings.items in
    let count : c.len.result ≡ length xs = c.len.ensures ∙ c.self.inside.list.ok.0 in
    ap Some (c.read.ensures ∙ ap (λ ms. sent_in ms c.index.result.now) c.as_slice.ensures.value)
    ∙ ap (option_map seen) (sym (slice_get_read xs (length xs) (c.args.number - 1) c.index.result.now refl (omega (arith, c.if-place-len.false, count)) c.index.ensures))
    ∙ sym (slice_get-map seen xs (c.args.number - 1))
    ∙ ap (λ xs. slice_get xs (c.args.number - 1)) c.self.view_is ∙ sent_here c.args.self.now c.args.number c.if-number-eq0.false

pub returns-then-number-eq0 : goal.returns-then-number-eq0
returns-then-number-eq0 g c = grind (arith, common_steps)

pub overflow_sub-place : goal.overflow_sub-place
overflow_sub-place g c = grind (arith, common_steps)

pub index-requires : goal.index-requires
index-requires g c = omega (arith, c.if-place-len.false, c.len.ensures)

pub read-requires : goal.read-requires
read-requires g c = variant_fits _ _ _ _ (back_fits _ _ _ (up_fits _ _ _ c.requires-raw.1))
