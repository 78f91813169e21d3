use Rattle.std.proofs.Common.{◌≡◌, ◌∙◌, ◌-◌, ◌≤◌, Some, length, get_or, sym, ap, arith}
use Rattle.std.proofs.lemmas.List.{get_or_default}
use Rattle.rambo_tag.specs.Tags.{is_newer, version_lt}
use Rattle.rambo_logs.specs.Stored.{no_copy, copy_at, copy_of, hinted}
use Rattle.rambo_logs.proofs.Hinting.{is_newer-itself, hinted-above, hint_within}
use Rattle.rambo_logs.proofs.hints.is_lacked.Goals as goal

pub returns-then-hint-entry : goal.returns-then-hint-entry
returns-then-hint-entry c =
    let puts = c.args.puts.now in
    let hints = c.args.hints.now in
    let v = (copy_of puts c.args.entry.now).version in
    sym (ap (λ i. is_newer (hinted puts (get_or hints i 0)) v) (sym c.hint_place.ensures)
    ∙ ap (λ o. is_newer o v) (hinted-above puts (get_or hints c.hint_place.result 0) c.if-hint-eq0.false)
    ∙ ap (λ p. is_newer (Some (copy_at puts p).version) v) c.if-hint-entry.true
    ∙ is_newer-itself v)

pub returns : goal.returns
returns c =
    let puts = c.args.puts.now in
    let hints = c.args.hints.now in
    let v = (copy_of puts c.args.entry.now).version in
    let h = get_or hints c.hint_place.result 0 in
    let within : h ≤ length puts = hint_within puts hints c.hint_place.result c.requires.hints in
    let some : h ≡ 0 → ⊥ = c.if-hint-eq0.false in
    let greatest = get_or_default puts (h - 1) c.index-puts-hint.result no_copy (omega (arith, within, some)) in
    let copy = get_or_default puts c.args.entry.now.place c.index-puts-entry.result no_copy c.requires.within.place in
    c.is_before.ensures
    ∙ (λ i. version_lt (greatest i).version (copy i).version)
    ∙ sym (ap (λ i. is_newer (hinted puts (get_or hints i 0)) v) (sym c.hint_place.ensures)
    ∙ ap (λ o. is_newer o v) (hinted-above puts (get_or hints c.hint_place.result 0) c.if-hint-eq0.false))
