use Rattle.std.proofs.Common.{◌≡◌, length, slice_get, sym, ap, ◌∙◌, subst, inl, inr, arith}
use Rattle.std.proofs.lemmas.Bool.{cases_eq}
use Rattle.std.proofs.lemmas.Option.{slice_get_read, slice_get_within}
use Rattle.rambo_run.proofs.Lists.{some_inj}
use Rattle.rambo_book.specs.Kept.{KeeperView}
use Rattle.rambo_book.specs.Readying.{IsIn}
use Rattle.rambo_recovery.proofs.delivering.place_with.Goals as goal

pub returns-then-is_in : goal.returns-then-is_in
returns-then-is_in g c =
    let ks = c.args.keepers.now in
    let at = c.loop-place.place in
    let k = c.index-keepers-place.result in (
      c.loop-place-test.true,
      λ x e.
          let here = slice_get_read ks (length ks) at k (λ i. length ks) c.loop-place-test.true c.index-keepers-place.is in
          let is : k ≡ x = some_inj k x (sym here ∙ e) in
          subst (λ (k : KeeperView _). IsIn k.tray c.args.number) is (subst (λ t. IsIn t c.args.number) c.tray.ensures c.if-is_in.ensures),
    )

pub loop-place-preserved : goal.loop-place-preserved
loop-place-preserved g c = λ place x below e i.
    let ks = c.args.keepers.now in
    let at = c.loop-place.place in
    let k = c.index-keepers-place.result in
    elim (cases_eq place at) [
      | inl same ↦ (
          let here = slice_get_read ks (length ks) at k (λ i. length ks) c.loop-place-test.true c.index-keepers-place.is in
          let is : x ≡ k = some_inj x k (sym e ∙ ap (slice_get ks) same ∙ here) in
          c.if-is_in.ensures (subst (λ t. IsIn t c.args.number) (sym c.tray.ensures) (subst (λ (k : KeeperView _). IsIn k.tray c.args.number) is i)))
      | inr other ↦ c.loop-place.invariant place x (omega (arith, below, other)) e i
    ]

pub returns : goal.returns
returns g c = λ h.
    let within = slice_get_within c.args.keepers.now h.0 h.1 h.2 in
    c.loop-place.invariant h.0 h.1 (omega (arith, within, c.loop-place-test.false)) h.2 h.3
