use Rattle.std.proofs.Common.{◌≡◌, sym, ap, ◌∙◌}
use Rattle.std.proofs.lemmas.Bool.{true≢false, eqb-true, eq-eqb}
use Rattle.rambo_names.proofs.Sizes.{back_fits, up_fits, next}
use Rattle.rambo_phase.proofs.phase.Phase.same.Goals as goal
use Rattle.rambo_phase.proofs.phase.Phase.same.Goals.{then-self-other, else-self-other, then-self-other-2, else-self-other-2}

pub same-requires : goal.same-requires
same-requires g c = back_fits _ _ _ (next _ _ _ _ (up_fits _ _ _ c.requires-raw.1))

pub returns-then-are_same : goal.returns-then-are_same
returns-then-are_same g c =
    let one = c.self.inside in
    let other = c.other.inside in
    let parts : (one.number ≡ other.number) × (one.lo ≡ other.lo) × (one.repliers ≡ other.repliers) = elim c.if-self-other-2.branch [
      | then-self-other-2 w ↦ elim c.if-self-other.branch [
        | then-self-other v ↦ (
          v.if-self-other.true,
          eqb-true one.lo other.lo (sym v.value-is ∙ w.if-self-other-2.true),
          w.are_same.ensures.0 (sym w.value-is ∙ c.if-are_same.true),
        )
        | else-self-other v ↦ absurd (v.if-self-other.false (eqb-true one.number other.number (sym v.value-is ∙ w.if-self-other-2.true)))
      ]
      | else-self-other-2 w ↦ absurd (true≢false (sym c.if-are_same.true ∙ w.value-is ∙ w.if-self-other-2.false))
    ] in (
      λ t. sym (ap (λ p. p.state) c.self.view_is)
          ∙ (λ i. record { number = parts.0 i; lo = parts.1 i; configs = c.same.ensures.0 t i; repliers = parts.2 i })
          ∙ ap (λ p. p.state) c.other.view_is,
      λ e. c.same.ensures.1 (ap (λ p. p.state.configs) c.self.view_is ∙ ap (λ s. s.configs) e ∙ sym (ap (λ p. p.state.configs) c.other.view_is)),
    )

pub returns-else-are_same : goal.returns-else-are_same
returns-else-are_same g c = (
  λ t. absurd (true≢false (sym t ∙ c.if-are_same.false)),
  λ e. elim c.if-self-other-2.branch [
    | then-self-other-2 w ↦ w.value-is ∙ w.are_same.ensures.1
        (ap (λ p. p.state.repliers) c.self.view_is ∙ ap (λ s. s.repliers) e ∙ sym (ap (λ p. p.state.repliers) c.other.view_is))
    | else-self-other-2 w ↦ elim c.if-self-other.branch [
      | then-self-other v ↦ w.value-is ∙ v.value-is ∙ eq-eqb c.self.inside.lo c.other.inside.lo
          (ap (λ p. p.state.lo) c.self.view_is ∙ ap (λ s. s.lo) e ∙ sym (ap (λ p. p.state.lo) c.other.view_is))
      | else-self-other v ↦ w.value-is ∙ v.value-is ∙ eq-eqb c.self.inside.number c.other.inside.number
          (ap (λ p. p.state.number) c.self.view_is ∙ ap (λ s. s.number) e ∙ sym (ap (λ p. p.state.number) c.other.view_is))
    ]
  ],
)
