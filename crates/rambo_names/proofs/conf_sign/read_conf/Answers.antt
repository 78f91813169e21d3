use Rattle.std.proofs.Common.{◌≡◌, ℕ, Bool, true, false, refl, ◌||◌, not, nat_eq, length, ap, sym, ◌∙◌, true≢false, arith}
use Rattle.std.specs.Prelude.{nat_lt, if◌then◌else◌}
use Rattle.std.specs.Str.{bytes_eq}
use Rattle.std.specs.FinSet.{empty}
use Rattle.rambo_names.specs.Names.{NameSet}
use Rattle.std.proofs.lemmas.Slice.Eq.{bytes_eq-Decides}
use Rattle.rambo_names.specs.Signs.{conf_text}
use Rattle.rambo_names.specs.Weights.{Weights, weight_of, evenly}
use Rattle.rambo_names.proofs.ConfTexts.{empty_text, empty_weight, member_weighs}
use Rattle.rambo_names.proofs.ReadSteps.{reads-start, reads-member, reads-other, reads-names, nothing_spelt, all_spelt}
use Rattle.rambo_names.proofs.conf_sign.read_conf.Goals as goal
use Rattle.rambo_names.proofs.conf_sign.read_conf.Goals.{in-Some, in_default, then-first, else-first}

-- the configuration that was begun with weighs nothing
begun : (conf : Weights) (s : NameSet) → conf ≡ evenly s → s ≡ empty → (n : ℕ) → weight_of conf n ≡ 0
begun conf s even none n = ap (λ (w : Weights). weight_of w n) even ∙ ap (λ t. weight_of (evenly t) n) none ∙ empty_weight n

pub returns-then-eq-clause-found : goal.returns-then-eq-clause-found
returns-then-eq-clause-found c =
    (bytes_eq-Decides c.args.bytes.now c.as_slice.result.now).0 (sym c.if-eq.ensures) ∙ c.as_slice.ensures
    ∙ sym (ap conf_text c.of-conf.ensures.even ∙ ap (λ s. conf_text (evenly s)) c.empty.ensures ∙ empty_text)

pub returns-then-eq-clause-names : goal.returns-then-eq-clause-names
returns-then-eq-clause-names c n has =
    absurd (true≢false (sym has ∙ member_weighs c.of-conf.result n ∙ ap (nat_lt 0) (begun c.of-conf.result c.empty.result c.of-conf.ensures.even c.empty.ensures n)))

pub loop-place-init : goal.loop-place-init
loop-place-init c = reads-start _ (weight_of c.of-conf.result) (begun c.of-conf.result c.empty.result c.of-conf.ensures.even c.empty.ensures)

pub loop-place-preserved : goal.loop-place-preserved
loop-place-preserved c =
    elim c.match-after_member.branch [
      | in-Some w ↦
          let found = w.in-Some.ensures.found in
          rw (w.conf-is, w.first-is, w.rest-is)
          (reads-member _ _ _ _ _ _ _ _ c.loop-place-test.true c.loop-place.invariant found.0 found.1 found.2
          (λ n. w.put.ensures n ∙ ap (λ p. if nat_eq n p then w.in-Some.weight else weight_of c.loop-place.conf n) w.at.ensures))
      | in_default w ↦
          rw (w.conf-is, w.first-is, w.rest-is)
          (reads-other _ _ _ _ _ c.loop-place-test.true c.loop-place.invariant w.in_default.ensures.none)
    ]

pub returns-then-not-is_empty-clause-none : goal.returns-then-not-is_empty-clause-none
returns-then-not-is_empty-clause-none c d e =
    nothing_spelt _ c.loop-place.first (weight_of c.loop-place.conf) c.loop-place.rest.now c.loop-place.place c.loop-place-test.false c.loop-place.invariant
    (c.if-eq.ensures ∙ ap (bytes_eq c.args.bytes.now) c.as_slice.ensures)
    (elim c.if-first.branch [
      | then-first w ↦ ap (λ t. t || not (nat_eq (length c.loop-place.rest.now) 0)) w.if-first.true
      | else-first w ↦ (λ i. w.if-first.false i || not (sym w.is_empty.ensures i)) ∙ sym w.value-is ∙ c.if-not-is_empty.true
    ]) d e

pub returns-else-not-is_empty-clause-names : goal.returns-else-not-is_empty-clause-names
returns-else-not-is_empty-clause-names c = reads-names _ _ _ _ _ c.loop-place-test.false (omega arith) c.loop-place.invariant

pub returns-else-not-is_empty-clause-found : goal.returns-else-not-is_empty-clause-found
returns-else-not-is_empty-clause-found c =
    elim c.if-first.branch [
      | then-first w ↦ absurd (true≢false (sym w.if-first.true ∙ sym w.value-is ∙ c.if-not-is_empty.false))
      | else-first w ↦
          all_spelt _ c.loop-place.first c.loop-place.conf c.loop-place.rest.now c.loop-place.place c.loop-place-test.false (omega arith) c.loop-place.invariant w.if-first.false
          (sym w.is_empty.ensures ∙ used w.is_empty.result (sym w.value-is ∙ c.if-not-is_empty.false))
    ]
  where
    used : (t : Bool) → not t ≡ false → t ≡ true
    used true e = refl
    used false e = cc
