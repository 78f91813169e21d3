-- No two nodes hold different configurations at one place, at one moment or at two
use Rattle.std.proofs.Common.{◌≡◌, ℕ, zero, suc, pred, sym, ap, ◌∙◌, inl, inr, arith}
use Rattle.rambo_names.specs.Quorums.{QuorumSystem, IsSound}
use Rattle.rambo_config_map.specs.Maps.{top_of, active_at}
use Rattle.rambo_gc.specs.CollectionLaws.{quorum_of}
use Rattle.rambo_run.proofs.Turn.{Moments, Telling, Run}
use Rattle.rambo_run.proofs.Formed.{formed}
use Rattle.rambo_run.proofs.Places.{HeldAt}
use Rattle.rambo_run.proofs.Origins.{ChosenAt, origin}
use Rattle.rambo_run.proofs.PlaceRun.{no_place, chosen_once}

module _ {Q : Type 0} {T : Telling} (s : QuorumSystem Q) (law : IsSound s) (founders : Q) (at : Moments Q) (run : Run s T founders at) where
  -- a configuration below the place of a chosen one is held
  below_held : (p : ℕ) (c : Q) → ChosenAt s at (suc p) c → (d : Q) × HeldAt at p d
  below_held p c h =
      let x = at h.moment h.node in
      let q = quorum_of s (active_at x.map (top_of x.map)) h.attempt.repliers h.backed.quorum in
      let top : top_of x.map ≡ p = ap pred h.end in
      (q.0, record { moment = h.moment; node = h.node; active = ap (active_at x.map) (sym top) ∙ q.1 })

  -- nodes hold one configuration at one place, at one moment or at two
  pub agreement : (p : ℕ) (c d : Q) → HeldAt at p c → HeldAt at p d → c ≡ d
  agreement zero c d h k = elim (origin s founders at run zero c h) [
    | inl a ↦ elim (origin s founders at run zero d k) [
      | inl b ↦ a.1 ∙ sym b.1
      | inr b ↦ absurd (no_place (at b.moment b.node) b.end (formed s founders at run b.moment b.node))
    ]
    | inr a ↦ absurd (no_place (at a.moment a.node) a.end (formed s founders at run a.moment a.node))
  ]
  agreement (suc p) c d h k = elim (origin s founders at run (suc p) c h) [
    | inl a ↦ absurd (omega (arith, a.0))
    | inr a ↦ elim (origin s founders at run (suc p) d k) [
      | inl b ↦ absurd (omega (arith, b.0))
      | inr b ↦ (let old = below_held p c a in
          chosen_once s founders at run p old.0 (λ e w. agreement p e old.0 w old.1) law c d a b)
    ]
  ]
