use Rattle.std.proofs.Common.{◌≡◌, ℕ, ◌+◌, ◌-◌, ◌<◌, ◌≤◌, ◌^◌, min, if◌then◌else◌, sym, ap, ◌∙◌, subst, arith}
use Rattle.std.proofs.lemmas.Bool.{le-leb, lt-leb}
use Rattle.rambo_config_map.specs.Maps.{MapState}
use Rattle.rambo_names.proofs.Sizes.{back_fits, up_fits}
use Rattle.rambo_phase.specs.declared.heard.Heard.TheVariants as heard
use Rattle.rambo_phase.specs.Phases.{PhaseState, above, fits, heard_as}
use Rattle.rambo_phase.proofs.phase.Phase.would_hear.Goals as goal

old : {Q : Type 0} (p : PhaseState Q) (n : ℕ) (m : MapState Q) → n < p.number → heard.Old ≡ heard_as p n m
old p n m h = sym (ap (λ t. if t then (if fits p m then heard.Counted else heard.Restart) else heard.Old) (lt-leb p.number n h))

counted : {Q : Type 0} (p : PhaseState Q) (n : ℕ) (m : MapState Q) (f s : ℕ) → p.number ≤ n → f ≡ m.floor → s ≡ min (above p) (2 ^ 64 - 1) → f ≤ s
    → heard.Counted ≡ heard_as p n m
counted p n m f s h e k l =
    let near : m.floor ≤ above p = omega (arith, e, k, l) in
    sym (ap (λ t. if t then (if fits p m then heard.Counted else heard.Restart) else heard.Old) (le-leb p.number n h)
    ∙ ap (λ t. if t then heard.Counted else heard.Restart) (le-leb m.floor (above p) near))

restart : {Q : Type 0} (p : PhaseState Q) (n : ℕ) (m : MapState Q) (f s : ℕ) → p.number ≤ n → f ≡ m.floor → f < 2 ^ 64 → s ≡ min (above p) (2 ^ 64 - 1)
    → s < f → heard.Restart ≡ heard_as p n m
restart p n m f s h e b k l =
    let far : above p < m.floor = omega (arith, e, b, k, l) in
    sym (ap (λ t. if t then (if fits p m then heard.Counted else heard.Restart) else heard.Old) (le-leb p.number n h)
    ∙ ap (λ t. if t then heard.Counted else heard.Restart) (lt-leb m.floor (above p) far))

pub returns-then-heard-self : goal.returns-then-heard-self
returns-then-heard-self g c = old c.args.self.now.state c.args.heard c.args.map.now (subst (λ p. c.args.heard < p.state.number) c.self.view_is c.if-heard-self.true)

pub floor-requires : goal.floor-requires
floor-requires g c = c.requires-raw.1.1

pub len-requires : goal.len-requires
len-requires g c = back_fits _ _ _ (up_fits _ _ _ c.requires-raw.1.1)

pub returns-then-floor-saturating_add : goal.returns-then-floor-saturating_add
returns-then-floor-saturating_add g c =
    counted c.args.self.now.state c.args.heard c.args.map.now c.floor.result c.saturating_add.result
    (subst (λ p. p.state.number ≤ c.args.heard) c.self.view_is c.if-heard-self.false) c.floor.ensures
    (c.saturating_add.ensures ∙ ap (λ n. min (c.self.inside.lo + n) (2 ^ 64 - 1)) c.len.ensures ∙ ap (λ p. min (above p.state) (2 ^ 64 - 1)) c.self.view_is)
    c.if-floor-saturating_add.true

pub returns-else-floor-saturating_add : goal.returns-else-floor-saturating_add
returns-else-floor-saturating_add g c =
    restart c.args.self.now.state c.args.heard c.args.map.now c.floor.result c.saturating_add.result
    (subst (λ p. p.state.number ≤ c.args.heard) c.self.view_is c.if-heard-self.false) c.floor.ensures c.floor.type_inv
    (c.saturating_add.ensures ∙ ap (λ n. min (c.self.inside.lo + n) (2 ^ 64 - 1)) c.len.ensures ∙ ap (λ p. min (above p.state) (2 ^ 64 - 1)) c.self.view_is)
    c.if-floor-saturating_add.false
