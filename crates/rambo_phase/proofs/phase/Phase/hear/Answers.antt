use Rattle.std.proofs.Common.{◌≡◌, ℕ, ◌+◌, ◌-◌, ◌≤◌, ◌^◌, min, Bool, true, false, List, ◌++◌, length, drop, refl, sym, ap, ◌∙◌, subst, inl, inr, arith, le_trans, length-append, length-drop, le_refl}
use Rattle.std.proofs.lemmas.Bool.{true≢false, cases_lt}
use Rattle.std.proofs.lemmas.List.{drop_all}
use Rattle.std.specs.FinSet as set
use Rattle.rambo_names.proofs.Errors.{err_kept, err_ok, err_if_ok, on_err}
use Rattle.rambo_names.proofs.Sizes.{back_fits, up_fits}
use Rattle.rambo_config_map.specs.Maps.{MapState}
use Rattle.rambo_phase.specs.declared.heard.Heard.{Heard}
use Rattle.rambo_phase.specs.declared.heard.Heard.TheVariants as heard
use Rattle.rambo_phase.specs.contracts.heard.Heard.{the_type}
use Rattle.rambo_phase.specs.Phases.{PhaseState, above, needed, heard_as}
use Rattle.rambo_phase.specs.PhaseLaws.{letter_counted, letter_ignored}
use Rattle.rambo_phase.proofs.phase.Phase.hear.Goals as goal
use denote.Enum.Bare.{sameb, same_true, same_false}

-- a list is empty past the greatest number
drop-min : {A : Type 0} (a k : ℕ) (xs : List A) → length xs ≤ k → drop (min a k) xs ≡ drop a xs
drop-min a k xs h = elim (cases_lt a k) [
  | inl l ↦ (let e : min a k ≡ a = omega (arith, l) in ap (λ n. drop n xs) e)
  | inr l ↦ drop_all (min a k) xs (omega (arith, l, h)) ∙ sym (drop_all a xs (omega (arith, l, h)))
]

has_room : (n m known a cap : ℕ) → m ≤ 8 → known ≡ min a (2 ^ 64 - 1) → n + (m - a) ≤ cap → n + (m - known) ≤ cap
has_room n m known a cap m_fits k h = omega (arith, m_fits, k, h)

in_range : (lo n f m known new : ℕ) → lo + n ≤ 2 ^ 64 → f + m ≤ 2 ^ 64 → f ≤ lo + n → m ≤ 8 → known ≡ min (lo + n - f) (2 ^ 64 - 1)
    → new ≡ n + (m - known) → lo + new ≤ 2 ^ 64
in_range lo n f m known new p m_in fits m_fits k e = omega (arith, p, m_in, fits, m_fits, k, e)

below_eight : (m : ℕ) → m ≤ 8 → m ≤ 2 ^ 64 - 1
below_eight m h = omega (arith, h)

counts : {Q : Type 0} (p : PhaseState Q) (number : ℕ) (m : MapState Q) (answer : Heard) (b : Bool) → answer ≡ heard_as p number m
    → b ≡ sameb the_type answer heard.Counted → b ≡ true → heard_as p number m ≡ heard.Counted
counts p number m answer b a e t = sym a ∙ same_true the_type tt answer heard.Counted (sym e ∙ t)

others : {Q : Type 0} (p : PhaseState Q) (number : ℕ) (m : MapState Q) (answer : Heard) (b : Bool) → answer ≡ heard_as p number m
    → b ≡ sameb the_type answer heard.Counted → b ≡ false → heard_as p number m ≡ heard.Counted → ⊥
others p number m answer b a e f h = same_false the_type answer heard.Counted (sym e ∙ f) (a ∙ h)

-- what there is room for in the phase, there is in the row that it is kept in
fit : {Q : Type 0} (p : PhaseState Q) (m : MapState Q) (known cap room : ℕ) (own row : List Q) → p.configs ≡ own → room ≡ cap → row ≡ m.configs
    → length m.configs ≤ 8 → known ≡ min (above p - m.floor) (2 ^ 64 - 1) → needed p m ≤ room
    → length own + (length row - known) ≤ cap
fit p m known cap room own row same kept same_row few k h =
    omega (arith, has_room (length p.configs) (length m.configs) known (above p - m.floor) room few k h, ap length same, ap length same_row, kept)

pub would_hear-answer-requires : goal.would_hear-answer-requires
would_hear-answer-requires g c = c.requires-raw.1

pub known-known-requires : goal.known-known-requires
known-known-requires g c = (c.requires-raw.1.0, c.requires-raw.1.1)

pub places-requires : goal.places-requires
places-requires g c = (c.requires-raw.1.1, back_fits _ _ _ (up_fits _ _ _ c.requires-raw.1.1))

pub extend-requires : goal.extend-requires
extend-requires g c = back_fits _ _ _ (up_fits _ _ _ c.requires-raw.1.1)

pub invariant_of-self : goal.invariant_of-self
invariant_of-self g c = subst (λ p. (c.self.inside.lo + length p.configs ≤ 2 ^ 64) × (8 ≤ p.capacity)) (sym c.in_err-extend.ensures.err) c.self.invariant

pub returns-in_err-extend-clause-ok : goal.returns-in_err-extend-clause-ok
returns-in_err-extend-clause-ok g c = err_ok c.from_residual.result _ _ c.from_residual.ensures.1

pub returns-in_err-extend-clause-answer : goal.returns-in_err-extend-clause-answer
returns-in_err-extend-clause-answer g c = err_if_ok c.from_residual.result _ _ c.from_residual.ensures.1

pub returns-in_err-extend-clause-no_reply : goal.returns-in_err-extend-clause-no_reply
returns-in_err-extend-clause-no_reply g c = λ h. absurd (h (counts c.args.self.now.state c.args.heard c.args.map.now c.would_hear-answer.result c.eq.result c.would_hear-answer.ensures c.eq.ensures c.if-eq.true))

pub returns-in_err-extend-clause-err : goal.returns-in_err-extend-clause-err
returns-in_err-extend-clause-err g c = on_err c.from_residual.result (
    (λ i. record {
      state = record { number = c.self.inside.number; lo = c.self.inside.lo; configs = (c.in_err-extend.ensures.err i).configs; repliers = c.self.inside.repliers };
      capacity = (c.in_err-extend.ensures.err i).capacity;
    }) ∙ c.self.view_is)

pub returns-in_err-extend-clause-refused : goal.returns-in_err-extend-clause-refused
returns-in_err-extend-clause-refused g c = err_kept c.from_residual.result _ _ c.from_residual.ensures.1 c.in_err-extend.ensures.refused

pub returns-in_err-extend-clause-succeeds : goal.returns-in_err-extend-clause-succeeds
returns-in_err-extend-clause-succeeds g c = λ h.
    absurd (true≢false (sym (c.in_err-extend.ensures.succeeds (fit c.args.self.now.state c.args.map.now c.known-known.result c.self.inside.places.capacity c.args.self.now.capacity c.self.inside.places.configs c.places.result.now.configs
    (sym (ap (λ p. p.state.configs) c.self.view_is)) (sym (ap (λ p. p.capacity) c.self.view_is)) c.places.ensures.row c.places.ensures.at_most_eight c.known-known.ensures h))))

pub returns-in_err-extend-clause-had_room : goal.returns-in_err-extend-clause-had_room
returns-in_err-extend-clause-had_room g c = λ h. ap (λ p. p.capacity) c.in_err-extend.ensures.err ∙ ap (λ p. p.capacity) c.self.view_is

pub returns-in_err-extend-clause-eight : goal.returns-in_err-extend-clause-eight
returns-in_err-extend-clause-eight g c = subst (λ p. 8 ≤ p.capacity) c.self.view_is c.self.invariant.1

pub returns-in_err-extend-clause-capacity : goal.returns-in_err-extend-clause-capacity
returns-in_err-extend-clause-capacity g c = subst (λ p. p.capacity ≤ c.extend.new.self.capacity) c.self.view_is c.in_err-extend.ensures.capacity

pub invariant_of-self-then-eq : goal.invariant_of-self-then-eq
invariant_of-self-then-eq g c =
    let now = c.args.self.now.state in
    let map = c.args.map.now in
    let known = c.known-known.result in
    let own = c.self.inside.places.configs in
    let row = c.places.result.now.configs in
    let e = counts c.args.self.now.state c.args.heard c.args.map.now c.would_hear-answer.result c.eq.result c.would_hear-answer.ensures c.eq.ensures c.if-eq.true in
    let new : length c.extend.new.self.configs ≡ length now.configs + (length map.configs - known) =
    ap length c.in_ok-extend.ensures.ok ∙ length-append own (drop known row) ∙ ap (λ n. length own + n) (length-drop known row)
    ∙ (λ i. length (c.self.view_is i).state.configs + (length (c.places.ensures.row i) - known)) in (
      subst (λ p. p.state.lo + length c.extend.new.self.configs ≤ 2 ^ 64) (sym c.self.view_is)
          (in_range now.lo (length now.configs) map.floor (length map.configs) known (length c.extend.new.self.configs)
          (subst (λ p. p.state.lo + length p.state.configs ≤ 2 ^ 64) c.self.view_is c.self.invariant.0) c.places.ensures.in_range
          (letter_counted now c.args.heard map c.args.from e).0 c.places.ensures.at_most_eight c.known-known.ensures new),
      le_trans c.self.invariant.1 c.in_ok-extend.ensures.capacity,
    )

pub returns-in_ok-extend-clause-ok : goal.returns-in_ok-extend-clause-ok
returns-in_ok-extend-clause-ok g c =
    let now = c.args.self.now.state in
    let map = c.args.map.now in
    let known = c.known-known.result in
    let e = counts c.args.self.now.state c.args.heard c.args.map.now c.would_hear-answer.result c.eq.result c.would_hear-answer.ensures c.eq.ensures c.if-eq.true in
    let k : drop known map.configs ≡ drop (above now - map.floor) map.configs =
    ap (λ n. drop n map.configs) c.known-known.ensures
    ∙ drop-min (above now - map.floor) (2 ^ 64 - 1) map.configs (below_eight (length map.configs) c.places.ensures.at_most_eight) in
    let configs : c.extend.new.self.configs ≡ now.configs ++ drop (above now - map.floor) map.configs =
    c.in_ok-extend.ensures.ok ∙ (λ i. (c.self.view_is i).state.configs ++ drop known (c.places.ensures.row i)) ∙ ap (λ xs. now.configs ++ xs) k in
    let repliers : c.with-self-inside.result ≡ set.insert now.repliers c.args.from =
    c.with-self-inside.ensures ∙ ap (λ p. set.insert p.state.repliers c.args.from) c.self.view_is in
    (λ i. record { number = (c.self.view_is i).state.number; lo = (c.self.view_is i).state.lo; configs = configs i; repliers = repliers i })
    ∙ sym (letter_counted now c.args.heard map c.args.from e).1

pub returns-in_ok-extend-clause-answer : goal.returns-in_ok-extend-clause-answer
returns-in_ok-extend-clause-answer g c = c.would_hear-answer.ensures

pub returns-in_ok-extend-clause-no_reply : goal.returns-in_ok-extend-clause-no_reply
returns-in_ok-extend-clause-no_reply g c = λ h. absurd (h (counts c.args.self.now.state c.args.heard c.args.map.now c.would_hear-answer.result c.eq.result c.would_hear-answer.ensures c.eq.ensures c.if-eq.true))

pub returns-in_ok-extend-clause-err : goal.returns-in_ok-extend-clause-err
returns-in_ok-extend-clause-err g c = tt

pub returns-in_ok-extend-clause-refused : goal.returns-in_ok-extend-clause-refused
returns-in_ok-extend-clause-refused g c = tt

pub returns-in_ok-extend-clause-succeeds : goal.returns-in_ok-extend-clause-succeeds
returns-in_ok-extend-clause-succeeds g c = λ _. refl

pub returns-in_ok-extend-clause-had_room : goal.returns-in_ok-extend-clause-had_room
returns-in_ok-extend-clause-had_room g c = λ h.
    c.in_ok-extend.ensures.had_room (fit c.args.self.now.state c.args.map.now c.known-known.result c.self.inside.places.capacity c.args.self.now.capacity c.self.inside.places.configs c.places.result.now.configs
    (sym (ap (λ p. p.state.configs) c.self.view_is)) (sym (ap (λ p. p.capacity) c.self.view_is)) c.places.ensures.row c.places.ensures.at_most_eight c.known-known.ensures h) ∙ ap (λ p. p.capacity) c.self.view_is

pub returns-in_ok-extend-clause-eight : goal.returns-in_ok-extend-clause-eight
returns-in_ok-extend-clause-eight g c = subst (λ p. 8 ≤ p.capacity) c.self.view_is c.self.invariant.1

pub returns-in_ok-extend-clause-capacity : goal.returns-in_ok-extend-clause-capacity
returns-in_ok-extend-clause-capacity g c = subst (λ p. p.capacity ≤ c.extend.new.self.capacity) c.self.view_is c.in_ok-extend.ensures.capacity

pub returns-else-eq-clause-ok : goal.returns-else-eq-clause-ok
returns-else-eq-clause-ok g c = sym (letter_ignored c.args.self.now.state c.args.heard c.args.map.now c.args.from (others c.args.self.now.state c.args.heard c.args.map.now c.would_hear-answer.result c.eq.result c.would_hear-answer.ensures c.eq.ensures c.if-eq.false))

pub returns-else-eq-clause-answer : goal.returns-else-eq-clause-answer
returns-else-eq-clause-answer g c = c.would_hear-answer.ensures

pub returns-else-eq-clause-no_reply : goal.returns-else-eq-clause-no_reply
returns-else-eq-clause-no_reply g c = λ _. (refl, refl)

pub returns-else-eq-clause-err : goal.returns-else-eq-clause-err
returns-else-eq-clause-err g c = tt

pub returns-else-eq-clause-refused : goal.returns-else-eq-clause-refused
returns-else-eq-clause-refused g c = tt

pub returns-else-eq-clause-succeeds : goal.returns-else-eq-clause-succeeds
returns-else-eq-clause-succeeds g c = λ _. refl

pub returns-else-eq-clause-had_room : goal.returns-else-eq-clause-had_room
returns-else-eq-clause-had_room g c = λ _. refl

pub returns-else-eq-clause-eight : goal.returns-else-eq-clause-eight
returns-else-eq-clause-eight g c = subst (λ p. 8 ≤ p.capacity) c.self.view_is c.self.invariant.1

pub returns-else-eq-clause-capacity : goal.returns-else-eq-clause-capacity
returns-else-eq-clause-capacity g c = le_refl c.args.self.now.capacity
