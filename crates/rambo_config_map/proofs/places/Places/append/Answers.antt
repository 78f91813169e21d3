use Rattle.std.proofs.Common.{◌≡◌, ◌≤◌, true, false, Result, Ok, Err, is_ok, is_err, refl, sym, subst, le_trans}
use Rattle.std.specs.Prelude.{OnOk}
use Rattle.std.proofs.lemmas.Bool.{true≢false}
use Rattle.rambo_config_map.proofs.places.Places.append.Goals as goal

not_both : {T E : Type 0} (r : Result T E) → true ≡ is_err r → is_ok r ≡ true → ⊥
not_both (Ok x) e o = true≢false e
not_both (Err x) e o = true≢false (sym o)

of_ok : {T E : Type 0} (r : Result T E) {P : Type 0} → false ≡ is_err r → OnOk r P → P
of_ok (Ok x) e p = p
of_ok (Err x) e p = absurd (true≢false (sym e))

pub extend-requires : goal.extend-requires
extend-requires g c = c.requires-raw.1.0

pub unreachable-requires : goal.unreachable-requires
unreachable-requires g c = not_both c.extend.result c.if-is_err.ensures.value (c.extend.ensures.succeeds (le_trans c.requires (subst (λ r. 8 ≤ r.capacity) c.self.view_is c.self.invariant.0)))

pub unreachable-unreachable : goal.unreachable-unreachable
unreachable-unreachable g c = c.unreachable.result

pub returns-clause-configs : goal.returns-clause-configs
returns-clause-configs g c = of_ok c.extend.result c.if-is_err.ensures.value c.extend.ensures.ok

pub returns-clause-capacity : goal.returns-clause-capacity
returns-clause-capacity g c = c.extend.ensures.had_room (le_trans c.requires (subst (λ r. 8 ≤ r.capacity) c.self.view_is c.self.invariant.0))

pub same-self : goal.same-self
same-self g c = refl
