use Rattle.std.proofs.Common.{◌≡◌, ℕ, ◌+◌, ◌-◌, ◌<◌, ◌≤◌, ◌^◌, if◌then◌else◌, length, Ok, Err, refl, sym, ap, ◌∙◌, subst, arith, length-drop}
use Rattle.std.proofs.lemmas.Bool.{le-leb, lt-leb}
use Rattle.rambo_names.specs.declared.refusal.Refusal.TheVariants as refusal
use Rattle.rambo_names.proofs.Sizes.{back_fits, up_fits}
use Rattle.rambo_config_map.specs.Maps.{MapState, without_lowest, remove_answer}
use Rattle.rambo_config_map.proofs.config_map.ConfigMap.remove_lowest.Goals as goal

one : {Q : Type 0} (m : MapState Q) → length m.configs ≡ 1 → Err refusal.NothingToCollect ≡ remove_answer m
one m e =
    let few : length m.configs ≤ 1 = omega (arith, e) in
    sym (ap (λ t. if t then Err refusal.NothingToCollect else Ok m.floor) (le-leb (length m.configs) 1 few))

removed : {Q : Type 0} (m : MapState Q) → 1 < length m.configs → Ok m.floor ≡ remove_answer m
removed m h = sym (ap (λ t. if t then Err refusal.NothingToCollect else Ok m.floor) (lt-leb (length m.configs) 1 h))

more : (len n : ℕ) → len ≡ n → (len ≡ 1 → ⊥) → 1 ≤ n → 1 < n
more len n e other h = omega (arith, e, other, h)

above : (floor n : ℕ) → 1 < n → floor + n ≤ 2 ^ 64 → floor + 1 < 2 ^ 64
above floor n h fits = omega (arith, h, fits)

in_range : (floor n left : ℕ) → 1 < n → n ≤ 8 → floor + n ≤ 2 ^ 64 → left ≡ n - 1 → (1 ≤ left) × (left ≤ 8) × (floor + 1 + left ≤ 2 ^ 64)
in_range floor n left h few fits e = (omega (arith, h, e), omega (arith, few, e), omega (arith, h, fits, e))

pub len-requires : goal.len-requires
len-requires g c = back_fits _ _ _ (up_fits _ _ _ c.requires-raw.1)

pub returns-then-len-eq1-clause-answer : goal.returns-then-len-eq1-clause-answer
returns-then-len-eq1-clause-answer g c =
    one c.args.self.now (subst (λ m. length m.configs ≡ 1) c.self.view_is (sym c.len.ensures ∙ c.if-len-eq1.true))

pub returns-then-len-eq1-clause-ok : goal.returns-then-len-eq1-clause-ok
returns-then-len-eq1-clause-ok g c = tt

pub returns-then-len-eq1-clause-err : goal.returns-then-len-eq1-clause-err
returns-then-len-eq1-clause-err g c = refl

pub forget-requires : goal.forget-requires
forget-requires g c = back_fits _ _ _ (up_fits _ _ _ c.requires-raw.1)

pub overflow_add-self : goal.overflow_add-self
overflow_add-self g c = record { fits = above c.self.inside.floor (length c.self.inside.places.configs) (more c.len.result (length c.self.inside.places.configs) c.len.ensures c.if-len-eq1.false c.self.invariant.0) c.self.invariant.2 }

pub invariant_of-self : goal.invariant_of-self
invariant_of-self g c =
    let sum = in_range c.self.inside.floor (length c.self.inside.places.configs) (length c.forget.new.self.configs) (more c.len.result (length c.self.inside.places.configs) c.len.ensures c.if-len-eq1.false c.self.invariant.0) c.self.invariant.1 c.self.invariant.2
    (ap length c.forget.ensures.configs ∙ length-drop 1 c.self.inside.places.configs) in
    (sum.0, sum.1, sum.2, c.forget.ensures.capacity ∙ c.self.invariant.3)

pub returns-clause-answer : goal.returns-clause-answer
returns-clause-answer g c =
    ap (λ m. Ok m.floor) c.self.view_is ∙ removed c.args.self.now (subst (λ m. 1 < length m.configs) c.self.view_is (more c.len.result (length c.self.inside.places.configs) c.len.ensures c.if-len-eq1.false c.self.invariant.0))

pub returns-clause-ok : goal.returns-clause-ok
returns-clause-ok g c =
    (λ i. record { floor = c.self.inside.floor + 1; configs = c.forget.ensures.configs i }) ∙ ap without_lowest c.self.view_is

pub returns-clause-err : goal.returns-clause-err
returns-clause-err g c = tt
