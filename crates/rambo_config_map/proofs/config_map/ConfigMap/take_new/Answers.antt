use Rattle.std.proofs.Common.{◌≡◌, ℕ, ◌+◌, ◌-◌, ◌≤◌, ◌^◌, min, max, List, ◌++◌, length, drop, sym, ap, ◌∙◌, inl, inr, arith, length-append, length-drop}
use Rattle.std.proofs.lemmas.Bool.{cases_lt}
use Rattle.std.proofs.lemmas.List.{drop_all}
use Rattle.rambo_names.proofs.Sizes.{back_fits, up_fits}
use Rattle.rambo_config_map.specs.Maps.{MapState, merged_map}
use Rattle.rambo_config_map.proofs.config_map.ConfigMap.take_new.Goals as goal

left : (a b floor : ℕ) → floor ≡ max a b → a ≤ floor
left a b floor e = omega (arith, e)

right : (a b floor : ℕ) → floor ≡ max a b → b ≤ floor
right a b floor e = omega (arith, e)

-- a list is empty past the greatest number
drop-min : {A : Type 0} (n k : ℕ) (xs : List A) → length xs ≤ 8 → 8 ≤ k → drop (min n k) xs ≡ drop n xs
drop-min n k xs h top = elim (cases_lt n k) [
  | inl l ↦ (let e : min n k ≡ n = omega (arith, l) in ap (λ m. drop m xs) e)
  | inr l ↦ drop_all (min n k) xs (omega (arith, l, h, top)) ∙ sym (drop_all n xs (omega (arith, l, h, top)))
]

module _ {Q : Type 0} (a b : MapState Q) (floor held len : ℕ) (own : List Q) where
  fits : own ≡ drop (floor - a.floor) a.configs → len ≡ length own → held ≡ min (floor - b.floor + len) (2 ^ 64 - 1)
      → length a.configs ≤ 8 → length b.configs ≤ 8 → length own + (length b.configs - held) ≤ 8
  fits o l h few_a few_b = omega (arith, ap length o ∙ length-drop (floor - a.floor) a.configs, l, h, few_a, few_b)

  in_range : (all : List Q) → floor ≡ max a.floor b.floor → own ≡ drop (floor - a.floor) a.configs → len ≡ length own
      → held ≡ min (floor - b.floor + len) (2 ^ 64 - 1) → 1 ≤ length a.configs → length a.configs ≤ 8 → a.floor + length a.configs ≤ 2 ^ 64
      → 1 ≤ length b.configs → length b.configs ≤ 8 → b.floor + length b.configs ≤ 2 ^ 64 → all ≡ own ++ drop held b.configs
      → (1 ≤ length all) × (length all ≤ 8) × (floor + length all ≤ 2 ^ 64)
  in_range all f o l h some_a few_a in_a some_b few_b in_b e =
      let n : length own ≡ length a.configs - (floor - a.floor) = ap length o ∙ length-drop (floor - a.floor) a.configs in
      let m : length all ≡ length own + (length b.configs - held) =
      ap length e ∙ length-append own (drop held b.configs) ∙ ap (λ k. length own + k) (length-drop held b.configs) in (
        omega (arith, n, m, f, l, h, some_a, some_b, few_b),
        omega (arith, n, m, l, h, few_a, few_b),
        omega (arith, n, m, f, l, h, in_a, in_b, few_b),
      )

  merged : (all : List Q) → floor ≡ max a.floor b.floor → own ≡ drop (floor - a.floor) a.configs → len ≡ length own
      → held ≡ min (floor - b.floor + len) (2 ^ 64 - 1) → length b.configs ≤ 8 → all ≡ own ++ drop held b.configs
      → record { floor = floor; configs = all } ≡ merged_map a b
  merged all f o l h few e =
      let k : drop held b.configs ≡ drop (floor - b.floor + length own) b.configs =
      ap (λ n. drop n b.configs) (h ∙ ap (λ n. min (floor - b.floor + n) (2 ^ 64 - 1)) l)
      ∙ drop-min (floor - b.floor + length own) (2 ^ 64 - 1) b.configs few (omega arith) in
      (λ i. record { floor = floor; configs = (e ∙ ap (λ xs. own ++ xs) k) i })
      ∙ (λ i. record { floor = floor; configs = o i ++ drop (floor - b.floor + length (o i)) b.configs })
      ∙ (λ i. record { floor = f i; configs = drop (f i - a.floor) a.configs ++ drop (f i - b.floor + length (drop (f i - a.floor) a.configs)) b.configs })

pub overflow_sub-floor : goal.overflow_sub-floor
overflow_sub-floor g c = left c.self.inside.floor c.other.inside.floor c.max-floor.result c.max-floor.ensures

pub forget-requires : goal.forget-requires
forget-requires g c = back_fits _ _ _ (up_fits _ _ _ c.requires-raw.1)

pub overflow_sub-floor-2 : goal.overflow_sub-floor-2
overflow_sub-floor-2 g c = right c.self.inside.floor c.other.inside.floor c.max-floor.result c.max-floor.ensures

pub len-requires : goal.len-requires
len-requires g c = back_fits _ _ _ (up_fits _ _ _ c.requires-raw.1)

pub append-requires : goal.append-requires
append-requires g c = (
  back_fits _ _ _ (up_fits _ _ _ c.requires-raw.1),
  fits (record { floor = c.self.inside.floor; configs = c.self.inside.places.configs }) (record { floor = c.other.inside.floor; configs = c.other.inside.places.configs }) c.max-floor.result c.saturating_add-held.result c.len.result c.forget.new.self.configs c.forget.ensures.configs c.len.ensures
      c.saturating_add-held.ensures c.self.invariant.1 c.other.invariant.1,
)

pub invariant_of-self : goal.invariant_of-self
invariant_of-self g c =
    let sum = in_range (record { floor = c.self.inside.floor; configs = c.self.inside.places.configs }) (record { floor = c.other.inside.floor; configs = c.other.inside.places.configs }) c.max-floor.result c.saturating_add-held.result c.len.result c.forget.new.self.configs c.append.new.self.configs c.max-floor.ensures c.forget.ensures.configs c.len.ensures
    c.saturating_add-held.ensures c.self.invariant.0 c.self.invariant.1 c.self.invariant.2 c.other.invariant.0 c.other.invariant.1 c.other.invariant.2 c.append.ensures.configs in
    (sum.0, sum.1, sum.2, c.append.ensures.capacity ∙ c.forget.ensures.capacity ∙ c.self.invariant.3)

pub returns : goal.returns
returns g c =
    merged (record { floor = c.self.inside.floor; configs = c.self.inside.places.configs }) (record { floor = c.other.inside.floor; configs = c.other.inside.places.configs }) c.max-floor.result c.saturating_add-held.result c.len.result c.forget.new.self.configs c.append.new.self.configs c.max-floor.ensures c.forget.ensures.configs c.len.ensures
    c.saturating_add-held.ensures c.other.invariant.1 c.append.ensures.configs ∙ (λ i. merged_map (c.self.view_is i) (c.other.view_is i))
