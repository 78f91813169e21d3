use Rattle.std.proofs.Common.{◌≡◌, ℕ, ◌+◌, ◌<◌, ◌≤◌, ◌^◌, if◌then◌else◌, length, Ok, Err, sym, ap, ◌∙◌, arith}
use Rattle.std.specs.FinSet as set
use Rattle.std.proofs.lemmas.Bool.{le-leb, lt-leb}
use Rattle.rambo_names.specs.declared.refusal.Refusal.TheVariants as refusal
use Rattle.rambo_names.proofs.Sizes.{back_fits, up_fits}
use Rattle.rambo_config_map.specs.Maps.{MapState}
use Rattle.rambo_gc.specs.declared.stage.Stage.TheVariants.{First}
use Rattle.rambo_gc.specs.Collections.{opened, open_answer}
use Rattle.rambo_gc.proofs.collection.Collection.open.Goals as goal

one : {Q : Type 0} (m : MapState Q) (number me : ℕ) → length m.configs ≡ 1 → Err refusal.NothingToCollect ≡ open_answer m number me
one m number me e =
    let few : length m.configs ≤ 1 = omega (arith, e) in
    sym (ap (λ t. if t then Err refusal.NothingToCollect else Ok (opened m number me)) (le-leb (length m.configs) 1 few))

more : {Q : Type 0} (m : MapState Q) (number me : ℕ) → 1 < length m.configs → Ok (opened m number me) ≡ open_answer m number me
more m number me h = sym (ap (λ t. if t then Err refusal.NothingToCollect else Ok (opened m number me)) (lt-leb (length m.configs) 1 h))

not_one : (n len : ℕ) → len ≡ n → (len ≡ 1 → ⊥) → 1 ≤ n → 1 < n
not_one n len e other h = omega (arith, e, other, h)

in_range : (n floor place : ℕ) → 1 < n → place ≡ floor → floor + n ≤ 2 ^ 64 → place + 1 < 2 ^ 64
in_range n floor place h e fits = omega (arith, h, e, fits)

pub places-requires : goal.places-requires
places-requires g c = (c.requires-raw.1, back_fits _ _ _ (up_fits _ _ _ c.requires-raw.1))

pub len-requires : goal.len-requires
len-requires g c = back_fits _ _ _ (up_fits _ _ _ c.requires-raw.1)

pub returns-then-len-eq1 : goal.returns-then-len-eq1
returns-then-len-eq1 g c =
    one c.args.map.now c.args.number c.args.me (sym (c.len.ensures ∙ ap length c.places.ensures.row) ∙ c.if-len-eq1.true)

pub floor-requires : goal.floor-requires
floor-requires g c = c.requires-raw.1

pub invariant_of-result : goal.invariant_of-result
invariant_of-result g c =
    in_range (length c.args.map.now.configs) c.args.map.now.floor c.floor.result
    (not_one (length c.args.map.now.configs) c.len.result (c.len.ensures ∙ ap length c.places.ensures.row) c.if-len-eq1.false c.places.ensures.not_empty)
    c.floor.ensures c.places.ensures.in_range

pub returns : goal.returns
returns g c =
    let repliers = c.with.ensures ∙ ap (λ s. set.insert s c.args.me) c.empty.ensures in
    (λ i. Ok (record { node = c.args.me; place = c.floor.ensures i; number = c.args.number; stage = First; repliers = repliers i }))
    ∙ more c.args.map.now c.args.number c.args.me
    (not_one (length c.args.map.now.configs) c.len.result (c.len.ensures ∙ ap length c.places.ensures.row) c.if-len-eq1.false c.places.ensures.not_empty)
