-- The order of tags, as facts on numbers
use Rattle.std.proofs.Common.{◌≡◌, ◌<◌, ◌≤◌, ◌⊎◌, true, false, arith}
use Rattle.rambo_tag.specs.declared.tag.Tag.{Tag}
use Rattle.rambo_tag.specs.Tags.{tag_lt, no_tag}

abbrev pub TagLt : Tag → Tag → Type 0
TagLt t u = (t.sequence < u.sequence) ⊎ ((t.sequence ≡ u.sequence) × (t.name < u.name))

abbrev pub TagLe : Tag → Tag → Type 0
TagLe t u = (t.sequence < u.sequence) ⊎ ((t.sequence ≡ u.sequence) × (t.name ≤ u.name))

pub TagLt-from_true : (t u : Tag) → tag_lt t u ≡ true → TagLt t u
TagLt-from_true t u h = grind arith

pub TagLe-from_false : (t u : Tag) → tag_lt t u ≡ false → TagLe u t
TagLe-from_false t u h = grind arith

pub tag_lt-true : (t u : Tag) → TagLt t u → tag_lt t u ≡ true
tag_lt-true t u h = grind arith

pub tag_lt-false : (t u : Tag) → TagLe u t → tag_lt t u ≡ false
tag_lt-false t u h = grind arith

pub TagLe-refl : (t : Tag) → TagLe t t
TagLe-refl t = grind arith

pub TagLe-trans : (t u v : Tag) → TagLe t u → TagLe u v → TagLe t v
TagLe-trans t u v h k = grind arith

pub TagLe-trans_lt : (t u v : Tag) → TagLe t u → TagLt u v → TagLt t v
TagLe-trans_lt t u v h k = grind arith

pub TagLe-antisymm : (t u : Tag) → TagLe t u → TagLe u t → t ≡ u
TagLe-antisymm t u h k =
    let a : t.sequence ≡ u.sequence = grind arith in
    let b : t.name ≡ u.name = grind arith in
    λ i. record { sequence = a i; name = b i }

-- the tag of an absent key is the least
pub TagLe-no_tag : (t : Tag) → TagLe no_tag t
TagLe-no_tag t = grind arith
