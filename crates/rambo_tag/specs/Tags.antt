-- The order of tags and of copies
use Rattle.std.specs.Prelude.{ℕ, Bool, true, false, if◌then◌else◌, nat_eq, nat_lt, List, [], ◌∷◌, Option, Some, None}
use Rattle.rambo_tag.specs.declared.tag.Tag.{Tag}
use Rattle.rambo_tag.specs.declared.version.Version.{Version}

-- by sequence, then by name
abbrev pub tag_lt : Tag → Tag → Bool
tag_lt t u = if nat_lt t.sequence u.sequence then true else if nat_eq t.sequence u.sequence then nat_lt t.name u.name else false

-- the tag of an absent key
abbrev pub no_tag : Tag
no_tag = record { sequence = 0; name = 0 }

-- the tag of what a key holds, where None is an absent key
abbrev pub tag_of : Option Version → Tag
tag_of None = no_tag
tag_of (Some v) = v.tag

-- the value of what a key holds, where None is nil
abbrev pub value_of : Option Version → Option (List ℕ)
value_of None = None
value_of (Some v) = v.value

-- values of one tag are ordered by their bytes, nil being the least. In no run has one tag two values; with this order
-- merging is commutative for all copies
abbrev pub bytes_lt : List ℕ → List ℕ → Bool
bytes_lt [] [] = false
bytes_lt [] (y ∷ ys) = true
bytes_lt (x ∷ xs) [] = false
bytes_lt (x ∷ xs) (y ∷ ys) = if nat_lt x y then true else if nat_eq x y then bytes_lt xs ys else false

abbrev pub value_lt : Option (List ℕ) → Option (List ℕ) → Bool
value_lt None None = false
value_lt None (Some v) = true
value_lt (Some u) None = false
value_lt (Some u) (Some v) = bytes_lt u v

abbrev pub version_lt : Version → Version → Bool
version_lt a b = if tag_lt a.tag b.tag then true else if tag_lt b.tag a.tag then false else value_lt a.value b.value

-- whether a copy is greater than what a key holds
abbrev pub is_newer : Option Version → Version → Bool
is_newer None b = true
is_newer (Some a) b = version_lt a b

-- the greater of what two nodes hold of a key
abbrev pub greater : Option Version → Option Version → Option Version
greater a None = a
greater a (Some b) = if is_newer a b then Some b else a
