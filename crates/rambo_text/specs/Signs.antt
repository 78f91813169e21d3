-- How calls and bytes are spelt
use Rattle.std.specs.Prelude.{◌≡◌, ◌≢◌, ℕ, ◌+◌, ◌<◌, ◌≤◌, ◌^◌, if◌then◌else◌, nat_lt, List, [], ◌∷◌, ◌++◌, Option, None, Some, codes, decimal, ◌/◌, ◌%◌, All}
use Rattle.rambo_names.specs.Names.{IsName}
use Rattle.rambo_names.specs.Signs.{conf_text}
use Rattle.rambo_names.specs.Weights.{Weights}
use Rattle.rambo_history.specs.declared.event.CallId.{CallId}
use Rattle.rambo_history.specs.declared.operation.Op.{Op}
use Rattle.rambo_history.specs.declared.operation.Op.TheVariants as op

-- the digit of a number below 16
abbrev pub digit_of : ℕ → ℕ
digit_of d = if nat_lt d 10 then 48 + d else 87 + d

-- two digits for each byte
abbrev pub pairs_text : List ℕ → List ℕ
pairs_text [] = []
pairs_text (b ∷ bs) = digit_of (b / 16) ∷ digit_of (b % 16) ∷ pairs_text bs

-- the one spelling of bytes: a dash for none
abbrev pub hex_text : List ℕ → List ℕ
hex_text [] = 45 ∷ []
hex_text (b ∷ bs) = pairs_text (b ∷ bs)

-- the one spelling of a call
abbrev pub call_text : CallId → List ℕ
call_text c = decimal c.name ++ 46 ∷ decimal c.number

-- what is at a place: its configuration, or none where the place is removed
abbrev pub standing_text : Option Weights → List ℕ
standing_text None = codes "removed"
standing_text (Some conf) = conf_text conf

-- a call has a node's name, and a number from 1
abbrev pub IsCall : CallId → Type 0
IsCall c = IsName c.name × (1 ≤ c.number) × (c.number < 2 ^ 64)

-- a text of bytes
abbrev pub AreBytes : List ℕ → Type 0
AreBytes bs = All (λ b. b < 256) bs

-- no byte is spelt at the front of a text
abbrev pub HasNoPair : List ℕ → Type 0
HasNoPair text = (b : ℕ) (rest : List ℕ) → b < 256 → text ≢ pairs_text (b ∷ []) ++ rest

-- keys and values of an operation are bytes
abbrev pub IsOp : Op → Type 0
IsOp (op.Get key) = AreBytes key
IsOp (op.Set key value) = AreBytes key × AreBytes value

-- a text with some more after it
abbrev pub Grows : List ℕ → List ℕ → Type 0
Grows old new = (more : List ℕ) × (new ≡ old ++ more)
