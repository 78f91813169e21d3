-- The sign at the front of a line
use Rattle.std.proofs.Common.{◌≡◌, ℕ, ◌<◌, ◌^◌, List, [], ◌∷◌, ◌++◌, decimal, refl, sym, ◌∙◌, append-nil, append_assoc, arith}
use Rattle.std.proofs.lemmas.Fmt.{decimal_injective, digits_decimal}
use Rattle.rambo_names.specs.Names.{IsName}
use Rattle.rambo_names.specs.Signs.{BeginsWith}
use Rattle.rambo_names.proofs.Leading.{same_end}
use Rattle.rambo_names.proofs.Numerals.{digits}
use Rattle.rambo_history.specs.declared.event.CallId.{CallId}
use Rattle.rambo_text.specs.Signs.{call_text, IsCall}

-- the number at the front of a line is known by the line
pub same_num : (line : List ℕ) (n m : ℕ) (rest more : List ℕ) → n < 2 ^ 64 → m < 2 ^ 64 → BeginsWith line (decimal n) rest → BeginsWith line (decimal m) more → (n ≡ m) × (rest ≡ more)
same_num line n m rest more h k a b =
    let same = same_end (decimal n) (decimal m) rest more (digits_decimal digits n h) (digits_decimal digits m k) a.ends b.ends (sym a.whole ∙ b.whole) in
    (decimal_injective n m h k same.0, same.1)

-- a whole line is its sign with nothing behind
pub whole_sign : (line sign : List ℕ) → line ≡ sign → BeginsWith line sign []
whole_sign line sign is = record { whole = is ∙ sym (append-nil sign); ends = tt }

-- a call begins with its name, and a dot
pub begins_with_name : (line : List ℕ) (c : CallId) (rest : List ℕ) → BeginsWith line (call_text c) rest → BeginsWith line (decimal c.name) (46 ∷ (decimal c.number ++ rest))
begins_with_name line c rest a = record { whole = a.whole ∙ append_assoc (decimal c.name) (46 ∷ decimal c.number) rest; ends = refl }

-- what stands behind the name of a call is a dot, and the number begins the rest
pub call_behind : (line : List ℕ) (n : ℕ) (behind : List ℕ) (c : CallId) (rest : List ℕ) → IsName n → IsCall c → BeginsWith line (decimal n) behind → BeginsWith line (call_text c) rest
    → behind ≡ 46 ∷ (decimal c.number ++ rest)
call_behind line n behind c rest name is a b =
    (same_num line n c.name behind (46 ∷ (decimal c.number ++ rest)) (omega arith) (omega arith) a (begins_with_name line c rest b)).1

pub number_behind : (line : List ℕ) (n : ℕ) (behind number : List ℕ) (c : CallId) (rest : List ℕ) → IsName n → IsCall c → BeginsWith line (decimal n) behind → behind ≡ 46 ∷ number
    → BeginsWith line (call_text c) rest → BeginsWith number (decimal c.number) rest
number_behind line n behind number c rest name is a dot b =
    let there = call_behind line n behind c rest name is a b in
    record { whole = (let same : 46 ∷ number ≡ 46 ∷ (decimal c.number ++ rest) = sym dot ∙ there in cc); ends = b.ends }

-- and so is the call
pub same_call : (line : List ℕ) (c d : CallId) (rest more : List ℕ) → IsCall c → IsCall d → BeginsWith line (call_text c) rest → BeginsWith line (call_text d) more → rest ≡ more
same_call line c d rest more is h a b =
    let there = number_behind line c.name (46 ∷ (decimal c.number ++ rest)) (decimal c.number ++ rest) d more is.0 h (begins_with_name line c rest a) refl b in
    (same_num (decimal c.number ++ rest) c.number d.number rest more is.2 h.2 (record { whole = refl; ends = a.ends }) there).1
