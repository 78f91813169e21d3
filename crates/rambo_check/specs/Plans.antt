-- Which words a line may have, and the fault of other words
use Rattle.std.specs.Prelude.{◌≡◌, ◌≢◌, ◌⊎◌, ℕ, Bool, false, if◌then◌else◌, List, [], ◌∷◌, Option, map, drop, length, codes}
use Rattle.std.specs.Str.{bytes_eq}
use Rattle.rambo_text.specs.declared.fault.Fault.{Fault}
use Rattle.rambo_text.specs.declared.fault.Fault.TheVariants.{UnknownWord, WrongCount, OutOfMemory}
use Rattle.rambo_text.specs.declared.version.Version.{Version}
use Rattle.rambo_text.specs.declared.version.Version.TheVariants.{One, Two}
use Rattle.rambo_text.specs.Forms.{Form, Num, Name, Conf, Call, Hex, Standing, IsSpelt, IsBadWord}
use Rattle.rambo_text.specs.Words.{AreWords, AreMore}

-- a word that says what the line is has no meaning, or is missing, or else these words have these forms, each its own
pub data Plan : Type 0 where
  Unknown : Plan
  Missing : Plan
  Forms : List Form → List (List ℕ) → Plan

-- one form for each of some words
abbrev pub each : Form → List (List ℕ) → List Form
each m words = map (λ _. m) words

-- after `call`
abbrev pub call_plan : List (List ℕ) → Plan
call_plan [] = Missing
call_plan (c ∷ []) = Missing
call_plan (c ∷ w ∷ ws) =
    if bytes_eq w (codes "get") then Forms (Call ∷ Hex ∷ []) (c ∷ ws)
    else if bytes_eq w (codes "set") then Forms (Call ∷ Hex ∷ Hex ∷ []) (c ∷ ws)
    else Unknown

-- after `answer`
abbrev pub answer_plan : List (List ℕ) → Plan
answer_plan [] = Missing
answer_plan (c ∷ []) = Missing
answer_plan (c ∷ w ∷ ws) =
    if bytes_eq w (codes "ok") then Forms (Call ∷ []) (c ∷ ws)
    else if bytes_eq w (codes "nil") then Forms (Call ∷ []) (c ∷ ws)
    else if bytes_eq w (codes "value") then Forms (Call ∷ Hex ∷ []) (c ∷ ws)
    else Unknown

-- after `collected`, `decided`, `refused`, `sequence`, `order` and `map`
abbrev pub collected_plan : List (List ℕ) → Plan
collected_plan ws = Forms (Name ∷ Num ∷ []) ws

abbrev pub decided_plan : List (List ℕ) → Plan
decided_plan ws = Forms (Name ∷ Num ∷ Standing ∷ []) ws

abbrev pub refused_plan : List (List ℕ) → Plan
refused_plan ws = Forms (Num ∷ Num ∷ []) ws

abbrev pub sequence_plan : List (List ℕ) → Plan
sequence_plan ws = Forms (Hex ∷ each Call (drop 1 ws)) ws

abbrev pub order_plan : List (List ℕ) → Plan
order_plan ws = Forms (each Call ws) ws

abbrev pub map_plan : List (List ℕ) → Plan
map_plan ws = Forms (Name ∷ Num ∷ Conf ∷ each Conf (drop 3 ws)) ws

-- whether a line with this first word gives an order of all keys' calls: in texts of version 2
abbrev pub tells_order : Version → List ℕ → Bool
tells_order One w = false
tells_order Two w = bytes_eq w (codes "order")

-- by the first word
abbrev pub plan : Version → List (List ℕ) → Plan
plan version [] = Unknown
plan version (w ∷ ws) =
    if bytes_eq w (codes "call") then call_plan ws
    else if bytes_eq w (codes "answer") then answer_plan ws
    else if bytes_eq w (codes "collected") then collected_plan ws
    else if bytes_eq w (codes "decided") then decided_plan ws
    else if bytes_eq w (codes "refused") then refused_plan ws
    else if bytes_eq w (codes "sequence") then sequence_plan ws
    else if bytes_eq w (codes "map") then map_plan ws
    else if tells_order version w then order_plan ws
    else Unknown

-- an unknown word; else another number of words; else the first word that isn't in its form
abbrev pub IsPlanFault : Plan → Fault → Type 0
IsPlanFault Unknown f = f ≡ UnknownWord
IsPlanFault Missing f = f ≡ WrongCount
IsPlanFault (Forms ms ws) f =
    ((length ms ≢ length ws) × (f ≡ WrongCount)) ⊎ ((length ms ≡ length ws) × IsBadWord ms ws f)

-- the words of a line have this fault
abbrev pub IsLineFault : Version → List ℕ → Fault → Type 0
IsLineFault version line f = (words : List (List ℕ)) × AreWords line words × IsPlanFault (plan version words) f

-- bytes are among these words, after words that are in their forms
abbrev pub HaveBytes : List Form → List (List ℕ) → Type 0
HaveBytes [] ws = ⊥
HaveBytes (m ∷ ms) [] = ⊥
HaveBytes (m ∷ ms) (w ∷ ws) = (m ≡ Hex) ⊎ (IsSpelt m w × HaveBytes ms ws)

-- there are as many words as there should be, and no fault comes before their bytes
abbrev pub HasBytes : Plan → Type 0
HasBytes Unknown = ⊥
HasBytes Missing = ⊥
HasBytes (Forms ms ws) = (length ms ≡ length ws) × HaveBytes ms ws

-- the first of some words is a call
abbrev pub BeginWithCall : List (List ℕ) → Type 0
BeginWithCall [] = ⊥
BeginWithCall (w ∷ ws) = IsSpelt Call w

-- the words after the first have bytes, or begin with a call
abbrev pub FollowBytes : (List (List ℕ) → Plan) → Option (List ℕ) → Type 0
FollowBytes plan more = (words : List (List ℕ)) × AreMore more words × HasBytes (plan words)

abbrev pub FollowCalls : Option (List ℕ) → Type 0
FollowCalls more = (words : List (List ℕ)) × AreMore more words × BeginWithCall words

-- a line has bytes, or an order of all keys' calls, and has no fault before these
abbrev pub TellsBytesOrCalls : Version → List ℕ → Type 0
TellsBytesOrCalls version line = (words : List (List ℕ)) × AreWords line words
    × (HasBytes (plan version words) ⊎ ((version ≡ Two) × ((calls : List (List ℕ)) × (words ≡ codes "order" ∷ calls) × BeginWithCall calls)))

-- the words after the first have this fault, or memory ran out at their bytes
abbrev pub IsFaulty : (List (List ℕ) → Plan) → Option (List ℕ) → Fault → Type 0
IsFaulty plan more f = ((f ≡ OutOfMemory) × FollowBytes plan more) ⊎ ((words : List (List ℕ)) × AreMore more words × IsPlanFault (plan words) f)
