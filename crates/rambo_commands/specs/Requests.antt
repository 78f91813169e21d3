-- What a command of any client asks for
use Rattle.std.specs.Prelude.{ℕ, if◌then◌else◌, nat_lt, List, [], ◌∷◌, length, codes}
use Rattle.std.specs.Str.{str_eq_ignore_ascii_case}
use Rattle.rambo_names.specs.declared.refusal.Refusal.TheVariants.{KeyTooLong}
use Rattle.rambo_history.specs.declared.operation.Op.{Op}
use Rattle.rambo_history.specs.declared.operation.Op.TheVariants as op
use Rattle.rambo_history.specs.Calls.{key_of}
use Rattle.rambo_resp.specs.declared.reply.Reply.TheVariants.{Pong, Bulk}
use Rattle.rambo_commands.specs.declared.mistake.Mistake.{Mistake}
use Rattle.rambo_commands.specs.declared.mistake.Mistake.TheVariants.{UnknownCommand, WrongCount, Refused}
use Rattle.rambo_commands.specs.declared.request.Request.{Request}
use Rattle.rambo_commands.specs.declared.request.Request.TheVariants.{Says, Does}
use Rattle.rambo_commands.specs.Mistakes.{error_for}

-- a command that is answered by an error alone
abbrev pub fails : Mistake → Request
fails mistake = Says (error_for mistake)

-- an operation, unless its key has more than 256 bytes
abbrev pub asks : Op → Request
asks o = if nat_lt 256 (length (key_of o)) then fails (Refused KeyTooLong) else Does o

-- `PING`, by the words after it
abbrev pub ping : List (List ℕ) → Request
ping [] = Says Pong
ping (word ∷ []) = Says (Bulk word)
ping (word ∷ next ∷ words) = fails WrongCount

-- `GET`
abbrev pub get : List (List ℕ) → Request
get [] = fails WrongCount
get (key ∷ []) = asks (op.Get key)
get (key ∷ next ∷ words) = fails WrongCount

-- `SET`
abbrev pub set : List (List ℕ) → Request
set [] = fails WrongCount
set (key ∷ []) = fails WrongCount
set (key ∷ value ∷ []) = asks (op.Set key value)
set (key ∷ value ∷ next ∷ words) = fails WrongCount

-- the first word says what is asked for, in upper or lower case
abbrev pub named : List ℕ → List (List ℕ) → Request
named name words =
    if str_eq_ignore_ascii_case name (codes "PING") then ping words
    else (if str_eq_ignore_ascii_case name (codes "GET") then get words
    else (if str_eq_ignore_ascii_case name (codes "SET") then set words else fails UnknownCommand))

abbrev pub request_of : List (List ℕ) → Request
request_of [] = fails UnknownCommand
request_of (name ∷ words) = named name words
