-- What holds of every stream
use Rattle.std.specs.Prelude.{◌≡◌, ℕ, List, ◌++◌}
use Rattle.std.specs.List.{AllByRecursion}
use Rattle.rambo_resp.specs.Spellings.{IsCommand}
use Rattle.rambo_resp.specs.Streams.{Ending, Reads}
use Rattle.rambo_resp.specs.Decoders.{DecoderState, HasTaken}

-- a stream reads as something
abbrev pub EachIsRead : Type 0
EachIsRead = (stream : List ℕ) → (commands : List (List (List ℕ))) × (ending : Ending) × Reads stream commands ending

-- and nothing else
abbrev pub OneReading : Type 0
OneReading = (stream : List ℕ) (cs ds : List (List (List ℕ))) (e f : Ending) → Reads stream cs e → Reads stream ds f → (cs ≡ ds) × (e ≡ f)

-- so decoders that have taken one stream, however it was cut, and have given as many commands are one
abbrev pub AnyCutting : Type 0
AnyCutting = (stream : List ℕ) (given : ℕ) (d e : DecoderState) → HasTaken d stream given → HasTaken e stream given → d ≡ e

-- its commands stay the same when more bytes come
abbrev pub CommandsStay : Type 0
CommandsStay = (stream more : List ℕ) (cs ds : List (List (List ℕ))) (e f : Ending) → Reads stream cs e → Reads (stream ++ more) ds f
    → (new : List (List (List ℕ))) × (ds ≡ cs ++ new)

-- each of its commands has 1 to 128 items of at most 4,096 bytes
abbrev pub WithinLimits : Type 0
WithinLimits = (stream : List ℕ) (commands : List (List (List ℕ))) (ending : Ending) → Reads stream commands ending → AllByRecursion IsCommand commands
