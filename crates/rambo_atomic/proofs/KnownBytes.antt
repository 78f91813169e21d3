-- Writes, one after another
use Rattle.std.proofs.Common.{ℕ, ◌+◌, List, take, drop, Option, sym}
use Rattle.std.proofs.KnownBytes.{Appends-trans, Appends-kept}
use Rattle.std.proofs.Math.Seq.{take-add}
use Rattle.std.proofs.lemmas.List.{take-append-drop}
use Rattle.std.specs.Io.KnownBytes.{Appends, Keeps}
use Rattle.rambo_atomic.specs.Streams.{Begins}

-- a front of the text was written, and then more of it
pub Appends-more : (a b c : Option (List ℕ)) (m n : ℕ) (text : List ℕ) → Appends a b (take m text) → Appends b c (take n (drop m text)) → Appends a c (take (m + n) text)
Appends-more a b c m n text f g = rw (take-add m n text) (Appends-trans a b c (take m text) (take n (drop m text)) f g)

-- a front of the text was written, and then nothing
pub Begins-at : (a b c : Option (List ℕ)) (m : ℕ) (text : List ℕ) → Appends a b (take m text) → Keeps b c → Begins a c text
Begins-at a b c m text f g = (take m text, drop m text, sym (take-append-drop m text), Appends-kept a b c (take m text) f g)
