-- What is true of every text
use Rattle.std.specs.Prelude.{◌≡◌, ℕ, List}
use Rattle.rambo_text.specs.declared.fault.ScriptFault.{ScriptFault}
use Rattle.rambo_text.specs.declared.version.Version.{Version}
use Rattle.rambo_lines.specs.Scripts.{ScriptState, HasLines}
use Rattle.rambo_lines.specs.Versions.{IsScriptIn, IsFaultIn, text_in}

-- no bytes are the text of two scripts, nor of one in two versions
abbrev pub OneReading : Type 0
OneReading = (bytes : List ℕ) (version other : Version) (s t : ScriptState) → IsScriptIn version bytes s → IsScriptIn other bytes t → (version ≡ other) × (s ≡ t)

-- what is written of a script in a version is read as that script in that version, and as no other
abbrev pub WrittenReadsBack : Type 0
WrittenReadsBack =
    (version : Version) (s : ScriptState) → HasLines s
    → IsScriptIn version (text_in version s) s × ((other : Version) (t : ScriptState) → IsScriptIn other (text_in version s) t → (other ≡ version) × (t ≡ s))

-- what is a script has no fault
abbrev pub NoScriptIsFaulty : Type 0
NoScriptIsFaulty = (bytes : List ℕ) (version : Version) (s : ScriptState) (f : ScriptFault) → IsScriptIn version bytes s → ¬ (IsFaultIn bytes f)

-- bytes have one fault at most
abbrev pub OneFault : Type 0
OneFault = (bytes : List ℕ) (f g : ScriptFault) → IsFaultIn bytes f → IsFaultIn bytes g → f ≡ g
