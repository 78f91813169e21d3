-- Scripts of both versions
use Rattle.std.specs.Prelude.{◌≡◌, ◌⊎◌, ℕ, List, ◌++◌}
use Rattle.rambo_text.specs.declared.fault.ScriptFault.{ScriptFault}
use Rattle.rambo_text.specs.declared.version.Version.{Version}
use Rattle.rambo_text.specs.Versions.{IsBehindHead, BehindHead, TellNoVersion, head_text}
use Rattle.rambo_text.specs.Words.{IsFirstLine}
use Rattle.rambo_lines.specs.Scripts.{ScriptState, IsScript, script_text}
use Rattle.rambo_lines.specs.Faults.{IsLineFault, IsScriptFault}

-- bytes are the text of a script in a version
abbrev pub IsScriptIn : Version → List ℕ → ScriptState → Type 0
IsScriptIn version bytes s = (behind : List ℕ) × IsBehindHead version bytes behind × IsScript behind s

-- the text of a script in a version
abbrev pub text_in : Version → ScriptState → List ℕ
text_in version s = head_text version ++ script_text s

-- the first line is too long, or should give the version and doesn't
pub record IsHeadFault (bytes : List ℕ) (f : ScriptFault) : Type 0 where
  pub line : List ℕ
  pub rest : List ℕ
  pub is_first : IsFirstLine bytes line rest
  pub fault : IsLineFault TellNoVersion line f.fault
  pub number : f.line ≡ 1

-- bytes are a script in no version: the fault of the head, or the first fault after it
abbrev pub IsFaultIn : List ℕ → ScriptFault → Type 0
IsFaultIn bytes f = IsHeadFault bytes f ⊎ BehindHead (λ version. IsScriptFault) bytes f
