-- Where the lines of a script stand, and faults there
use Rattle.std.proofs.Common.{◌≡◌, ℕ, ◌+◌, ◌≤◌, List, [], ◌∷◌, length, sym, ap, ◌∙◌, arith, length-append}
use Rattle.rambo_names.specs.Weights.{Weights}
use Rattle.rambo_node.specs.Steps.{Step}
use Rattle.rambo_text.specs.declared.fault.ScriptFault.{ScriptFault}
use Rattle.rambo_text.specs.declared.version.Version.{Version}
use Rattle.rambo_text.specs.declared.version.Version.TheVariants.{One, Two}
use Rattle.rambo_text.specs.Versions.{head_lines, in_whole}
use Rattle.rambo_lines.specs.declared.place.Place.{Place}
use Rattle.rambo_lines.specs.Places.{place_of}
use Rattle.rambo_lines.specs.Pushes.{PushesStep}

-- one line at most tells the version
pub few_heads : (version : Version) → head_lines version ≤ 1
few_heads One = omega arith
few_heads Two = omega arith

-- the line behind
pub place_next : (version : Version) (n : ℕ) (p q : Place) → p ≡ place_of version n → q ≡ record { line = p.line + 1; step = p.step + 1 } → q ≡ place_of version (n + 1)
place_next version n p q at is =
    let before = ap (λ (p : Place). p.line) at in
    let lines : p.line + 1 ≡ n + 1 + 1 + head_lines version = omega (arith, before) in
    let steps = ap (λ (p : Place). p.step + 1) at in
    is ∙ (λ i. record { line = lines i; step = steps i })

-- a fault there is one behind the head
pub fault_there : (version : Version) (step : ℕ) (place : Place) (f : ScriptFault) → place ≡ place_of version step → f.line ≡ place.line
    → f ≡ in_whole version (record { fault = f.fault; line = step + 1 })
fault_there version step place f at is = let line = is ∙ ap (λ (p : Place). p.line) at in (λ i. record { fault = f.fault; line = line i })

-- one step more was read
pub place_pushed : (version : Version) (steps others : List (Step Weights)) (line : List ℕ) (p : Place) → p ≡ place_of version (length steps + 1) → PushesStep steps others line → p ≡ place_of version (length others)
place_pushed version steps others line p at push = at ∙ ap (place_of version) (sym (ap length push.new_is ∙ length-append steps (push.step ∷ [])))
