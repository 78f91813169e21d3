-- The parts of the sign of a call
use Rattle.std.proofs.Common.{◌≡◌, ℕ, ◌<◌, List, ◌∷◌, ◌++◌, decimal, sym, ◌∙◌, arith, lit<}
use Rattle.rambo_history.specs.declared.event.CallId.{CallId}
use Rattle.rambo_text.specs.Signs.{call_text, IsCall}
use Rattle.rambo_text.specs.Words.{Lacks}
use Rattle.rambo_text.proofs.Lacking.{lacks-decimal}
use Rattle.rambo_text.proofs.WordSplits.{cut}

name_lacks : (c : CallId) → IsCall c → Lacks 46 (decimal c.name)
name_lacks c h = lacks-decimal 46 c.name (lit< tt) (omega arith)

-- what stands before the first dot, and behind it
pub call_parts : (word front back : List ℕ) (c : CallId) → IsCall c → Lacks 46 front → word ≡ front ++ 46 ∷ back → word ≡ call_text c
    → (front ≡ decimal c.name) × (back ≡ decimal c.number)
call_parts word front back c h lacks parts is = cut 46 front (decimal c.name) back (decimal c.number) lacks (name_lacks c h) (sym parts ∙ is)
