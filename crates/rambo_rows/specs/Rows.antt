-- What a right row shows
use Rattle.std.specs.Prelude.{◌≡◌, ◌⊎◌, ◌++◌, true, false, ℕ, List, [], Option, Some, codes}
use Rattle.rambo_names.specs.Weights.{Weights}
use Rattle.rambo_names.specs.Signs.{conf_text}
use Rattle.rambo_client.specs.Talks.{Served}
use Rattle.rambo_check.specs.Checks.{IsChecked}
use Rattle.rambo_steps.specs.Replays.{IsReplay}

-- of a client of nodes of these founders that sent an input, or more than was read of it after a fault, this is all
-- that was replied
abbrev pub IsServed : Weights → List ℕ → List ℕ → Type 0
IsServed founders input output = (left : Option (List ℕ)) × Served founders (Some input) left (Some []) (Some output)

-- a row of each word that ends with done, or with no: its output is that of its input by the definitions
abbrev pub Shows : List ℕ → List ℕ → List ℕ → List ℕ → Type 0
Shows word ending input output =
    ((word ≡ codes "replay") × (ending ≡ codes "done" → IsReplay input output))
    ⊎ ((word ≡ codes "check") × (ending ≡ codes "done" → IsChecked false input output true) × (ending ≡ codes "no" → IsChecked false input output false))
    ⊎ ((founders : Weights) × (word ≡ codes "local " ++ conf_text founders) × (ending ≡ codes "done" → IsServed founders input output))
