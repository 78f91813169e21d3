-- What a row that came out right shows, by its word
use Rattle.std.proofs.Common.{◌≡◌, ◌++◌, ℕ, List, Bool, inl, inr}
use Rattle.std.specs.Prelude.{Result, Ok, Err, IfOk, IsTrue, codes}
use Rattle.rambo_names.specs.Weights.{Weights}
use Rattle.rambo_names.specs.Signs.{conf_text}
use Rattle.rambo_steps.specs.Replays.{IsReplay}
use Rattle.rambo_rows.specs.Rows.{IsServed, Shows}

-- a replay
pub shows_replay : {E : Type 0} (right : Result Bool E) (word ending input output : List ℕ) → word ≡ codes "replay"
    → IfOk right (λ r. IsTrue r → ending ≡ codes "done" → IsReplay input output) → IfOk right (λ r. IsTrue r → Shows word ending input output)
shows_replay (Ok r) word ending input output is shown = λ yes. inl (is, shown yes)
shows_replay (Err e) word ending input output is shown = tt

-- a client that is served
pub shows_local : {E : Type 0} (right : Result Bool E) (founders : Weights) (word ending input output : List ℕ) → word ≡ codes "local " ++ conf_text founders
    → IfOk right (λ r. IsTrue r → ending ≡ codes "done" → IsServed founders input output) → IfOk right (λ r. IsTrue r → Shows word ending input output)
shows_local (Ok r) founders word ending input output is shown = λ yes. inr (inr (founders, is, shown yes))
shows_local (Err e) founders word ending input output is shown = tt
