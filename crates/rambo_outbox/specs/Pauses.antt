-- How long is waited before what was asked for is asked for again, in milliseconds
use Rattle.std.specs.Prelude.{ℕ, ◌+◌, ◌-◌, ◌*◌, ◌^◌, min, max}

-- the pause after a number of reminders: 20 for a second, that is 50 times, then 40, 80, .. up to 1000
abbrev pub pause : ℕ → ℕ
pause stood = min (20 * 2 ^ min (stood - 49) 6) 1000

-- how long the n-th bid of an attempt, from 0 on, is left alone at least: 40, 80, .. up to 1000
abbrev pub rebid_pause : ℕ → ℕ
rebid_pause n = min (40 * 2 ^ min n 5) 1000

-- one more, as far as numbers go
abbrev pub more : ℕ → ℕ
more count = min (count + 1) (2 ^ 64 - 1)

-- a time later by this much, as far as numbers go
abbrev pub later : ℕ → ℕ → ℕ
later now pause = min (now + pause) (2 ^ 64 - 1)

-- how long a bid is left alone after a number of reminders: for two more of them, and longer each time; the name keeps
-- two bidders apart
abbrev pub patience : ℕ → ℕ → ℕ → ℕ
patience stood bids me = max (pause stood + pause (more stood)) (rebid_pause bids) + me
