-- Which letters a book keeps: those that were sent last
use Rattle.std.specs.Prelude.{ℕ, zero, suc, ◌-◌, ◌++◌, Bool, false, nat_lt, if◌then◌else◌, List, length, take, Option, Some}
use Rattle.std.specs.Option.{option_and_then, option_map, option_map_or}
use Rattle.rambo_names.specs.declared.refusal.Refusal.{Refusal}
use Rattle.rambo_names.specs.declared.refusal.Refusal.TheVariants.{LetterGone}
use Rattle.rambo_names.specs.Quorums.{QuorumSystem}
use Rattle.rambo_gossip.specs.Letters.{LetterState}
use Rattle.rambo_node.specs.Steps.{Step, delivered_by}
use Rattle.rambo_run.specs.Steps.{refusal}
use Rattle.rambo_run.specs.Worlds.{WorldState, letter_at}

-- how many of the letters that were sent last are kept: so many in an endless book, else all, as no more are sent than steps done
abbrev pub window_of : Bool → ℕ → ℕ
window_of endless most = if endless then 16384 else most

-- how many letters, the first that were sent, aren't kept any more
abbrev pub gone_of : {Q : Type 0} → Bool → ℕ → WorldState Q → ℕ
gone_of endless most w = length w.letters - window_of endless most

-- the letter of a number is one of the first, of which so many are gone
abbrev pub is_gone : ℕ → ℕ → Bool
is_gone gone zero = false
is_gone gone (suc i) = nat_lt i gone

-- a step delivers one of them
abbrev pub delivers_gone : {Q : Type 0} → ℕ → Step Q → Bool
delivers_gone gone st = option_map_or (is_gone gone) (delivered_by st) false

-- why a step is refused, where it is judged first whether it delivers a letter that is gone
abbrev pub refused_in : {Q : Type 0} → QuorumSystem Q → Bool → ℕ → WorldState Q → Step Q → Option Refusal
refused_in s endless most w st = if delivers_gone (gone_of endless most w) st then Some LetterGone else refusal s w st

-- how many letters are gone, the others, how many of these are kept at most, and for how many more there is room
pub record LettersView (Q : Type 0) : Type 0 where
  pub gone : ℕ
  pub kept : List (LetterState Q)
  pub window : ℕ
  pub room : ℕ

-- the letter of a number, if it was sent and is kept
abbrev pub kept_at : {Q : Type 0} → LettersView Q → ℕ → Option (LetterState Q)
kept_at v number = letter_at v.kept (number - v.gone)

-- the one that a step delivers, if it delivers one that is
abbrev pub kept_in : {Q : Type 0} → LettersView Q → Step Q → Option (LetterState Q)
kept_in v st = option_and_then (kept_at v) (delivered_by st)

-- the number of a letter among those that are kept
abbrev pub among : {Q : Type 0} → LettersView Q → Option ℕ → Option ℕ
among v number = option_map (λ n. n - v.gone) number

-- how many are kept that needn't be
abbrev pub beyond : {Q : Type 0} → LettersView Q → ℕ
beyond v = length v.kept - v.window

-- with those that are gone as they were sent
abbrev pub completed : {Q : Type 0} → WorldState Q → LettersView Q → List (LetterState Q)
completed w v = take v.gone w.letters ++ v.kept
