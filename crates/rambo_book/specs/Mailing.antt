-- Which letters went to a tray, and which left it
use Rattle.std.specs.Prelude.{◌≡◌, ℕ, Bool, false, nat_eq, nat_le, if◌then◌else◌, List, [], ◌∷◌, ◌++◌, map, take, drop, replicate, length, Option, None, Some}
use Rattle.rambo_gossip.specs.Letters.{LetterState}
use Rattle.rambo_joiner.specs.Statuses.{is_stopped}
use Rattle.rambo_run.specs.Worlds.{WorldState, letter_at}
use Rattle.rambo_mail.specs.Waiting.{drop_gone_numbers, waiting_for, with_waiting, times}
use Rattle.rambo_mail.specs.declared.mail.Mail.{Mail}
use Rattle.rambo_book.specs.Kept.{BookView, KeeperView}

abbrev pub goes_to : {Q : Type 0} → ℕ → Option (LetterState Q) → Bool
goes_to name None = false
goes_to name (Some l) = nat_eq l.addressee name

-- the letter of a number was sent to this name, and isn't one of the first, of which so many are gone
abbrev pub comes_to : {Q : Type 0} → WorldState Q → ℕ → ℕ → ℕ → Bool
comes_to w gone name n = if nat_le n gone then false else goes_to name (letter_at w.letters n)

-- of these letters those that were sent to this name, and aren't gone
abbrev pub sent_to : {Q : Type 0} → WorldState Q → ℕ → ℕ → List ℕ → List ℕ
sent_to w gone name [] = []
sent_to w gone name (n ∷ ns) = if comes_to w gone name n then n ∷ sent_to w gone name ns else sent_to w gone name ns

-- the letters of these numbers are in a tray after those that were in it
pub record IsBehind {Q : Type 0} (before : List (Mail Q)) (numbers : List ℕ) (after : List (Mail Q)) : Type 0 where
  pub more : List (Mail Q)
  pub tray : after ≡ before ++ more
  pub numbered : map (λ (m : Mail Q). m.number) more ≡ numbers

-- what waits once a step was done that sends the letter of this number to these names, where so many are gone: it waits after
-- the others, unless it is lost, and of these no more those at the front that are gone
abbrev pub waiting_after : {Q : Type 0} → BookView Q → List ℕ → ℕ → ℕ → List (List ℕ)
waiting_after b [] gone number = b.waiting
waiting_after b (to ∷ more) gone number = with_waiting b.waiting to (drop_gone_numbers gone (waiting_for b.waiting to) ++ replicate (times b.lose b.twice number) number)

-- this many of the letters that wait for a name, the oldest, went to its tray, unless they are gone, and the others wait
pub record AreTaken {Q : Type 0} (w : WorldState Q) (gone name count : ℕ) (lists left : List (List ℕ)) (before after : List (Mail Q)) : Type 0 where
  pub taken : IsBehind before (sent_to w gone name (take count (waiting_for lists name))) after
  pub others : left ≡ with_waiting lists name (drop count (waiting_for lists name))

-- how many letters a keeper takes: all that wait for its node, or none once that has stopped
abbrev pub all_for : {Q : Type 0} → KeeperView Q → List (List ℕ) → ℕ
all_for k lists = if is_stopped k.node.status then 0 else length (waiting_for lists k.name)

-- a tray without the first letter of this number
abbrev pub without : {Q : Type 0} → List (Mail Q) → ℕ → List (Mail Q)
without [] number = []
without (m ∷ ms) number = if nat_eq m.number number then ms else m ∷ without ms number
