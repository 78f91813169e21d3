-- Which letters wait for the nodes, and which ask for one in return
use Rattle.std.specs.Prelude.{ℕ, zero, suc, ◌-◌, ◌%◌, Bool, false, nat_eq, nat_le, if◌then◌else◌, List, [], ◌∷◌, ◌++◌, map, replicate, Option, None, Some, slice_set, slice_index_or}
use Rattle.rambo_mail.specs.declared.entry.Entry.{Entry}
use Rattle.rambo_mail.specs.declared.posting.Posting.{Posting}

-- the letters that wait for a name, the oldest first, of the lists of the names 1, 2, ..
abbrev pub waiting_for : {A : Type 0} → List (List A) → ℕ → List A
waiting_for lists name = slice_index_or lists (name - 1) []

-- these wait for it instead
abbrev pub with_waiting : {A : Type 0} → List (List A) → ℕ → List A → List (List A)
with_waiting lists name letters = slice_set lists (name - 1) letters

-- the numbers of the letters that wait
abbrev pub number_of : Entry → ℕ
number_of e = e.number

abbrev pub numbers_of : List (List Entry) → List (List ℕ)
numbers_of lists = map (map number_of) lists

-- what the mail of a book knows
pub record MailState : Type 0 where
  -- of the names 1, 2, .. the letters that wait for each
  pub waiting : List (List Entry)
  -- each letter of which this divides the number is lost, and each other that this divides waits twice; 0 divides none
  pub lose : ℕ
  pub twice : ℕ
  -- to whom there is room for a letter
  pub ready : Option ℕ

abbrev pub divides : ℕ → ℕ → Bool
divides zero number = false
divides (suc i) number = nat_eq (number % suc i) 0

-- how often the letter of a number waits
abbrev pub times : ℕ → ℕ → ℕ → ℕ
times lose twice number = if divides lose number then 0 else if divides twice number then 2 else 1

-- letters without those at their front that are gone: the first that were sent, of which so many are
abbrev pub drop_gone : ℕ → List Entry → List Entry
drop_gone gone [] = []
drop_gone gone (e ∷ es) = if nat_le e.number gone then drop_gone gone es else e ∷ es

-- whether the first of them is gone
abbrev pub starts_gone : ℕ → List Entry → Bool
starts_gone gone [] = false
starts_gone gone (e ∷ es) = nat_le e.number gone

-- the same of their numbers
abbrev pub drop_gone_numbers : ℕ → List ℕ → List ℕ
drop_gone_numbers gone [] = []
drop_gone_numbers gone (n ∷ ns) = if nat_le n gone then drop_gone_numbers gone ns else n ∷ ns

-- those that wait for a name leave from the front on, as long as they are gone
abbrev pub left : MailState → ℕ → ℕ → MailState
left m to gone = record m { waiting = with_waiting m.waiting to (drop_gone gone (waiting_for m.waiting to)) }

-- a letter is sent to a name, after those that wait there
abbrev pub sent : MailState → ℕ → Entry → MailState
sent m to e = record m { waiting = with_waiting m.waiting to (waiting_for m.waiting to ++ replicate (times m.lose m.twice e.number) e); ready = None }

abbrev pub sent_if : MailState → Option ℕ → Entry → ℕ → MailState
sent_if m None e gone = m
sent_if m (Some to) e gone = sent (left m to gone) to e

-- what a step means for the mail, after which this many letters were sent, of which so many, the first, are gone
abbrev pub posted : MailState → Posting → ℕ → ℕ → MailState
posted m p letters gone = sent_if m p.to (record { number = letters; asks = p.asks }) gone
