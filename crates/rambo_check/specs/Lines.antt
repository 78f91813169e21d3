-- Lines of an outcome text
use Rattle.std.specs.Prelude.{ℕ, List, [], ◌∷◌, ◌++◌, Option, map, codes, decimal}
use Rattle.rambo_names.specs.Weights.{Weights}
use Rattle.rambo_names.specs.Signs.{conf_text}
use Rattle.rambo_history.specs.declared.operation.Op.{Op}
use Rattle.rambo_history.specs.declared.operation.Op.TheVariants as op
use Rattle.rambo_history.specs.declared.operation.Answer.{Answer}
use Rattle.rambo_history.specs.declared.operation.Answer.TheVariants as answer
use Rattle.rambo_history.specs.declared.event.CallId.{CallId}
use Rattle.rambo_history.specs.declared.event.Event.{Event}
use Rattle.rambo_history.specs.declared.event.Event.TheVariants as event
use Rattle.rambo_sequence.specs.Sequences.{SequenceOf}
use Rattle.rambo_text.specs.Signs.{hex_text, call_text, standing_text}
use Rattle.rambo_text.specs.Words.{words_text}

-- what a line says: a call was made or answered; a node's collection of a place ended; a node's attempt for a place
-- ended, with the configuration now known there or none where the place is removed; the step of a number was refused by
-- a number; the order of a key's calls, or of those of all keys; or a node's map
pub data Item : Type 0 where
  Happened : Event → Item
  Collected : ℕ → ℕ → Item
  Settled : ℕ → ℕ → Option Weights → Item
  Refused : ℕ → ℕ → Item
  Ordered : SequenceOf → Item
  OrderedAll : List CallId → Item
  Mapped : ℕ → ℕ → List Weights → Item

abbrev pub op_words : Op → List (List ℕ)
op_words (op.Get key) = codes "get" ∷ hex_text key ∷ []
op_words (op.Set key value) = codes "set" ∷ hex_text key ∷ hex_text value ∷ []

abbrev pub answer_words : Answer → List (List ℕ)
answer_words answer.Ok = codes "ok" ∷ []
answer_words answer.Nil = codes "nil" ∷ []
answer_words (answer.Value value) = codes "value" ∷ hex_text value ∷ []

-- the words of a line
abbrev pub item_words : Item → List (List ℕ)
item_words (Happened (event.Call c o)) = codes "call" ∷ call_text c ∷ op_words o
item_words (Happened (event.Answer c a)) = codes "answer" ∷ call_text c ∷ answer_words a
item_words (Collected name place) = codes "collected" ∷ decimal name ∷ decimal place ∷ []
item_words (Settled name place conf) = codes "decided" ∷ decimal name ∷ decimal place ∷ standing_text conf ∷ []
item_words (Refused step number) = codes "refused" ∷ decimal step ∷ decimal number ∷ []
item_words (Ordered s) = codes "sequence" ∷ hex_text s.key ∷ map call_text s.calls
item_words (OrderedAll calls) = codes "order" ∷ map call_text calls
item_words (Mapped name floor confs) = codes "map" ∷ decimal name ∷ decimal floor ∷ map conf_text confs

-- the line, with its line feed
abbrev pub item_line : Item → List ℕ
item_line i = words_text (item_words i) ++ 10 ∷ []

-- line by line
abbrev pub items_text : List Item → List ℕ
items_text [] = []
items_text (i ∷ is) = item_line i ++ items_text is
