-- Lines at the front of a text
use Rattle.std.specs.Prelude.{ℕ, List}
use Rattle.rambo_text.specs.Words.{IsFirstLine, words_text}
use Rattle.rambo_check.specs.Items.{IsItem}
use Rattle.rambo_check.specs.Lines.{Item, item_words}

-- the first line of a text is that of an item, and the rest is that of the lines after it
pub record BeginsWithItem (text : List ℕ) (i : Item) (rest : List ℕ) : Type 0 where
  pub in_range : IsItem i
  pub is_first : IsFirstLine text (words_text (item_words i)) rest
