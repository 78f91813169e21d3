-- What is read of a line
use Rattle.std.specs.Prelude.{◌≡◌, ℕ, true, List, [], Option}
use Rattle.rambo_atomic.specs.Unreads.{UnreadState}
use Rattle.rambo_text.specs.declared.version.Version.{Version}
use Rattle.rambo_text.specs.declared.version.Version.TheVariants.{One, Two}
use Rattle.rambo_text.specs.Versions.{head_line, IsFirstOf}
use Rattle.rambo_text.specs.Words.{IsFirstLine, AreWords}
use Rattle.rambo_check.specs.declared.kept.Kept.{Kept}
use Rattle.rambo_check.specs.declared.kept.Kept.TheVariants as kept
use Rattle.rambo_check.specs.Checks.{IsLeft}
use Rattle.rambo_check.specs.Lines.{Item, Happened, Ordered, OrderedAll, item_words}
use Rattle.rambo_check.specs.Items.{IsItem, IsLineIn, IsPassed}
use Rattle.rambo_check.specs.EvidenceStates.{EvidenceState, with_item, IsBadItem}

abbrev pub Says : Kept → Item → Type 0
Says (kept.Happened e) i = i ≡ Happened e
Says (kept.Ordered key order) i = i ≡ Ordered (record { key = key; calls = order })
Says (kept.OrderedAll order) i = i ≡ OrderedAll order
Says kept.Nothing i = IsPassed i

-- the line is the spelling of an item, of which this is kept
abbrev pub IsLineOf : Version → List ℕ → Kept → Type 0
IsLineOf version text k = (i : Item) × IsItem i × IsLineIn version i × AreWords text (item_words i) × Says k i

-- bytes that a source has left, after what was read of it
abbrev pub IsMore : UnreadState → Option (List ℕ) → List ℕ → Type 0
IsMore u left more = IsLeft left more × (u.ended ≡ true → more ≡ [])

-- the first line of what was held may be that of a text of this version, and the rest is held; of version 1 that line is too
abbrev pub TakesHead : Version → List ℕ → List ℕ → Type 0
TakesHead One before after = (line : List ℕ) × (rest : List ℕ) × IsFirstLine before line rest × IsFirstOf One line × (after ≡ before)
TakesHead Two before after = IsFirstLine before head_line after

-- the first line of what was held is a good item's, which is taken in, and the rest is held
pub record TakesLine (version : Version) (before after : List ℕ) (old new : EvidenceState) : Type 0 where
  pub line : List ℕ
  pub first : IsFirstLine before line after
  pub item : Item
  pub in_range : IsItem item
  pub of_version : IsLineIn version item
  pub words : AreWords line (item_words item)
  pub good : ¬ (IsBadItem old item)
  pub taken : new ≡ with_item old item
