-- The list of all steps, as a book has it
use Rattle.std.proofs.Common.{◌≡◌, ℕ, [], ◌∷◌, ◌++◌, ap, ◌∙◌}
use Rattle.rambo_mail.specs.Waiting.{MailState, numbers_of}
use Rattle.rambo_roll.specs.Stocks.{StockView}
use Rattle.rambo_node.specs.Steps.{Step}
use Rattle.rambo_book.specs.Kept.{BookView}

-- a book of these founders, this list, these bounds and this mail
abbrev pub viewed : {Q : Type 0} → Q → StockView (Step Q) → ℕ → ℕ → MailState → BookView Q
viewed f v capacity ahead m = record { founders = f; steps = v.all; drawn = v.drawn; capacity = capacity; ahead = ahead; waiting = numbers_of m.waiting; lose = m.lose; twice = m.twice }

-- one step more, once room was made for it
pub record Grown {E : Type 0} (old new : StockView E) (e : E) : Type 0 where
  pub all : new.all ≡ old.all ++ e ∷ []
  pub drawn : new.drawn ≡ old.drawn

pub grown : {E : Type 0} (old mid roomy new : StockView E) (e : E) → mid ≡ old → roomy ≡ record mid { room = roomy.room } → new ≡ record roomy { all = roomy.all ++ e ∷ []; room = new.room } → Grown old new e
grown old mid roomy new e same room more = record {
  all = ap (λ (v : StockView _). v.all) more ∙ ap (λ (v : StockView _). v.all ++ e ∷ []) room ∙ ap (λ (v : StockView _). v.all ++ e ∷ []) same;
  drawn = ap (λ (v : StockView _). v.drawn) more ∙ ap (λ (v : StockView _). v.drawn) room ∙ ap (λ (v : StockView _). v.drawn) same;
}

pub still_all : {E : Type 0} (old mid roomy : StockView E) → mid ≡ old → roomy ≡ record mid { room = roomy.room } → roomy.all ≡ old.all
still_all old mid roomy same room = ap (λ (v : StockView _). v.all) room ∙ ap (λ (v : StockView _). v.all) same
