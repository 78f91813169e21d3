-- What holds of the order of a book holds of the steps that it leaves
use Rattle.std.proofs.Common.{◌≡◌, List, Option, None, Some, IfSome, sym, ◌∙◌, subst}
use Rattle.rambo_node.specs.Steps.{Step}
use Rattle.rambo_run.proofs.Lists.{some_inj}

pub left_order : {Q A : Type 0} (agreed : Option Q) (f : Q) (steps left : List (Step Q)) (o : Option A) (P : Q → List (Step Q) → A → Type 0)
    → agreed ≡ Some f → left ≡ steps → IfSome o (P f steps) → IfSome o (λ a. (g : Q) → agreed ≡ Some g → P g left a)
left_order agreed f steps left None P founded all h = tt
left_order agreed f steps left (Some a) P founded all h = λ g is. subst (λ g. P g left a) (some_inj f g (sym founded ∙ is)) (subst (λ l. P f l a) (sym all) h)

-- and the other way round, where the founders are known
pub order_of : {Q A : Type 0} (agreed : Option Q) (f : Q) (o : Option A) (P : Q → A → Type 0) → agreed ≡ Some f → IfSome o (λ a. (g : Q) → agreed ≡ Some g → P g a) → IfSome o (P f)
order_of agreed f None P founded h = tt
order_of agreed f (Some a) P founded h = h f founded
