-- What a book leaves when its post is closed
use Rattle.std.specs.Result.{result_ok}
use Rattle.std.proofs.Common.{◌≡◌, ◌≤◌, ℕ, List, length, Option, Some, Result, Ok, Err, IfOk, IfSome, option_map, sym, ◌∙◌, subst}
use Rattle.rambo_names.specs.Quorums.{QuorumSystem}
use Rattle.rambo_history.specs.Proper.{IsProperForAll}
use Rattle.rambo_node.specs.Steps.{Step}
use Rattle.rambo_run.specs.Legal.{IsLegal}
use Rattle.rambo_run.specs.Runs.{run, given_order}
use Rattle.rambo_run.proofs.Lists.{some_inj}
use Rattle.rambo_book.specs.Kept.{BookView, state}
use Rattle.rambo_pass.specs.Leavings.{LeftView, IsClosed, IsLeft}

-- what holds of a success holds of it as a value that may be there, in its view
pub if_there : {A B E : Type 0} (view : A → B) (P : B → Type 0) (r : Result A E) (o : Option A) → o ≡ result_ok r → IfOk r (λ a. P (view a)) → IfSome (option_map view o) P
if_there view P (Ok a) o is h = subst (λ o. IfSome (option_map view o) P) (sym is) h
if_there view P (Err e) o is h = subst (λ o. IfSome (option_map view o) P) (sym is) tt

pub closes : {Q : Type 0} (s : QuorumSystem Q) (agreed : Option Q) (most : ℕ) (b : BookView Q) (seen : List (Step Q)) (l : LeftView Q)
    → agreed ≡ Some b.founders → seen ≡ b.steps → l.steps ≡ b.steps → IsLegal s b.founders l.steps → length l.steps ≤ most
    → IfSome l.order (λ o. o ≡ given_order (state s b)) → IfSome l.order (λ o. IsProperForAll (state s b).history o) → IsClosed s agreed most seen l
closes s agreed most b seen l founded all same legal fits given explained = record {
  all = all ∙ sym same;
  fits = fits;
  left = λ f is. subst (IsLeft s l) (some_inj _ f (sym founded ∙ is)) (record {
    legal = legal;
    given = subst (λ steps. IfSome l.order (λ o. o ≡ given_order (run s b.founders steps))) (sym same) given;
    explained = subst (λ steps. IfSome l.order (λ o. IsProperForAll (run s b.founders steps).history o)) (sym same) explained;
  });
}
