-- A command asks for one thing alone
use Rattle.std.proofs.Common.{◌≡◌, ℕ, Bool, true, false, List, [], ◌∷◌, Option, None, Some, inl, inr, sym, ap, ◌∙◌, subst}
use Rattle.std.specs.Prelude.{MatchBool, codes}
use Rattle.std.specs.Str.{str_eq_ignore_ascii_case}
use Rattle.std.proofs.lemmas.Fmt.{decimal_injective}
use Rattle.rambo_names.specs.Names.{NameSet}
use Rattle.rambo_text.specs.Forms.{IsSpelt}
use Rattle.rambo_text.specs.Forms as form
use Rattle.rambo_names.specs.Weights.{Weights}
use Rattle.rambo_names.proofs.ConfOnce.{one_conf_is, one_set_is}
use Rattle.rambo_commands.specs.declared.administration.Action.{Action}
use Rattle.rambo_commands.specs.declared.administration.Action.TheVariants as action
use Rattle.rambo_commands.specs.declared.server_request.ServerRequest.{ServerRequest}
use Rattle.rambo_commands.specs.declared.server_request.ServerRequest.TheVariants.{Common, Join, Recon, Use, Stop, Collect, Config, Info, Shutdown}
use Rattle.rambo_commands.specs.Administration.{IsNumber, IsSet, IsOfConf, IsNamed, ActsOnNode, Joins, Changes, ActsAlone, Acts, ActsIfKnown, Administers, action_of}
use Rattle.rambo_commands.specs.Requests.{request_of}
use Rattle.rambo_commands.specs.Laws.{AsksOnce}

same_number : (word : List ℕ) (n m : ℕ) → IsNumber word n → IsNumber word m → n ≡ m
same_number word n m a b = decimal_injective n m a.small b.small (sym a.spelt ∙ b.spelt)

same_set : (word : List ℕ) (s t : NameSet) → IsSet word s → IsSet word t → s ≡ t
same_set word s t a b = one_set_is s t a.names b.names (sym a.spelt ∙ b.spelt)

same_conf : (word : List ℕ) (c d : Weights) → IsOfConf word c → IsOfConf word d → c ≡ d
same_conf word c d a b = one_conf_is c d a.names b.names (sym a.spelt ∙ b.spelt)

is_spelt : (word : List ℕ) (n : ℕ) → IsNumber word n → IsSpelt form.Num word
is_spelt word n a = (n, a.small, a.spelt)

one_named : (make : ℕ → ServerRequest) (n : ℕ) (a b : ServerRequest) → IsNamed make n a → IsNamed make n b → a ≡ b
one_named make n a b (inl x) (inl y) = x.1 ∙ sym y.1
one_named make n a b (inl x) (inr y) = absurd (y.0 x.0)
one_named make n a b (inr x) (inl y) = absurd (x.0 y.0)
one_named make n a b (inr x) (inr y) = x.1 ∙ sym y.1

one_on_node : (make : ℕ → ServerRequest) (words : List (List ℕ)) (a b : ServerRequest) → ActsOnNode make words a → ActsOnNode make words b → a ≡ b
one_on_node make [] a b x y = x ∙ sym y
one_on_node make (word ∷ []) a b (inl x) (inl y) =
    one_named make x.0 a b x.2 (subst (λ n. IsNamed make n b) (same_number word y.0 x.0 y.1 x.1) y.2)
one_on_node make (word ∷ []) a b (inl x) (inr y) = absurd (y.0 (is_spelt word x.0 x.1))
one_on_node make (word ∷ []) a b (inr x) (inl y) = absurd (x.0 (is_spelt word y.0 y.1))
one_on_node make (word ∷ []) a b (inr x) (inr y) = x.1 ∙ sym y.1
one_on_node make (word ∷ next ∷ words) a b x y = x ∙ sym y

one_join : (words : List (List ℕ)) (a b : ServerRequest) → Joins words a → Joins words b → a ≡ b
one_join [] a b x y = x ∙ sym y
one_join (word ∷ []) a b x y = x ∙ sym y
one_join (word ∷ known ∷ []) a b (inl x) (inl y) =
    let sets = same_set known y.1 x.1 y.3 x.3 in
    one_named (λ m. Join m x.1) x.0 a b x.4
    (subst (λ n. IsNamed (λ m. Join m x.1) n b) (same_number word y.0 x.0 y.2 x.2) (subst (λ s. IsNamed (λ m. Join m s) y.0 b) sets y.4))
one_join (word ∷ known ∷ []) a b (inl x) (inr y) = absurd (y.0 (is_spelt word x.0 x.2, (x.1, x.3.spelt)))
one_join (word ∷ known ∷ []) a b (inr x) (inl y) = absurd (x.0 (is_spelt word y.0 y.2, (y.1, y.3.spelt)))
one_join (word ∷ known ∷ []) a b (inr x) (inr y) = x.1 ∙ sym y.1
one_join (word ∷ known ∷ next ∷ words) a b x y = x ∙ sym y

one_recon : (words : List (List ℕ)) (a b : ServerRequest) → Changes words a → Changes words b → a ≡ b
one_recon [] a b x y = x ∙ sym y
one_recon (word ∷ []) a b (inl x) (inl y) = x.2 ∙ ap Recon (same_conf word x.0 y.0 x.1 y.1) ∙ sym y.2
one_recon (word ∷ []) a b (inl x) (inr y) = absurd (y.0 (x.0, x.1.spelt))
one_recon (word ∷ []) a b (inr x) (inl y) = absurd (x.0 (y.0, y.1.spelt))
one_recon (word ∷ []) a b (inr x) (inr y) = x.1 ∙ sym y.1
one_recon (word ∷ next ∷ words) a b x y = x ∙ sym y

one_alone : (own : ServerRequest) (words : List (List ℕ)) (a b : ServerRequest) → ActsAlone own words a → ActsAlone own words b → a ≡ b
one_alone own [] a b x y = x ∙ sym y
one_alone own (word ∷ words) a b x y = x ∙ sym y

one_act : (act : Action) (words : List (List ℕ)) (a b : ServerRequest) → Acts act words a → Acts act words b → a ≡ b
one_act action.Use words a b x y = one_on_node Use words a b x y
one_act action.Join words a b x y = one_join words a b x y
one_act action.Recon words a b x y = one_recon words a b x y
one_act action.Collect words a b x y = one_alone Collect words a b x y
one_act action.Stop words a b x y = one_on_node Stop words a b x y
one_act action.Config words a b x y = one_alone Config words a b x y
one_act action.Info words a b x y = one_alone Info words a b x y
one_act action.Shutdown words a b x y = one_alone Shutdown words a b x y

one_known : (act : Option Action) (words : List (List ℕ)) (a b : ServerRequest) → ActsIfKnown act words a → ActsIfKnown act words b → a ≡ b
one_known None words a b x y = x ∙ sym y
one_known (Some act) words a b x y = one_act act words a b x y

one_administered : (words : List (List ℕ)) (a b : ServerRequest) → Administers words a → Administers words b → a ≡ b
one_administered [] a b x y = x ∙ sym y
one_administered (word ∷ words) a b x y = one_known (action_of word) words a b x y

one_of : (t : Bool) (P Q : ServerRequest → Type 0) (a b : ServerRequest) → (P a → P b → a ≡ b) → (Q a → Q b → a ≡ b) → MatchBool t (P a) (Q a) → MatchBool t (P b) (Q b) → a ≡ b
one_of true P Q a b p q x y = p x y
one_of false P Q a b p q x y = q x y

pub asks_once : AsksOnce
asks_once [] a b x y = x ∙ sym y
asks_once (name ∷ words) a b x y =
    one_of (str_eq_ignore_ascii_case name (codes "RAMBO")) (Administers words) (λ q. q ≡ Common (request_of (name ∷ words))) a b (one_administered words a b) (λ e f. e ∙ sym f) x y
