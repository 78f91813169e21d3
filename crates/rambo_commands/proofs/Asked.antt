-- What the words behind an action ask for
use Rattle.std.proofs.Common.{◌≡◌, ℕ, List, [], ◌∷◌, Result, Ok, Err, IsErrAnd, inl, inr, refl, sym, ap, ◌∙◌, subst}
use Rattle.rambo_names.specs.Names.{IsName, NameSet}
use Rattle.rambo_names.specs.Weights.{Weights}
use Rattle.rambo_names.specs.declared.refusal.Refusal.TheVariants.{NoSuchName}
use Rattle.rambo_text.specs.Forms.{IsSpelt}
use Rattle.rambo_text.specs.Forms as form
use Rattle.rambo_commands.specs.declared.mistake.Mistake.{Mistake}
use Rattle.rambo_commands.specs.declared.mistake.Mistake.TheVariants.{BadArgument, Refused}
use Rattle.rambo_commands.specs.declared.server_request.ServerRequest.{ServerRequest}
use Rattle.rambo_commands.specs.declared.server_request.ServerRequest.TheVariants.{Join, Recon}
use Rattle.rambo_commands.specs.Administration.{IsNumber, IsSet, IsOfConf, Joins, Changes, wrong, judged}

-- a mistake that is handed on
pub judged_wrong : (r : Result ServerRequest Mistake) (m n : Mistake) → IsErrAnd r (λ x. x ≡ m) → m ≡ n → judged r ≡ wrong n
judged_wrong (Ok asked) m n e is = absurd e
judged_wrong (Err x) m n e is = ap wrong (e ∙ is)

pub recon_asked : (words : List (List ℕ)) (word : List ℕ) (c : Weights) → words ≡ word ∷ [] → IsOfConf word c → Changes words (Recon c)
recon_asked words word c e is = subst (λ ws. Changes ws (Recon c)) (sym e) (inl (c, is, refl))

pub recon_bad : (words : List (List ℕ)) (word : List ℕ) (asked : ServerRequest) → words ≡ word ∷ [] → ¬ (IsSpelt form.Conf word) → asked ≡ wrong BadArgument → Changes words asked
recon_bad words word asked e bad is = subst (λ ws. Changes ws asked) (sym e) (inr (bad, is))

module _ (words : List (List ℕ)) (word known : List ℕ) (e : words ≡ word ∷ known ∷ []) where
  pub join_bad : (asked : ServerRequest) → ¬ (IsSpelt form.Num word × IsSpelt form.Set known) → asked ≡ wrong BadArgument → Joins words asked
  join_bad asked bad is = subst (λ ws. Joins ws asked) (sym e) (inr (bad, is))

  pub join_refused : (n : ℕ) (s : NameSet) (asked : ServerRequest) → IsNumber word n → IsSet known s → ¬ (IsName n) → asked ≡ wrong (Refused NoSuchName) → Joins words asked
  join_refused n s asked num set strange is = subst (λ ws. Joins ws asked) (sym e) (inl (n, s, num, set, inr (strange, is)))

  pub join_asked : (n m : ℕ) (s : NameSet) → IsNumber word n → IsSet known s → m ≡ n → IsName n → Joins words (Join m s)
  join_asked n m s num set same name = subst (λ ws. Joins ws (Join m s)) (sym e) (inl (n, s, num, set, inl (name, ap (λ x. Join x s) same)))
