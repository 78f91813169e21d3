-- What stands at a place has one sign
use Rattle.std.proofs.Common.{◌≡◌, ℕ, ◌<◌, List, [], ◌∷◌, ◌++◌, length, codes, decimal, Option, None, Some, IfSome, refl, sym, ap, ◌∙◌, arith, append_assoc, lit<}
use Rattle.std.proofs.lemmas.Fmt.{decimal_nonempty}
use Rattle.rambo_names.specs.Signs.{joined, behind_commas, weight_text, conf_text, IsConf}
use Rattle.rambo_names.specs.Weights.{Weights, weight_of}
use Rattle.rambo_names.proofs.ConfOnce.{one_conf_is}
use Rattle.rambo_names.proofs.ConfTexts.{parts, StartsAbove, parts-above, conf_parts, weight_most}
use Rattle.rambo_text.specs.Signs.{standing_text}
use Rattle.rambo_text.specs.Words.{Lacks}
use Rattle.rambo_text.proofs.Lacking.{letterless}
use Rattle.rambo_text.proofs.Plain.{lacks-conf, lacks-tested}

pub lacks-standing : (b : ℕ) (conf : Option Weights) → b < 44 → Lacks b (standing_text conf)
lacks-standing b None low = lacks-tested b (codes "removed") low refl
lacks-standing b (Some c) low = lacks-conf b c low

other_head : (b : ℕ) (ds bs r : List ℕ) → 0 < length ds → Lacks b ds → b ∷ bs ≡ ds ++ r → ⊥
other_head b [] bs r some lacks e = omega arith
other_head b (d ∷ ds) bs r some lacks e = lacks.0 cc

-- a word that begins with a letter is no list of members
no_members : (b : ℕ) (bs : List ℕ) (ws : List (List ℕ)) → 57 < b → StartsAbove 0 ws → b ∷ bs ≡ joined ws → ⊥
no_members b bs [] high above e = let is : b ≡ 45 = cc in omega arith
no_members b bs (w ∷ ws) high above e =
    other_head b (decimal above.0) bs (weight_text above.1 ++ behind_commas ws) (decimal_nonempty above.0 above.3) (letterless b above.0 high above.3)
    (e ∙ ap (λ l. l ++ behind_commas ws) above.5 ∙ append_assoc (decimal above.0) (weight_text above.1) (behind_commas ws))

not_removed : (c : Weights) → codes "removed" ≡ conf_text c → ⊥
not_removed c e =
    no_members 114 (codes "emoved") (parts (weight_of c) 64 1) (lit< tt) (parts-above (weight_of c) (weight_most c) 64 1 0 (omega arith) (omega arith)) (e ∙ conf_parts c)

pub same_standing : (s t : Option Weights) → IfSome s IsConf → IfSome t IsConf → standing_text s ≡ standing_text t → s ≡ t
same_standing None None a b e = refl
same_standing None (Some t) a b e = absurd (not_removed t e)
same_standing (Some s) None a b e = absurd (not_removed s (sym e))
same_standing (Some s) (Some t) a b e = ap Some (one_conf_is s t a b e)
