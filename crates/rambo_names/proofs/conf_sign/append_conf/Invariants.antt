use Rattle.std.proofs.Common.{◌≡◌, ◌++◌, List, ℕ, map}
use Rattle.rambo_names.specs.Signs.{conf_text, member_text}
use Rattle.rambo_names.specs.Weights.{weight_of}
use Rattle.rambo_names.proofs.ConfTexts.{rest_text}
use Rattle.rambo_names.proofs.conf_sign.append_conf.Given as goal

abbrev pub invariant-loop-name : goal.invariant-loop-name
invariant-loop-name g l = record {
  text : l.out.items ++ rest_text l.first (map (λ n. member_text n (weight_of l.conf n)) l.name-iterator) ≡ l.initial.out.items ++ conf_text l.conf;
  front : (more : List ℕ) × (l.out.items ≡ l.initial.out.items ++ more);
}
