use Rattle.std.proofs.Common.{◌≡◌, ◌++◌, map, drop}
use Rattle.rambo_names.specs.Signs.{conf_text}
use Rattle.rambo_text.specs.Signs.{Grows}
use Rattle.rambo_text.specs.Words.{more_words}
use Rattle.rambo_outcome.proofs.line.append_configs.Given as goal

abbrev pub invariant-loop-config : goal.invariant-loop-config
invariant-loop-config l = record {
  text : l.out.items ++ more_words (map conf_text (drop l.config-index l.configs)) ≡ l.initial.out.items ++ more_words (map conf_text l.configs);
  front : Grows l.initial.out.items l.out.items;
}
