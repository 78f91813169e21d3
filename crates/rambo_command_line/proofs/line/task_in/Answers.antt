use Rattle.std.proofs.Common.{◌≡◌, ◌∙◌, ℕ, List, Bor, codes, refl, sym, ap, subst, true≢false}
use Rattle.std.specs.Prelude.{Option}
use Rattle.std.specs.Option.{unwrap_or}
use Rattle.rambo_command_line.specs.Lines.{IsFounders, founders_or}
use Rattle.rambo_command_line.proofs.Asked.{flag_is, met_named, met_replay, word_is}
use Rattle.rambo_command_line.proofs.Texts.{unwrap_now}
use Rattle.rambo_command_line.proofs.line.task_in.Goals as goal

pub returns-in-Some : goal.returns-in-Some
returns-in-Some c words faultless matches =
    let word : c.unwrap_or-word.result.now ≡ founders_or (codes "1") words =
    ap (λ (s : Bor (List ℕ)). s.now) c.unwrap_or-word.ensures ∙ unwrap_now c.get_str.result _ ∙ ap (λ (o : Option (List ℕ)). unwrap_or o (codes "1")) c.get_str.ensures
    ∙ sym (ap (λ (o : Option (List ℕ)). unwrap_or o (codes "1")) (word_is words _ faultless matches (codes "founders") c.in-Some.local.now c.in-Some.ensures.rows)) in (
      met_named words _ faultless matches (codes "local") (c.in-Some.ensures.found.0 refl),
      subst (λ w. IsFounders w c.founders_of.result) word c.founders_of.ensures,
    )

pub returns-in-Some-subcommand_matches-2 : goal.returns-in-Some-subcommand_matches-2
returns-in-Some-subcommand_matches-2 c words faultless matches =
    let sub = c.in-Some-subcommand_matches-2.check.now in
    let rows = c.in-Some-subcommand_matches-2.ensures.rows in
    let why = flag_is words _ faultless matches (codes "why") sub rows in
    let place = flag_is words _ faultless matches (codes "place") sub rows in
    let print = flag_is words _ faultless matches (codes "print") sub rows in (
      met_named words _ faultless matches (codes "check") (c.in-Some-subcommand_matches-2.ensures.found.0 refl),
      record {
        why = record {
          there = λ e. c.get_flag.ensures.value (sym why ∙ e);
          absent = λ e. c.get_flag.ensures.other (sym why ∙ e);
          untold = λ e. c.get_flag.ensures.none (sym why ∙ e);
        };
        place = record {
          there = λ e. c.get_flag-in-Some-subcommand_matches-2.ensures.value (sym place ∙ e);
          absent = λ e. c.get_flag-in-Some-subcommand_matches-2.ensures.other (sym place ∙ e);
          untold = λ e. c.get_flag-in-Some-subcommand_matches-2.ensures.none (sym place ∙ e);
        };
        print = record {
          there = λ e. c.get_flag-in-Some-subcommand_matches-2-2.ensures.value (sym print ∙ e);
          absent = λ e. c.get_flag-in-Some-subcommand_matches-2-2.ensures.other (sym print ∙ e);
          untold = λ e. c.get_flag-in-Some-subcommand_matches-2-2.ensures.none (sym print ∙ e);
        };
      },
    )

pub returns : goal.returns
returns c words faultless matches =
    met_replay words _ faultless matches
    (λ met. true≢false (sym (c.in_default-subcommand_matches-2.ensures.found.1 met)))
    (λ met. true≢false (sym (c.in_default.ensures.found.1 met)))
    (λ met. true≢false (sym (c.in_default-subcommand_matches.ensures.found.1 met)))
