use Rattle.std.proofs.Common.{◌≡◌, ◌∙◌, ℕ, List, Bor, Option, codes, is_some, refl, sym, ap, subst, arith}
use Rattle.std.specs.Option.{unwrap_or}
use Rattle.clap.specs.Matches.{found_of}
use Rattle.clap.proofs.WalkLemmas.{first_value-rows}
use Rattle.rambo_command_line.proofs.Served.{behind, flag_is, number_option, option_at, told}
use Rattle.rambo_command_line.proofs.Texts.{some_now, unwrap_now}
use Rattle.rambo_command_line.specs.Lines.{IsFounders, founders_or}
use Rattle.rambo_command_line.proofs.serving.serving_in.Goals as goal

pub returns : goal.returns
returns c words asks is =
    let sub = c.args.matches.now in
    let word : c.unwrap_or.result.now ≡ founders_or (codes "1,2,3") words =
    ap (λ (s : Bor (List ℕ)). s.now) c.unwrap_or.ensures ∙ unwrap_now c.get_str.result _ ∙ ap (λ (o : Option (List ℕ)). unwrap_or o (codes "1,2,3"))
    (c.get_str.ensures ∙ first_value-rows (found_of sub) (codes "founders") ∙ sym (behind words sub asks.0 is (codes "founders"))) in
    record {
      port = told words sub asks.0 is (codes "port") 0 0 65535 65536 _ (option_at 0) (number_option (codes "port") 0 65535 0 refl refl refl refl refl) (omega arith) (omega arith) (omega arith) c.port_in.ensures.none c.port_in.ensures.some;
      founders = subst (λ w. IsFounders w c.founders_of.result) word c.founders_of.ensures;
      clients = told words sub asks.0 is (codes "clients") 2 1 32 18446744073709551616 _ (option_at 2) (number_option (codes "clients") 1 32 2 refl refl refl refl refl) (omega arith) (omega arith) (omega arith) c.number_in.ensures.none c.number_in.ensures.some;
      connections = told words sub asks.0 is (codes "connections") 10000 1 1000000 18446744073709551616 _ (option_at 3) (number_option (codes "connections") 1 1000000 3 refl refl refl refl refl) (omega arith) (omega arith) (omega arith) c.number_in-2.ensures.none c.number_in-2.ensures.some;
      steps = told words sub asks.0 is (codes "steps") 100000 1 1000000 18446744073709551616 _ (option_at 4) (number_option (codes "steps") 1 1000000 4 refl refl refl refl refl) (omega arith) (omega arith) (omega arith) c.number_in-3.ensures.none c.number_in-3.ensures.some;
      lose = told words sub asks.0 is (codes "lose") 0 0 18446744073709551615 18446744073709551616 _ (option_at 5) (number_option (codes "lose") 0 18446744073709551615 5 refl refl refl refl refl) (omega arith) (omega arith) (omega arith) c.number_in-4.ensures.none c.number_in-4.ensures.some;
      twice = told words sub asks.0 is (codes "twice") 0 0 18446744073709551615 18446744073709551616 _ (option_at 6) (number_option (codes "twice") 0 18446744073709551615 6 refl refl refl refl refl) (omega arith) (omega arith) (omega arith) c.number_in-5.ensures.none c.number_in-5.ensures.some;
      endless = record {
        there = λ e. c.get_flag.ensures.value (sym (flag_is words sub asks.0 is (codes "endless")) ∙ e);
        absent = λ e. c.get_flag.ensures.other (sym (flag_is words sub asks.0 is (codes "endless")) ∙ e);
        untold = λ e. c.get_flag.ensures.none (sym (flag_is words sub asks.0 is (codes "endless")) ∙ e);
      };
      untraced = record {
        there = λ e. c.get_flag-2.ensures.value (sym (flag_is words sub asks.0 is (codes "no-trace")) ∙ e);
        absent = λ e. c.get_flag-2.ensures.other (sym (flag_is words sub asks.0 is (codes "no-trace")) ∙ e);
        untold = λ e. c.get_flag-2.ensures.none (sym (flag_is words sub asks.0 is (codes "no-trace")) ∙ e);
      };
      counted = c.is_some.ensures ∙ some_now c.get_str-2.result
          ∙ ap is_some (c.get_str-2.ensures ∙ first_value-rows (found_of sub) (codes "steps") ∙ sym (behind words sub asks.0 is (codes "steps")));
      trace = c.in_ok-trace.ensures ∙ first_value-rows (found_of sub) (codes "trace") ∙ sym (behind words sub asks.0 is (codes "trace"));
      synced = record {
        there = λ e. c.get_flag-3.ensures.value (sym (flag_is words sub asks.0 is (codes "sync")) ∙ e);
        absent = λ e. c.get_flag-3.ensures.other (sym (flag_is words sub asks.0 is (codes "sync")) ∙ e);
        untold = λ e. c.get_flag-3.ensures.none (sym (flag_is words sub asks.0 is (codes "sync")) ∙ e);
      };
      resumed = record {
        there = λ e. c.get_flag-4.ensures.value (sym (flag_is words sub asks.0 is (codes "resume")) ∙ e);
        absent = λ e. c.get_flag-4.ensures.other (sym (flag_is words sub asks.0 is (codes "resume")) ∙ e);
        untold = λ e. c.get_flag-4.ensures.none (sym (flag_is words sub asks.0 is (codes "resume")) ∙ e);
      };
      founded = c.is_some-2.ensures ∙ some_now c.get_str-3.result
          ∙ ap is_some (c.get_str-3.ensures ∙ first_value-rows (found_of sub) (codes "founders") ∙ sym (behind words sub asks.0 is (codes "founders")));
    }
