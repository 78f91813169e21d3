use Rattle.std.proofs.lemmas.Grind.{common_steps}
use Rattle.std.proofs.Common.{◌≡◌, ◌∷◌, [], ◌++◌, map, refl, ap, ◌∙◌, append_assoc, arith}
use Rattle.rambo_names.proofs.Errors.{on_err}
use Rattle.rambo_names.specs.Signs.{conf_text}
use Rattle.rambo_text.specs.Words.{more_words}
use Rattle.rambo_outcome.proofs.Loops.{one_on, grows_on}
use Rattle.rambo_outcome.proofs.line.append_configs.Goals as goal

pub returns-in_err-write_conf-clause-err : goal.returns-in_err-write_conf-clause-err
returns-in_err-write_conf-clause-err c =
    on_err _ (grows_on _ c.loop-config.out.items c.write_conf.new.out.items (32 ∷ []) (c.in_err-write_conf.ensures.err ∙ c.in_ok-push.ensures.items) c.loop-config.invariant.front)

pub loop-config-preserved : goal.loop-config-preserved
loop-config-preserved c =
    let word = 32 ∷ conf_text c.config-item.result in
    let now : c.write_conf.new.out.items ≡ c.loop-config.out.items ++ word =
    c.in_ok-write_conf.ensures.ok
    ∙ ap (λ t. t ++ conf_text c.config-item.result) {x = c.push.new.self.items} {y = c.loop-config.out.items ++ 32 ∷ []} c.in_ok-push.ensures.items ∙ append_assoc c.loop-config.out.items (32 ∷ []) (conf_text c.config-item.result) in
    record {
      text = one_on (λ cs. more_words (map conf_text cs)) (λ q. 32 ∷ conf_text q) (λ q qs. refl) c.args.configs.now c.loop-config.config-index c.config-item.result c.loop-config.out.items c.write_conf.new.out.items _
          c.loop-config-test.true c.config-item.is now c.loop-config.invariant.text;
      front = grows_on _ c.loop-config.out.items c.write_conf.new.out.items word now c.loop-config.invariant.front;
    }

pub returns-clause-ok : goal.returns-clause-ok
returns-clause-ok c = grind (arith, common_steps)
