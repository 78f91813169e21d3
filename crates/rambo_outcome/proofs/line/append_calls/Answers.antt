use Rattle.std.proofs.lemmas.Grind.{common_steps}
use Rattle.rambo_names.proofs.Errors.{on_err}
use Rattle.std.proofs.Common.{◌≡◌, ◌∷◌, [], ◌++◌, map, refl, ap, ◌∙◌, append_assoc, arith}
use Rattle.rambo_text.specs.Signs.{Grows, call_text}
use Rattle.rambo_text.specs.Words.{more_words}
use Rattle.rambo_outcome.proofs.Loops.{one_on, grows_on}
use Rattle.rambo_outcome.proofs.line.append_calls.Goals as goal

pub loop-id-preserved : goal.loop-id-preserved
loop-id-preserved c =
    let word = 32 ∷ call_text c.id-item.result in
    let now : c.write_call.new.out.items ≡ c.loop-id.out.items ++ word =
    c.in_ok-write_call.ensures.ok ∙ ap (λ t. t ++ call_text c.id-item.result) c.in_ok-push.ensures.items ∙ append_assoc c.loop-id.out.items (32 ∷ []) (call_text c.id-item.result) in
    record {
      text = one_on (λ cs. more_words (map call_text cs)) (λ d. 32 ∷ call_text d) (λ d ds. refl) c.args.calls.now c.loop-id.id-index c.id-item.result c.loop-id.out.items c.write_call.new.out.items _
          c.loop-id-test.true c.id-item.is now c.loop-id.invariant.text;
      front = grows_on _ c.loop-id.out.items c.write_call.new.out.items word now c.loop-id.invariant.front;
    }

pub returns-clause-ok : goal.returns-clause-ok
returns-clause-ok c = grind (arith, common_steps)

pub returns-in_err-push-clause-err : goal.returns-in_err-push-clause-err
returns-in_err-push-clause-err c = let front = c.loop-id.invariant.front in let grown : Grows c.args.out.now.items c.push.new.self.items = (front.0, c.in_err-push.ensures.items ∙ front.1) in on_err _ grown

pub returns-in_err-write_call-clause-err : goal.returns-in_err-write_call-clause-err
returns-in_err-write_call-clause-err c =
    on_err _ (grows_on _ c.loop-id.out.items c.write_call.new.out.items (32 ∷ []) (c.in_err-write_call.ensures.err ∙ c.in_ok-push.ensures.items) c.loop-id.invariant.front)
