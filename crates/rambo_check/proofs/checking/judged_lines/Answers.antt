use Rattle.std.proofs.Common.{◌≡◌, ◌&&◌, Bool, true, false, sym, ap, ◌∙◌}
use Rattle.rambo_check.proofs.Explained.{right-on-all}
use Rattle.rambo_check.proofs.checking.judged_lines.Goals.{then-each_yes, else-each_yes}
use Rattle.rambo_check.proofs.checking.judged_lines.Goals as goal

and_then : (a b r : Bool) → a ≡ true → r ≡ b → r ≡ (a && b)
and_then a b r so is = is ∙ ap (λ t. t && b) (sym so)

and_else : (a b r : Bool) → a ≡ false → r ≡ a → r ≡ (a && b)
and_else a b r so is = is ∙ so ∙ ap (λ t. t && b) (sym so)

pub written_lines-requires : goal.written_lines-requires
written_lines-requires c = record {
  right = c.in_ok-judge_each.ensures.verdicts;
  on_all = right-on-all c.args.version c.args.evidence.now c.in_ok-on_all.on_all c.in_ok-on_all.ensures.judged;
}

pub returns : goal.returns
returns c =
    let both : c.if-each_yes.result ≡ (c.all_yes-each_yes.result && c.yes_to_all-order_yes.result) = elim c.if-each_yes.branch [
      | then-each_yes w ↦ and_then _ _ _ w.if-each_yes.true w.result-is
      | else-each_yes w ↦ and_else _ _ _ w.if-each_yes.false w.result-is
    ] in
    record {
      judged = record {
        verdicts = _;
        right = c.in_ok-judge_each.ensures.verdicts;
        on_all = _;
        right_on_all = c.in_ok-on_all.ensures.judged;
        lines = c.in_ok-lines.ensures;
        answer = both ∙ (λ i. c.all_yes-each_yes.ensures i && c.yes_to_all-order_yes.ensures i);
      };
    }
