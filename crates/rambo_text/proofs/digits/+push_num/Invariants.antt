use Rattle.rambo_text.proofs.digits.+push_num.Given as goal

abbrev pub decreases-push_num : goal.decreases-push_num
decreases-push_num l = l.number
