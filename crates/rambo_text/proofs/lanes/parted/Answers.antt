use Rattle.std.proofs.Common.{refl, sym}
use Rattle.std.proofs.lemmas.Simd.{pick_l_whole}
use Rattle.rambo_text.proofs.lanes.parted.Goals as goal

pub returns-clause-turned : goal.returns-clause-turned
returns-clause-turned c = rw (sym (pick_l_whole 0 c.args.digits.now 32 c.told-digits)) refl
