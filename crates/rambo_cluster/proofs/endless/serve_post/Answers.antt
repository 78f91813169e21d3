use Rattle.std.proofs.Common.{subst}
use Rattle.std.proofs.lemmas.Result.{IfOk-weaker}
use mathlib.Core.List.{IsPrefix}
use Rattle.rambo_cluster.proofs.endless.serve_post.Goals as goal

pub returns-in-Ok-clause-written : goal.returns-in-Ok-clause-written
returns-in-Ok-clause-written g c =
    IfOk-weaker c.serve_house.result.ended _ _ (λ fault all. (all.0, all.1, subst (λ l. IsPrefix l all.0) c.requires.shown all.2, all.3)) c.serve_house.ensures.written
