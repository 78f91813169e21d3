use Rattle.std.proofs.Common.{◌≡◌, IfOk, subst}
use Rattle.rambo_run.specs.Runs.{maps_of}
use Rattle.rambo_run.specs.Ongoing.{RunningOf, AgreesSoFar}
use Rattle.rambo_names.proofs.Sizes.{up_fits, back_fits, next}
use Rattle.rambo_world.proofs.Reached.{reached_agrees}
use Rattle.rambo_world.proofs.running.RunningRun.maps.Goals as goal

pub maps-requires : goal.maps-requires
maps-requires g c = back_fits _ _ _ (next _ _ _ _ (next _ _ _ _ (next _ _ _ _ (up_fits _ _ _ (back_fits _ _ _ (up_fits _ _ _ c.requires-raw.1.1))))))

pub returns-clause-maps : goal.returns-clause-maps
returns-clause-maps g c = subst (λ (v : RunningOf _). IfOk c.maps.result (λ maps. maps.items ≡ maps_of v.state.nodes)) c.self.view_is
    (subst (λ i. IfOk c.maps.result (λ maps. maps.items ≡ maps_of i.state.nodes)) c.self-inside.view_is c.maps.ensures.maps)

pub returns-clause-agreed : goal.returns-clause-agreed
returns-clause-agreed g c =
    subst (λ (v : RunningOf _). AgreesSoFar g.Q.Quorums.system v.founders v.state) c.self.view_is
    (reached_agrees g.Q.Quorums.system g.met.Q.Quorums.sound c.self.inside.founders c.self.inside.state c.self.invariant)
