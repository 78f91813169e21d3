use Rattle.std.proofs.Common.{◌≡◌, sym, ◌∙◌, subst}
use Rattle.rambo_run.proofs.Lists.{some_inj}
use Rattle.rambo_run.specs.Legal.{IsLegal}
use Rattle.rambo_post.proofs.post.Post.draw.Goals as goal

pub returns-clause-given : goal.returns-clause-given
returns-clause-given g c = λ done. c.draw_in.ensures.drawn done ∙ sym (c.draw_in.ensures.given done)

pub returns-clause-shown : goal.returns-clause-shown
returns-clause-shown g c = λ done. c.draw_in.ensures.shown done ∙ sym (c.draw_in.ensures.drawn done)

pub returns-clause-legal : goal.returns-clause-legal
returns-clause-legal g c = λ done f e.
    let s = g.Q.Quorums.system in
    subst (IsLegal s f) (sym (c.draw_in.ensures.drawn done)) (subst (λ f. IsLegal s f c.deref_mut.result.now.steps) (some_inj _ f (sym c.draw_in.ensures.founders ∙ e)) c.draw_in.ensures.legal)
