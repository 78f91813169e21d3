use Rattle.rambo_post.proofs.post.Post.call.Goals as goal

pub call_noted-requires : goal.call_noted-requires
call_noted-requires g c = assumption
