use Rattle.std.proofs.Common.{not, sym, ap}
use Rattle.rambo_post.proofs.post.Post.with_mail.Goals as goal

pub with_boxes-requires : goal.with_boxes-requires
with_boxes-requires g c =
    let r = c.requires in
    (c.requires-raw.1.1.1.0, (r.name, (r.founders, (r.capacity, (r.lose, (r.twice, (sym (ap not r.endless), c.in_ok-outboxes.ensures.all)))))))
