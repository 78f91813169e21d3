use Rattle.std.proofs.Common.{ap}
use Rattle.rambo_names.proofs.Sizes.{up_fits, back_fits}
use Rattle.rambo_book.proofs.Firsts.{first_keeper}
use Rattle.rambo_book.proofs.keeper.Keeper.new.Goals as goal

pub new-requires : goal.new-requires
new-requires g c = (back_fits _ _ _ (up_fits _ _ _ c.requires-raw.1.1.1.0), (c.requires.copies, c.requires.stamps))

pub invariant_of-result : goal.invariant_of-result
invariant_of-result g c =
    let node = c.new.result in
    first_keeper g.Q.Quorums.system g.J.Terms.founders g.J.Terms.capacity c.args.founders c.args.holder.0 c.args.name (record { state = node.state; stamps = node.beside.stamps; bases = node.beside.bases }) c.new-3.result.items c.args.holder.1
    c.requires.founders c.requires.named (ap (λ h. h.0) c.requires.holder) (λ i. record { state = c.new.ensures.state i; stamps = (c.new.ensures.beside i).stamps; bases = (c.new.ensures.beside i).bases }) c.new-3.ensures.items (ap (λ h. h.1) c.requires.holder)
