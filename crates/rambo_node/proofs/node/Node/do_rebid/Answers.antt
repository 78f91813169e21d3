use Rattle.std.proofs.Common.{not, sym, ap, ◌∙◌}
use Rattle.std.proofs.lemmas.Bool.{true≢false}
use Rattle.rambo_config_map.specs.Maps.{end_of}
use Rattle.rambo_bids.specs.Wishes.{is_for}
use Rattle.rambo_node.proofs.Judged.{rebid_next}
use Rattle.rambo_node.proofs.node.Node.do_rebid.Goals as goal

pub bid_again-requires : goal.bid_again-requires
bid_again-requires g c = (c.requires-raw.1.1.0, (sym (ap (λ v. v.state.attempt) c.self.view_is) ∙ c.in-Some.is, (rebid_next c.args.self.now.state c.requires).1))

pub unreachable-requires : goal.unreachable-requires
unreachable-requires g c =
    let x = c.args.self.now.state in
    absurd (true≢false (sym (ap (λ o. not (is_for (end_of x.map) o)) (sym (ap (λ v. v.state.attempt) c.self.view_is) ∙ c.in-None.is)) ∙ (rebid_next x c.requires).0))
