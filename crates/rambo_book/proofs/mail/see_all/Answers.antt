use Rattle.std.proofs.Common.{◌≡◌, length, sym, ap, ◌∙◌, subst, arith}
use mathlib.Core.List.{IsPrefix}
use Rattle.rambo_run.specs.Legal.{IsLegal}
use Rattle.rambo_run.specs.Runs.{run}
use Rattle.rambo_run.specs.Worlds.{node_at}
use Rattle.rambo_node.specs.FullNodes.{FullNode}
use Rattle.rambo_deltas.specs.Deltas.{full_at}
use Rattle.rambo_roll.specs.Stocks.{StockView}
use Rattle.rambo_book.proofs.Judging.{still, still_full, begun, kept_on}
use Rattle.rambo_book.proofs.Books.{whole_book, still_book}
use Rattle.rambo_book.proofs.mail.see_all.Goals as goal

pub invariant_of-keeper : goal.invariant_of-keeper
invariant_of-keeper g c =
    let s = g.Q.Quorums.system in
    let b = whole_book c.book.invariant.0 in
    let k = c.keeper.invariant in
    let idle = c.agree.ensures.idle in
    let all : c.catch_up.new.keeper.1 ≡ c.book.inside.steps.all = ap (λ h. h.1) c.catch_up.ensures.keeper ∙ ap (λ (v : StockView _). v.all) c.agree.ensures.stock in
    let w = c.keeper.inside.node in
    let node : FullNode _ = record { state = w.state; stamps = w.beside.stamps; bases = w.beside.bases } in
    kept_on s g.J.Terms.founders g.J.Terms.capacity c.book.inside.founders c.keeper.inside.holder.0 c.catch_up.new.keeper.0 c.keeper.inside.name node node c.keeper.inside.tray.items c.keeper.inside.holder.1 c.catch_up.new.keeper.1
    b.founded k (ap (λ h. h.0) c.catch_up.ensures.keeper ∙ ap (λ h. h.0) c.agree.ensures.keeper)
    (subst (IsPrefix c.keeper.inside.holder.1) (sym all) (begun _ _ _ _ _ _ _ _ _ _ _ _ _ _ _ b k idle))
    (subst (IsLegal s c.book.inside.founders) (sym all) b.legal)
    (omega (arith, ap length all, b.fits, b.terms))
    (ap (λ l. node_at (run s c.book.inside.founders l) c.keeper.inside.name) all ∙ still _ _ _ _ _ _ _ _ _ _ _ _ _ _ _ b k idle)
    (ap (λ l. full_at s c.book.inside.founders l c.keeper.inside.name) all ∙ still_full _ _ _ _ _ _ _ _ _ _ _ _ _ _ _ b k idle)

pub invariant_of-book : goal.invariant_of-book
invariant_of-book g c = (still_book c.catch_up.new.self c.book.invariant.0 (c.catch_up.ensures.stock ∙ c.agree.ensures.stock), c.book.invariant.1, c.book.invariant.2)
