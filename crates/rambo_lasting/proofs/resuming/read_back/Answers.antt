use Rattle.std.proofs.Common.{◌≡◌, ◌++◌, ap, sym, subst, ◌∙◌}
use Rattle.rambo_retrace.specs.Retraces.{retraced}
use Rattle.rambo_lasting.specs.Resumings.{HoldsTrace}
use Rattle.rambo_lasting.proofs.Held.{held}
use Rattle.rambo_lasting.proofs.Untaken.{steps_why, untaken_so}
use Rattle.rambo_lasting.proofs.resuming.read_back.Goals as goal

pub returns-in-Ok-retrace-clause-held : goal.returns-in-Ok-retrace-clause-held
returns-in-Ok-retrace-clause-held g c =
    let found = c.in-Ok-retrace.ensures in
    let on = found.ok.0 in
    let torn = c.retrace.new.unread.held in
    let all : on.steps ≡ c.retrace.new.taker.recovery = sym (on.taken ∙ ap (λ l. l ++ on.steps) c.in-Ok.ensures.none) in
    let whole = held g.K.Holds.held _ _ c.args.unread.held torn c.args.founders on.steps c.requires.read on.read found.end in
    (torn, found.ok.1 ∙ ap (λ l. retraced l torn) all, subst (λ l. HoldsTrace g.K.Holds.held c.args.founders l torn) all (whole, found.torn))

pub returns-clause-why : goal.returns-clause-why
returns-clause-why g c =
    let on = c.in-Err.ensures.err.0 in
    let founders = c.args.founders in
    λ asked. steps_why c.args.options.now.lose asked g.K.Holds.held _ _ _ _ founders on.steps _ c.in-Err.fault c.requires.read on.read
    (λ st r a. untaken_so founders _ _ _ _ _ _ st r (sym c.requires.capacity ∙ c.requires.last) (sym c.requires.lose) (a.1 ∙ on.taken ∙ ap (λ l. l ++ on.steps) c.in-Ok.ensures.none) (a.2 founders c.requires.founders))
    c.in-Err.ensures.err.1
