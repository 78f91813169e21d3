use Rattle.std.proofs.Common.{◌≡◌, ◌-◌, true, length, arith, sym, ap, ◌∙◌, length-append}
use Rattle.rambo_resp.specs.Spellings.{command_spelling}
use Rattle.rambo_resp.specs.BriefCommands.{items_of, is_between}
use Rattle.rambo_resp.proofs.Briefs.{taken_by}
use Rattle.rambo_resp.proofs.decoder.Decoder.next_in.Goals as goal

pub returns-clause-taken : goal.returns-clause-taken
returns-clause-taken c = λ stream given h.
    let p = c.self.inside.progress in
    let items = items_of c.in_ok-command.command in
    let between : is_between p ≡ true = sym c.is_between.ensures ∙ c.if-not-is_between.false in
    let size : length c.args.piece.now - length c.in_ok-command.rest.now ≡ length (command_spelling items) =
    omega (arith, ap length c.in_ok-command.ensures.spelled, length-append (command_spelling items) c.in_ok-command.rest.now) in
    taken_by p c.skip.new.self c.self.inside.fault c.args.self.now (length c.args.piece.now - length c.in_ok-command.rest.now) items stream given
    (sym c.is_some.ensures ∙ c.if-is_some.false) between c.self.view_is c.skip.ensures c.in_ok-command.ensures.brief size h
