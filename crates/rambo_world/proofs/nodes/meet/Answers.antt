use Rattle.std.proofs.Common.{◌∙◌, ◌≤◌, max, Ok, Err, OnOk, OnErr, refl, sym, ap, subst}
use Rattle.rambo_letters.specs.Kept.{SentState}
use Rattle.rambo_world.specs.Direct.{told_refusal}
use Rattle.rambo_world.specs.Hearing.{HasHeard, IsUnheard}
use Rattle.rambo_world.proofs.Heard.{tells_none, has_met, met_not}
use Rattle.rambo_world.proofs.nodes.meet.Goals as goal

pub outline_of-requires : goal.outline_of-requires
outline_of-requires g c = c.requires-raw.1.1.0

pub hear-requires : goal.hear-requires
hear-requires g c =
    let x = c.two_of-sender.result.0.now.state in
    let is = c.letter.view_is ∙ c.outline_of.ensures in (
      c.requires-raw.1.1.0,
      λ joins. subst (λ n. n ≤ c.args.start) (sym (c.max.ensures ∙ ap (λ o. max c.args.start o.told) is)) (tells_none x c.args.to c.len.result c.args.start (ap (λ o. o.letter.kind) (sym is) ∙ joins)),
    )

pub returns-in-Ok-clause-met : goal.returns-in-Ok-clause-met
returns-in-Ok-clause-met g c =
    let ls = c.args.logs.now.logs in
    let two = c.two_of-sender in
    let hear = c.in_ok-hear.ensures in
    let y = two.result.1.now in
    let z = c.hear.new.node in
    let l = c.letter.inside.letter in
    let heard = subst (λ r. OnOk r (HasHeard y z ls c.hear.new.logs.logs l c.args.start c.max.result)) c.in-Ok.is hear.heard in
    has_met g.Q.Quorums.system c.args.nodes.now c.args.from c.args.to c.place_of.result c.place_of-2.result c.place_of.ensures.place c.place_of-2.ensures.place two.result.0.now y z two.ensures.items
    ls c.hear.new.logs.logs c.args.start c.len.result (record { letter = l; told = c.letter.inside.told }) (c.letter.view_is ∙ c.outline_of.ensures) c.len.ensures.count c.requires.named (Ok (Ok c.letter.inside.told))
    (record {
      refusal = ap told_refusal (sym c.in-Ok.is) ∙ hear.told;
      told = refl;
      heard = subst (λ n. HasHeard y z ls c.hear.new.logs.logs l c.args.start n) c.max.ensures heard;
      stays = tt;
      accepted = tt;
      err = tt;
    })

pub returns-in-Err-clause-met : goal.returns-in-Err-clause-met
returns-in-Err-clause-met g c =
    let ls = c.args.logs.now.logs in
    let two = c.two_of-sender in
    let hear = c.in_ok-hear.ensures in
    let y = two.result.1.now in
    let z = c.hear.new.node in
    let l = c.letter.inside.letter in
    has_met g.Q.Quorums.system c.args.nodes.now c.args.from c.args.to c.place_of.result c.place_of-2.result c.place_of.ensures.place c.place_of-2.ensures.place two.result.0.now y z two.ensures.items
    ls c.hear.new.logs.logs c.args.start c.len.result (record { letter = l; told = c.letter.inside.told }) (c.letter.view_is ∙ c.outline_of.ensures) c.len.ensures.count c.requires.named (Ok (Err c.in-Err.refusal))
    (record {
      refusal = ap told_refusal (sym c.in-Err.is) ∙ hear.told;
      told = tt;
      heard = tt;
      stays = subst (λ r. OnErr r (IsUnheard y z ls c.hear.new.logs.logs)) c.in-Err.is hear.stays;
      accepted = tt;
      err = tt;
    })

pub returns-in_err-hear-clause-met : goal.returns-in_err-hear-clause-met
returns-in_err-hear-clause-met g c =
    let ls = c.args.logs.now.logs in
    let two = c.two_of-sender in
    let y = two.result.1.now in
    let z = c.hear.new.node in
    let m : SentState _ = record { letter = c.letter.inside.letter; told = c.letter.inside.told } in
    has_met g.Q.Quorums.system c.args.nodes.now c.args.from c.args.to c.place_of.result c.place_of-2.result c.place_of.ensures.place c.place_of-2.ensures.place two.result.0.now y z two.ensures.items
    ls c.hear.new.logs.logs c.args.start c.len.result m (c.letter.view_is ∙ c.outline_of.ensures) c.len.ensures.count c.requires.named c.from_residual.result
    (met_not _ g.Q.Quorums.system y z ls c.hear.new.logs.logs m c.args.start c.from_residual.result c.from_residual.ensures.1 c.in_err-hear.ensures.accepted c.in_err-hear.ensures.err)
