use Rattle.std.proofs.Common.{◌∙◌, [], true, append-nil, sym, ap}
use Rattle.std.specs.Option.{option_map}
use Rattle.std.proofs.lemmas.Option.{slice_get_within}
use Rattle.rambo_gossip.specs.Outlines.{outlined, standing_of}
use Rattle.rambo_gossip.specs.Kinds.{Kind}
use Rattle.rambo_letters.specs.declared.sent.Sent.{Sent}
use Rattle.rambo_gossip.specs.Letters.{kind_of}
use Rattle.rambo_letters.specs.Kept.{SentState}
use Rattle.rambo_letters.specs.Shared.{gossip_with}
use Rattle.rambo_names.proofs.Errors.{err_if_ok}
use Rattle.rambo_letters.proofs.letters.keep.Goals as goal

pub shared-requires : goal.shared-requires
shared-requires g c = assumption

pub returns-in_ok-shared-in-Some-clause-kept : goal.returns-in_ok-shared-in-Some-clause-kept
returns-in_ok-shared-in-Some-clause-kept g c =
    let letter = c.letter.inside in
    let told = c.outline.inside.told in
    let gossip = c.in-Some.gossip in
    let s : Sent = record {
      told = told;
      known = gossip.known;
      standing = c.in_ok-shared-in-Some.field-0;
      number = gossip.number;
      heard = gossip.heard;
      sender = letter.sender;
      addressee = letter.addressee;
      gossips = true;
    } in
    let kept : Kind g.row.Q.Denot → SentState g.row.Q.Denot = λ k. record { letter = record { sender = letter.sender; addressee = letter.addressee; kind = k }; told = told } in
    ap (λ o. kept (kind_of (option_map (gossip_with s) o))) c.in_ok-shared-in-Some.ensures.at ∙ ap (λ o. kept (outlined o)) (sym c.in-Some.is)
    ∙ ap (λ l. record { letter = l; told = told }) c.letter.view_is ∙ c.outline.view_is

pub returns-in_ok-shared-in-Some-clause-held : goal.returns-in_ok-shared-in-Some-clause-held
returns-in_ok-shared-in-Some-clause-held g c =
    λ gossips. slice_get_within c.shared.new.standings.items c.in_ok-shared-in-Some.field-0 (standing_of c.in-Some.gossip) c.in_ok-shared-in-Some.ensures.at

pub returns-in-None-clause-kept : goal.returns-in-None-clause-kept
returns-in-None-clause-kept g c =
    let letter = c.letter.inside in
    let told = c.outline.inside.told in
    let kept : Kind g.row.Q.Denot → SentState g.row.Q.Denot = λ k. record { letter = record { sender = letter.sender; addressee = letter.addressee; kind = k }; told = told } in
    ap (λ o. kept (outlined o)) (sym c.in-None.is) ∙ ap (λ l. record { letter = l; told = told }) c.letter.view_is ∙ c.outline.view_is

pub returns-in-None-clause-grows : goal.returns-in-None-clause-grows
returns-in-None-clause-grows g c = ([], sym (append-nil c.args.standings.now.items))

pub returns-in_ok-shared-in-Some-clause-grows : goal.returns-in_ok-shared-in-Some-clause-grows
returns-in_ok-shared-in-Some-clause-grows g c = c.shared.ensures.grows

pub returns-in_err-shared-in-Some-clause-grows : goal.returns-in_err-shared-in-Some-clause-grows
returns-in_err-shared-in-Some-clause-grows g c = c.shared.ensures.grows

pub returns-in_err-shared-in-Some-clause-kept : goal.returns-in_err-shared-in-Some-clause-kept
returns-in_err-shared-in-Some-clause-kept g c = err_if_ok c.from_residual.result _ _ c.from_residual.ensures.1

pub returns-in_err-shared-in-Some-clause-held : goal.returns-in_err-shared-in-Some-clause-held
returns-in_err-shared-in-Some-clause-held g c = err_if_ok c.from_residual.result _ _ c.from_residual.ensures.1

pub returns-in-None-clause-held : goal.returns-in-None-clause-held
returns-in-None-clause-held g c gossips = cc
