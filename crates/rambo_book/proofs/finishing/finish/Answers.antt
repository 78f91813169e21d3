use Rattle.std.proofs.Common.{sym, ap, ◌∙◌, subst}
use Rattle.rambo_node.specs.Changes.{made_by}
use Rattle.rambo_node.specs.Halves.{event_of, letter_of, mark_in}
use Rattle.rambo_run.specs.Chronicles.{IsMarked}
use Rattle.rambo_run.specs.Steps.{effect_in, with_event, with_letter}
use Rattle.rambo_book.specs.Records.{Recorded}
use Rattle.rambo_book.proofs.Ending.{told_alike}
use Rattle.rambo_book.proofs.finishing.finish.Goals as goal

pub end-ended-requires : goal.end-ended-requires
end-ended-requires g c = (c.requires-raw.1.1.0, c.requires.ready)

pub enter_ended-requires : goal.enter_ended-requires
enter_ended-requires g c = record {
  few = c.requires.few;
  room = c.requires.room;
  fits = λ v e there is. c.requires.fits v e there (sym c.end-ended.ensures.event ∙ is);
  told = λ v m there is.
      subst (λ e. IsMarked (with_event v.events e) m) (sym c.end-ended.ensures.event) (c.requires.told v m there (sym c.end-ended.ensures.mark ∙ is));
}

pub returns-clause-effect : goal.returns-clause-effect
returns-clause-effect g c = λ a ls ready counts.
    let v = c.args.node.now in
    c.enter_ended.ensures.effect ls counts ∙ (λ i. effect_in ls (c.end-ended.ensures.effect a ready i) (c.end-ended.ensures.letter i))
    ∙ told_alike v ls (made_by v.state a).deed.effect (letter_of c.args.half) (made_by v.state a).letter ready.letter

pub returns-clause-letters : goal.returns-clause-letters
returns-clause-letters g c = c.enter_ended.ensures.letters ∙ ap (with_letter c.args.letters.now.kept) c.end-ended.ensures.letter

pub returns-clause-kept : goal.returns-clause-kept
returns-clause-kept g c =
    let old = c.args.kept.now in
    let new = c.enter_ended.new.kept in
    subst (λ m. Recorded (event_of c.args.half) m old new) c.end-ended.ensures.mark (subst (λ e. Recorded e (mark_in c.end-ended.result.going) old new) c.end-ended.ensures.event c.enter_ended.ensures.kept)
